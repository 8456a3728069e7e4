-- A rule that does not follow, and the two rows against it.
use Rattle.std.proofs.Common.{◌≡◌, ℕ, ◌<◌, true, false, List, [], ◌∷◌, get_or, sym, refl, ap, ◌∙◌, subst, inl, inr, arith}
use Rattle.std.proofs.lemmas.Bool.{true≢false}
use Rattle.columns.specs.Cols.{Cols, pick, has, all_in, Same}
use Rattle.columns.specs.Members.{In, Sub}
use Rattle.columns.proofs.Columns.{has_in, in_has, in_or_not, not_in_has, not_all_in, all_in_sub, sub_all_in}
use Rattle.dependencies.specs.Tables.{Dep, Obeys, ObeysAll, Implied, Proper, fixing, zero_row, differ_row, pair_on}
use Rattle.dependencies.specs.Closure.{closure, Closes}
use Rattle.dependencies.specs.Meaning.{Refuted}
use Rattle.dependencies.proofs.Rows.{Same as EqualIn, same_agree, agree_same}
use Rattle.dependencies.proofs.Tables.{obeys_pair}
use Rattle.dependencies.proofs.Closures.{Closed, closure_grows}
use Rattle.dependencies.proofs.Fired.{closure_closed}
use Rattle.dependencies.proofs.Exact.{closure_implied, implied_closure}
use Rattle.dependencies.proofs.Marks.{two_obey}
use Rattle.dependencies.proofs.OneTable.{closed_pair}
use Rattle.dependencies.proofs.Drawn.{drawn}
use Rattle.dependencies.proofs.Smalls.{proper_small}

-- the computed closure is the closure over tables
pub closes : (ds : List Dep) (x y : Cols) → Same y (closure ds x) → Closes ds x y
closes ds x y e = record {
  computed = e;
  fixed = λ c h.
      closure_implied ds (fixing x c) (λ d i.
      elim i [ inl q ↦ subst (λ v. In v (closure ds x)) q (has_in (closure ds x) c (sym (e c) ∙ h)) | inr z ↦ absurd z ]);
  all = λ c f. e c ∙ in_has (closure ds x) c (implied_closure ds (fixing x c) f c (inl refl));
}

-- the cells of the two rows
zero_cell : (n c : ℕ) → c < n → get_or (zero_row n) c 0 ≡ 0
zero_cell n c l = drawn (λ d. 0) n c l

differ_cell : (n : ℕ) (s : Cols) (c : ℕ) → c < n → get_or (differ_row n s) c 0 ≡ pick (has s c) 0 1
differ_cell n s c l = drawn (λ d. pick (has s d) 0 1) n c l

module _ (n : ℕ) (s : Cols) where
  equal_in : (c : ℕ) → c < n → In c s → EqualIn (zero_row n) (differ_row n s) c
  equal_in c l i = zero_cell n c l ∙ sym (differ_cell n s c l ∙ ap (λ b. pick b 0 1) (in_has s c i))

  in_equal : (c : ℕ) → c < n → EqualIn (zero_row n) (differ_row n s) c → In c s
  in_equal c l e =
      elim (in_or_not s c) [
        | inl i ↦ i
        | inr f ↦
            let one : get_or (differ_row n s) c 0 ≡ 1 = differ_cell n s c l ∙ ap (λ b. pick b 0 1) (not_in_has s c f) in
            let zero· : get_or (zero_row n) c 0 ≡ 0 = zero_cell n c l in
            absurd (omega arith)
      ]

module _ (ds : List Dep) (d : Dep) (s : Cols) (k : Closes ds d.left s) where
  into : Sub (closure ds d.left) s
  into c i = has_in s c (k.computed c ∙ in_has (closure ds d.left) c i)

  out_of : Sub s (closure ds d.left)
  out_of c i = has_in (closure ds d.left) c (sym (k.computed c) ∙ in_has s c i)

  s_closed : Closed ds (λ c. In c s)
  s_closed m h f c i = into c (closure_closed ds d.left m h (λ x j. out_of x (f x j)) c i)

  rows_against_lem : all_in d.right s ≡ false → (n : ℕ) → Proper n ds → Proper n (d ∷ [])
      → ObeysAll (pair_on n s) ds × (Obeys (pair_on n s) d → ⊥)
  rows_against_lem out n p q =
      let small = proper_small n (d ∷ []) q d (inl refl) in (
        two_obey (zero_row n) (differ_row n s) ds
            (closed_pair n ds (proper_small n ds p) s s_closed (zero_row n) (differ_row n s) (in_equal n s) (equal_in n s)),
        λ o.
            let bad = not_all_in d.right s out in
            let left = same_agree d.left (zero_row n) (differ_row n s)
            (λ c i. equal_in n s c ((small c).0 i) (into c (closure_grows ds d.left c i))) in
            let right = obeys_pair (pair_on n s) d o (zero_row n) (differ_row n s) (inl refl) (inr (inl refl)) left in
            bad.2 (in_equal n s bad.0 ((small bad.0).1 bad.1) (agree_same d.right (zero_row n) (differ_row n s) right bad.0 bad.1)),
      )

  pub refuted : all_in d.right s ≡ false → Refuted ds d s
  refuted out = record {
    against = λ f.
        let h : Sub d.right s = λ c i. into c (implied_closure ds d f c i) in
        true≢false (sym (sub_all_in d.right s h) ∙ out);
    fixed = k;
    rows = rows_against_lem out;
  }

  pub implied : all_in d.right s ≡ true → Implied ds d
  implied h = closure_implied ds d (λ c i. out_of c (all_in_sub d.right s h c i))
