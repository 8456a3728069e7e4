-- To leave out of a left side, column by column, what is not needed to fix a column.
use Rattle.std.proofs.Common.{◌≡◌, ℕ, true, false, not, ◌&&◌, eqb, List, [], ◌∷◌, sym, refl, ◌∙◌, subst, inl, inr}
use Rattle.std.proofs.lemmas.Bool.{cases_Bool, cases_eq, and_parts, and_from, eq-eqb, ne_eqb, both_ways, not-true, not_from_false}
use Rattle.columns.specs.Cols.{Cols, has}
use Rattle.columns.specs.Members.{In, Sub}
use Rattle.columns.proofs.Columns.{has_in, in_has, all_in_sub, sub_all_in, in_or_not}
use Rattle.dependencies.specs.Tables.{Dep}
use Rattle.dependencies.specs.Closure.{closure}
use Rattle.dependencies.proofs.Fixing.{closure_monotone}
use Rattle.cover.specs.Fine.{Reduced}

-- of the columns l, s are left; but for those still to do, they are needed to fix b
pub record Narrow (ds : List Dep) (l : Cols) (b : ℕ) (todo s : Cols) : Type 0 where
  pub inside : Sub s l
  pub fixes : has (closure ds s) b ≡ true
  pub need : (d : ℕ) → In d s → (In d todo → ⊥) → (j : Cols) → Sub j s → (In d j → ⊥) → has (closure ds j) b ≡ false

abbrev pub Without : Cols → ℕ → Cols → Type 0
Without s c t = (d : ℕ) → has t d ≡ (has s d && not (eqb c d))

without_sub : (s : Cols) (c : ℕ) (t : Cols) → Without s c t → Sub t s
without_sub s c t f d i = has_in s d (and_parts (has s d) (not (eqb c d)) (sym (f d) ∙ in_has t d i)).0

without_not : (s : Cols) (c : ℕ) (t : Cols) → Without s c t → In c t → ⊥
without_not s c t f i =
    let q = (and_parts (has s c) (not (eqb c c)) (sym (f c) ∙ in_has t c i)).1 in
    both_ways (eqb c c) (not-true (eqb c c) q) (eq-eqb c c refl)

without_in : (s : Cols) (c : ℕ) (t : Cols) → Without s c t → (d : ℕ) → In d s → (c ≡ d → ⊥) → In d t
without_in s c t f d i ne = has_in t d (f d ∙ and_from (has s d) (not (eqb c d)) (in_has s d i) (not_from_false (eqb c d) (ne_eqb c d ne)))

module _ (ds : List Dep) (l : Cols) (b c : ℕ) (before todo s t : Cols) (e : before ≡ c ∷ todo) (n : Narrow ds l b before s) (f : Without s c t) where
  -- what is neither c nor still to do was not to do before
  outside : (d : ℕ) → (d ≡ c → ⊥) → (In d todo → ⊥) → In d before → ⊥
  outside d ne out i = elim (subst (λ v. In d v) e i) [ inl q ↦ ne (sym q) | inr j ↦ out j ]

  -- without c it is still fixed
  pub narrow_leave : has (closure ds t) b ≡ true → Narrow ds l b todo t
  narrow_leave h =
      let sub = without_sub s c t f in
      record {
        inside = λ d i. n.inside d (sub d i);
        fixes = h;
        need = λ d i out j js no·.
            n.need d (sub d i) (outside d (λ q. without_not s c t f (subst (λ v. In v t) q i)) out) j (λ x m. sub x (js x m)) no·;
      }

  -- it is not
  pub narrow_keep : has (closure ds t) b ≡ false → Narrow ds l b todo s
  narrow_keep h =
      record {
        inside = n.inside;
        fixes = n.fixes;
        need = λ d i out j js no·.
            elim (cases_eq d c) [
              | inl q ↦
                  elim (cases_Bool (has (closure ds j) b)) [
                    | inl g ↦
                        let jt : Sub j t = λ x m. without_in s c t f x (js x m) (λ p. no· (subst (λ v. In v j) (sym (q ∙ p)) m)) in
                        absurd (both_ways (has (closure ds t) b) h (in_has (closure ds t) b (closure_monotone ds j t jt b (has_in (closure ds j) b g))))
                    | inr g ↦ g
                  ]
              | inr ne ↦ n.need d i (outside d ne out) j js no·
            ];
      }

pub narrow_end : (ds : List Dep) (l : Cols) (b : ℕ) (todo s : Cols) → todo ≡ [] → Narrow ds l b todo s → Reduced ds l b s
narrow_end ds l b todo s e n =
    record {
      inside = sub_all_in s l n.inside;
      fixes = n.fixes;
      least = λ j js h.
          sub_all_in s j (λ d i.
          elim (in_or_not j d) [
            | inl m ↦ m
            | inr no· ↦ absurd (both_ways (has (closure ds j) b) (n.need d i (λ k. subst (λ v. In d v) e k) j (all_in_sub j s js) no·) h)
          ]);
    }
