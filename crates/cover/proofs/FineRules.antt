-- Rules with one right column each and no left column that is not needed, made from any rules. Assumes nothing.
use Rattle.std.proofs.Common.{◌≡◌, ℕ, zero, suc, ◌*◌, ◌≤◌, true, List, [], ◌∷◌, ◌++◌, length, sym, refl, ap, subst, inl, inr, mul-suc, arith, length-append}
use Rattle.columns.specs.Cols.{Cols, has, columns, pick}
use Rattle.dependencies.specs.Tables.{Dep, Implied}
use Rattle.dependencies.specs.Closure.{closure}
use Rattle.columns.specs.Members.{In, Sub}
use Rattle.columns.proofs.Members.{pick_both, in_left, in_right, in_either}
use Rattle.columns.proofs.Columns.{has_in, has_not_in, sub_all_in}
use Rattle.dependencies.proofs.Closures.{closure_grows}
use Rattle.dependencies.proofs.Fired.{closure_closed}
use Rattle.dependencies.proofs.Exact.{closure_implied, implied_closure}
use Rattle.dependencies.proofs.Consequence.{AllFollow, member_follows}
use Rattle.columns.proofs.Shrink.{keep_sub, keep_good}
use Rattle.dependencies.proofs.Fixing.{fixes_all_lem, fixes_implied}
use Rattle.dependencies.proofs.Reduced.{reduced}

-- what fixes the column c, of the columns l
abbrev pub fine : List Dep → Cols → ℕ → Dep
fine ds l c = record { left = reduced ds (c ∷ []) l; right = c ∷ [] }

abbrev fine_of : List Dep → Dep → Cols → List Dep
fine_of ds d [] = []
fine_of ds d (c ∷ cs) = pick (has d.right c) (fine ds d.left c ∷ fine_of ds d cs) (fine_of ds d cs)

-- the rules es so made fine under ds, for right columns below n
abbrev pub fines : List Dep → ℕ → List Dep → List Dep
fines ds n [] = []
fines ds n (d ∷ es) = fine_of ds d (columns 0 n) ++ fines ds n es

fine_of_short : (ds : List Dep) (d : Dep) (cs : Cols) → length (fine_of ds d cs) ≤ length cs
fine_of_short ds d [] = omega arith
fine_of_short ds d (c ∷ cs) =
    pick_both (has d.right c) (fine ds d.left c ∷ fine_of ds d cs) (fine_of ds d cs) (λ v. length v ≤ suc (length cs))
    (λ e. omega (arith, fine_of_short ds d cs)) (λ e. omega (arith, fine_of_short ds d cs))

columns_length : (a n : ℕ) → length (columns a n) ≡ n
unfolding columns
columns_length a zero = refl
columns_length a (suc n) = ap suc (columns_length (suc a) n)

pub fines_short : (ds : List Dep) (n : ℕ) (es : List Dep) → length (fines ds n es) ≤ n * length es
fines_short ds n [] = omega arith
fines_short ds n (d ∷ es) =
    rw mul-suc
    (omega (arith, length-append (fine_of ds d (columns 0 n)) (fines ds n es), fine_of_short ds d (columns 0 n), columns_length 0 n, fines_short ds n es))

-- where a fine rule comes from
pub record Made (ds es : List Dep) (n : ℕ) (m : Dep) : Type 0 where
  pub rule : Dep
  pub column : ℕ
  pub there : In rule es
  pub of_it : In column rule.right
  pub below : In column (columns 0 n)
  pub is : fine ds rule.left column ≡ m

fine_of_made : (ds : List Dep) (d : Dep) (cs : Cols) (m : Dep) → In m (fine_of ds d cs)
    → (c : ℕ) × In c d.right × In c cs × (fine ds d.left c ≡ m)
fine_of_made ds d [] m h = absurd h
fine_of_made ds d (c ∷ cs) m h =
    let Goal : Cols → Type 0 = λ xs. (a : ℕ) × In a d.right × In a xs × (fine ds d.left a ≡ m) in
    let later· : In m (fine_of ds d cs) → Goal (c ∷ cs) = λ i. let r = fine_of_made ds d cs m i in (r.0, r.1, inr r.2, r.3) in
    pick_both (has d.right c) (fine ds d.left c ∷ fine_of ds d cs) (fine_of ds d cs) (λ v. In m v → Goal (c ∷ cs))
    (λ e k. elim k [ inl q ↦ (c, has_in d.right c e, inl refl, q) | inr i ↦ later· i ]) (λ e. later·) h

pub fines_made : (ds : List Dep) (n : ℕ) (es : List Dep) (m : Dep) → In m (fines ds n es) → Made ds es n m
fines_made ds n [] m h = absurd h
fines_made ds n (d ∷ es) m h =
    elim (in_either (fine_of ds d (columns 0 n)) (fines ds n es) m h) [
      | inl a ↦
          let r = fine_of_made ds d (columns 0 n) m a in
          record { rule = d; column = r.0; there = inl refl; of_it = r.1; below = r.2; is = r.3 }
      | inr b ↦
          let r = fines_made ds n es m b in
          record { rule = r.rule; column = r.column; there = inr r.there; of_it = r.of_it; below = r.below; is = r.is }
    ]

fine_of_has : (ds : List Dep) (d : Dep) (cs : Cols) (c : ℕ) → In c d.right → In c cs → In (fine ds d.left c) (fine_of ds d cs)
fine_of_has ds d [] c h i = absurd i
fine_of_has ds d (x ∷ cs) c h i =
    pick_both (has d.right x) (fine ds d.left x ∷ fine_of ds d cs) (fine_of ds d cs) (λ v. In (fine ds d.left c) v)
    (λ e. elim i [ inl q ↦ inl (ap (λ v. fine ds d.left v) q) | inr j ↦ inr (fine_of_has ds d cs c h j) ])
    (λ e. elim i [ inl q ↦ absurd (has_not_in d.right x e (subst (λ v. In v d.right) (sym q) h)) | inr j ↦ fine_of_has ds d cs c h j ])

pub fines_has : (ds : List Dep) (n : ℕ) (es : List Dep) (d : Dep) → In d es → (c : ℕ) → In c d.right → In c (columns 0 n)
    → In (fine ds d.left c) (fines ds n es)
fines_has ds n [] d h c i l = absurd h
fines_has ds n (e ∷ es) d h c i l =
    elim h [
      | inl q ↦
          in_left (fine_of ds e (columns 0 n)) (fines ds n es) (fine ds d.left c)
          (subst (λ v. In (fine ds v.left c) (fine_of ds e (columns 0 n))) q
          (fine_of_has ds e (columns 0 n) c (subst (λ v. In c v.right) (sym q) i) l))
      | inr k ↦ in_right (fine_of ds e (columns 0 n)) (fines ds n es) (fine ds d.left c) (fines_has ds n es d k c i l)
    ]

-- the left of a rule fixes each of its right columns
pub right_fixed : (ds : List Dep) (d : Dep) → In d ds → (c : ℕ) → In c d.right → fixes_all_lem ds (c ∷ []) d.left ≡ true
right_fixed ds d h c i =
    sub_all_in (c ∷ []) (closure ds d.left) (λ x k.
    elim k [ inl e ↦ implied_closure ds d (member_follows ds d h) x (subst (λ v. In v d.right) e i) | inr z ↦ absurd z ])

pub fines_follow : (ds : List Dep) (n : ℕ) → AllFollow ds (fines ds n ds)
fines_follow ds n m h =
    let r = fines_made ds n ds m h in
    subst (λ v. Implied ds v) r.is
    (fixes_implied ds (r.column ∷ []) (reduced ds (r.column ∷ []) r.rule.left)
    (keep_good (fixes_all_lem ds (r.column ∷ [])) [] r.rule.left (right_fixed ds r.rule r.there r.column r.of_it)))

pub follow_fines : (ds : List Dep) (n : ℕ) → ((d : Dep) → In d ds → Sub d.right (columns 0 n)) → AllFollow (fines ds n ds) ds
follow_fines ds n small d h =
    closure_implied (fines ds n ds) d (λ c i.
    closure_closed (fines ds n ds) d.left (fine ds d.left c) (fines_has ds n ds d h c i (small d h c i))
    (λ x k. closure_grows (fines ds n ds) d.left x (keep_sub (fixes_all_lem ds (c ∷ [])) [] d.left x k)) c (inl refl))
