-- Each set inside another has the members of one of its subsets. Assumes nothing.
use Rattle.std.proofs.Common.{ℕ, [], ◌∷◌, sym, refl, subst, inl, inr}
use Rattle.columns.specs.Cols.{Cols}
use Rattle.columns.specs.Every.{subsets}
use Rattle.columns.specs.Members.{In, Sub}
use Rattle.columns.proofs.Columns.{in_or_not}
use Rattle.columns.proofs.Everyone.{in_each, each_in}

pub subset_sub : (p y : Cols) → In y (subsets p) → Sub y p
subset_sub [] y h =
    elim h [ inl e ↦ subst (λ v. Sub v []) e (λ c i. i) | inr z ↦ absurd z ]
subset_sub (a ∷ p) y h =
    let r = each_in (subsets p) (λ ys. (a ∷ ys) ∷ ys ∷ []) y h in
    let below = subset_sub p r.0 r.1 in
    elim r.2 [
      | inl e ↦ subst (λ v. Sub v (a ∷ p)) e (λ c i. elim i [ inl q ↦ inl q | inr k ↦ inr (below c k) ])
      | inr m ↦ elim m [ inl e ↦ subst (λ v. Sub v (a ∷ p)) e (λ c i. inr (below c i)) | inr z ↦ absurd z ]
    ]

pub subset_found : (p x : Cols) → (y : Cols) × In y (subsets p) × Sub y x × ((c : ℕ) → In c x → In c p → In c y)
subset_found [] x = ([], inl refl, λ c i. absurd i, λ c i j. absurd j)
subset_found (a ∷ p) x =
    let r = subset_found p x in
    elim (in_or_not x a) [
      | inl h ↦ (
        a ∷ r.0,
        in_each (subsets p) (λ ys. (a ∷ ys) ∷ ys ∷ []) r.0 (a ∷ r.0) r.1 (inl refl),
        λ c i. elim i [ inl e ↦ subst (λ v. In v x) e h | inr k ↦ r.2 c k ],
        λ c i j. elim j [ inl e ↦ inl e | inr k ↦ inr (r.3 c i k) ],
      )
      | inr h ↦ (
        r.0,
        in_each (subsets p) (λ ys. (a ∷ ys) ∷ ys ∷ []) r.0 r.0 r.1 (inr (inl refl)),
        r.2,
        λ c i j. elim j [ inl e ↦ absurd (h (subst (λ v. In v x) (sym e) i)) | inr k ↦ r.3 c i k ],
      )
    ]

-- for a set inside p the subset has the same members
pub subset_same : (p x : Cols) → Sub x p → (y : Cols) × In y (subsets p) × Sub y x × Sub x y
subset_same p x f = let r = subset_found p x in (r.0, r.1, r.2, λ c i. r.3 c i (f c i))
