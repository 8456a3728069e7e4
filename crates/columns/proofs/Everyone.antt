-- Tests of all members say what they say of each. Assumes nothing.
use Rattle.std.proofs.Common.{◌≡◌, Bool, true, List, [], ◌∷◌, sym, refl, subst, inl, inr}
use Rattle.std.proofs.lemmas.Bool.{false≢true, and_parts, and_from, or_cases, or_left, or_right}
use Rattle.columns.specs.Every.{every, any, each}
use Rattle.columns.specs.Members.{In}
use Rattle.columns.proofs.Members.{in_left, in_right, in_either}

module _ {A : Type 0} where
  pub every_at : (xs : List A) (f : A → Bool) → every xs f ≡ true → (x : A) → In x xs → f x ≡ true
  every_at [] f h x i = absurd i
  every_at (y ∷ ys) f h x i =
      let p = and_parts (f y) (every ys f) h in
      elim i [ inl e ↦ subst (λ v. f v ≡ true) e p.0 | inr k ↦ every_at ys f p.1 x k ]

  pub every_from : (xs : List A) (f : A → Bool) → ((x : A) → In x xs → f x ≡ true) → every xs f ≡ true
  every_from [] f g = refl
  every_from (y ∷ ys) f g = and_from (f y) (every ys f) (g y (inl refl)) (every_from ys f (λ x i. g x (inr i)))

  pub any_some : (xs : List A) (f : A → Bool) → any xs f ≡ true → (x : A) × In x xs × (f x ≡ true)
  any_some [] f h = absurd (false≢true h)
  any_some (y ∷ ys) f h =
      elim (or_cases (f y) (any ys f) h) [ inl e ↦ (y, inl refl, e) | inr e ↦ let r = any_some ys f e in (r.0, inr r.1, r.2) ]

  pub any_from : (xs : List A) (f : A → Bool) (x : A) → In x xs → f x ≡ true → any xs f ≡ true
  any_from [] f x i e = absurd i
  any_from (y ∷ ys) f x i e =
      elim i [
        | inl q ↦ or_left (f y) (any ys f) (subst (λ v. f v ≡ true) (sym q) e)
        | inr k ↦ or_right (f y) (any ys f) (any_from ys f x k e)
      ]

module _ {A B : Type 0} where
  pub in_each : (xs : List A) (f : A → List B) (x : A) (b : B) → In x xs → In b (f x) → In b (each xs f)
  in_each [] f x b i j = absurd i
  in_each (y ∷ ys) f x b i j =
      elim i [
        | inl q ↦ in_left (f y) (each ys f) b (subst (λ v. In b (f v)) (sym q) j)
        | inr k ↦ in_right (f y) (each ys f) b (in_each ys f x b k j)
      ]

  pub each_in : (xs : List A) (f : A → List B) (b : B) → In b (each xs f) → (x : A) × In x xs × In b (f x)
  each_in [] f b i = absurd i
  each_in (y ∷ ys) f b i =
      elim (in_either (f y) (each ys f) b i)
      [ inl h ↦ (y, inl refl, h) | inr h ↦ let r = each_in ys f b h in (r.0, inr r.1, r.2) ]
