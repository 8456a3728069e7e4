-- What it is to be in a list, by cases, and between lists. Assumes nothing.
use Rattle.std.proofs.Common.{◌≡◌, ℕ, zero, suc, ◌<◌, Bool, true, false, ◌⊎◌, List, [], ◌∷◌, ◌++◌, length, get_or, refl, inl, inr, arith}
use Rattle.columns.specs.Cols.{pick}
use Rattle.columns.specs.Members.{In}

-- to go by the cases of a test, with what each says
pub pick_both : {A : Type 0} (b : Bool) (x y : A) (P : A → Type 0) → (b ≡ true → P x) → (b ≡ false → P y) → P (pick b x y)
pick_both true x y P f g = f refl
pick_both false x y P f g = g refl

module _ {A : Type 0} where
  pub in_left : (xs ys : List A) (x : A) → In x xs → In x (xs ++ ys)
  in_left [] ys x h = absurd h
  in_left (y ∷ xs) ys x h = elim h [ inl e ↦ inl e | inr k ↦ inr (in_left xs ys x k) ]

  pub in_right : (xs ys : List A) (x : A) → In x ys → In x (xs ++ ys)
  in_right [] ys x h = h
  in_right (y ∷ xs) ys x h = inr (in_right xs ys x h)

  pub in_either : (xs ys : List A) (x : A) → In x (xs ++ ys) → In x xs ⊎ In x ys
  in_either [] ys x h = inr h
  in_either (y ∷ xs) ys x h =
      elim h [ inl e ↦ inl (inl e) | inr k ↦ elim (in_either xs ys x k) [ inl a ↦ inl (inr a) | inr b ↦ inr b ] ]

  pub in_at : (xs : List A) (i : ℕ) (d : A) → i < length xs → In (get_or xs i d) xs
  in_at [] i d h = absurd (omega arith)
  in_at (x ∷ xs) zero d h = inl refl
  in_at (x ∷ xs) (suc i) d h = inr (in_at xs i d (omega arith))

  pub at_in : (xs : List A) (x d : A) → In x xs → (i : ℕ) × (i < length xs) × (get_or xs i d ≡ x)
  at_in [] x d h = absurd h
  at_in (y ∷ xs) x d h =
      elim h [ inl e ↦ (0, omega arith, e) | inr k ↦ let r = at_in xs x d k in (suc r.0, omega (arith, r.1), r.2) ]
