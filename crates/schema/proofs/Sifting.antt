-- The two sides of a test, one member more, and what is left out of a bounded list.
use Rattle.std.proofs.Common.{cond, not, filter, ◌≡◌, suc, ◌+◌, ◌≤◌, Bool, true, false, ◌||◌, List, [], ◌∷◌, ◌++◌, length, sym, refl, ap, ◌∙◌, inl, inr, arith}
use Rattle.columns.specs.Cols.{pick, all_in}
use Rattle.columns.specs.Every.{any}
use Rattle.columns.specs.Members.{Sub}
use Rattle.columns.proofs.Lists.{or_assoc}
use Rattle.columns.specs.Sets.{cols}
use Rattle.columns.specs.declared.set.ColumnSet.{ColumnSet}
use Rattle.schema.specs.Sets.{outside}
use Rattle.schema.specs.Sides.{those, others}

module _ {A : Type 0} (f : A → Bool) where
  pub those_push : (xs : List A) (x : A) → those f (xs ++ x ∷ []) ≡ those f xs ++ pick (f x) (x ∷ []) []
  those_push [] x = refl
  those_push (y ∷ xs) x = go (f y) (those_push xs x)
    where
      go : (b : Bool) → those f (xs ++ x ∷ []) ≡ those f xs ++ pick (f x) (x ∷ []) []
          → pick b (y ∷ those f (xs ++ x ∷ [])) (those f (xs ++ x ∷ [])) ≡ pick b (y ∷ those f xs) (those f xs) ++ pick (f x) (x ∷ []) []
      go true e = ap (λ v. y ∷ v) e
      go false e = e

  pub others_push : (xs : List A) (x : A) → others f (xs ++ x ∷ []) ≡ others f xs ++ pick (f x) [] (x ∷ [])
  others_push [] x = refl
  others_push (y ∷ xs) x = go (f y) (others_push xs x)
    where
      go : (b : Bool) → others f (xs ++ x ∷ []) ≡ others f xs ++ pick (f x) [] (x ∷ [])
          → pick b (others f (xs ++ x ∷ [])) (y ∷ others f (xs ++ x ∷ [])) ≡ pick b (others f xs) (y ∷ others f xs) ++ pick (f x) [] (x ∷ [])
      go true e = e
      go false e = ap (λ v. y ∷ v) e

  pub those_sub : (xs : List A) → Sub (those f xs) xs
  those_sub [] = λ x i. i
  those_sub (y ∷ xs) = go (f y) (those_sub xs)
    where
      go : (b : Bool) → Sub (those f xs) xs → Sub (pick b (y ∷ those f xs) (those f xs)) (y ∷ xs)
      go true s x i = elim i [ inl e ↦ inl e | inr k ↦ inr (s x k) ]
      go false s x i = inr (s x i)

  pub others_sub : (xs : List A) → Sub (others f xs) xs
  others_sub [] = λ x i. i
  others_sub (y ∷ xs) = go (f y) (others_sub xs)
    where
      go : (b : Bool) → Sub (others f xs) xs → Sub (pick b (others f xs) (y ∷ others f xs)) (y ∷ xs)
      go true s x i = inr (s x i)
      go false s x i = elim i [ inl e ↦ inl e | inr k ↦ inr (s x k) ]

  -- each member is on one of the two sides
  pub both_sides : (xs : List A) → length (those f xs) + length (others f xs) ≡ length xs
  both_sides [] = refl
  both_sides (y ∷ xs) = go (f y) (both_sides xs)
    where
      go : (b : Bool) → length (those f xs) + length (others f xs) ≡ length xs
          → length (pick b (y ∷ those f xs) (those f xs)) + length (pick b (others f xs) (y ∷ others f xs)) ≡ suc (length xs)
      go true h = omega arith
      go false h = omega arith

  pub any_push : (xs : List A) (x : A) → any (xs ++ x ∷ []) f ≡ (any xs f || f x)
  any_push [] x = or_false (f x)
    where
      or_false : (b : Bool) → (b || false) ≡ b
      or_false true = refl
      or_false false = refl
  any_push (y ∷ xs) x = ap (λ b. f y || b) (any_push xs x) ∙ sym (or_assoc (f y) (any xs f) (f x))

  -- to keep what the test does not hold of
  pub others_kept : (xs : List A) → filter (λ x. not (f x)) xs ≡ others f xs
  others_kept [] = refl
  others_kept (y ∷ xs) = go (f y) (others_kept xs)
    where
      go : (b : Bool) → filter (λ x. not (f x)) xs ≡ others f xs
          → cond (not b) (y ∷ filter (λ x. not (f x)) xs) (filter (λ x. not (f x)) xs) ≡ pick b (others f xs) (y ∷ others f xs)
      go true e = e
      go false e = ap (λ v. y ∷ v) e

pub outside_few : (ss : List ColumnSet) (x : ColumnSet) → length (outside ss x) ≤ length ss
outside_few ss x = omega (arith, both_sides (λ s. all_in (cols s) (cols x)) ss)
