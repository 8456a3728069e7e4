-- A walk that gives the first of what is left at each step.
use Rattle.std.proofs.Common.{◌≡◌, ℕ, suc, ◌+◌, ◌<◌, ◌≤◌, List, [], ◌∷◌, length, get_or, drop, MatchOption, Some, None, Option, sym, refl, ap, ◌∙◌, arith}
use Rattle.std.specs.Iterator.{Yields, SkipsThenYields, Drains}
use Rattle.std.proofs.lemmas.List.{get_or-drop, get_or_past, length-drop}

none_dropped : {A : Type 0} (xs : List A) → drop 0 xs ≡ xs
none_dropped [] = refl
none_dropped (x ∷ xs) = refl

head_at : {A : Type 0} (p : ℕ) (xs ys : List A) (a none : A) → drop p xs ≡ a ∷ ys → (p < length xs) × (get_or xs p none ≡ a)
head_at p xs ys a none e =
    let z : p + 0 ≡ p = omega arith in (
      omega (arith, length-drop p xs, ap length e),
      ap (λ (i : ℕ). get_or xs i none) (sym z) ∙ sym (get_or-drop p xs 0 none) ∙ ap (λ (zs : List _). get_or zs 0 none) e,
    )

module _ {S A B : Type 0} (view : A → B) (left : S → List B) (steps : S → Option A → S → Type 0) (given : (s : S) (a : A) (t : S) → steps s (Some a) t → left s ≡ view a ∷ left t) where
  -- what was passed is left behind
  passed : (xs : List A) (s t : S) → Yields steps s xs t → drop (length xs) (left s) ≡ left t
  passed [] s t e = none_dropped (left s) ∙ ap left e
  passed (x ∷ xs) s t (next, step, more) = ap (λ (zs : List B). drop (suc (length xs)) zs) (given s x next step) ∙ passed xs next t more

  -- one was given: it is of this place
  pub one_there : (s u : S) (p : ℕ) (a : A) (none : B) → SkipsThenYields steps s p (Some a) u → (p < length (left s)) × (get_or (left s) p none ≡ view a)
  one_there s u p a none (xs, (here, way, step), many) = head_at p (left s) _ _ none (ap (λ (k : ℕ). drop k (left s)) (sym many) ∙ passed xs s here way ∙ given here a u step)

  module _ (ends : (s t : S) → steps s None t → left s ≡ []) where
    -- none was given: there are no more
    pub none_there : (s u : S) (p : ℕ) → SkipsThenYields steps s p None u → length (left s) ≤ p
    none_there s u p (xs, (here, way, step), many) =
        let e = ap length (passed xs s here way ∙ ends here u step) in
        omega (arith, length-drop (length xs) (left s))

    -- what is told of the one of this place, or of none
    pub told_there : {C : Type 0} (tell : B → C) (s u : S) (p : ℕ) (o : Option A) (none : B) (r : C) {P : A → Type 0} → SkipsThenYields steps s p o u → MatchOption o (r ≡ tell none) P
        → ((a : A) → P a → r ≡ tell (view a)) → r ≡ tell (get_or (left s) p none)
    told_there tell s u p None none r ran is here = is ∙ sym (ap tell (get_or_past (left s) p none (none_there s u p ran)))
    told_there tell s u p (Some a) none r ran is here = here a is ∙ sym (ap tell (one_there s u p a none ran).1)

    -- all were given
    pub all_given : (xs : List A) (s : S) → Drains steps s xs → length xs ≡ length (left s)
    all_given [] s (u, (here, way, step)) = sym (ap length (ap left way ∙ ends here u step))
    all_given (x ∷ xs) s (u, (here, (next, step, more), last)) =
        let e = all_given xs next (u, (here, more, last)) in
        ap suc e ∙ sym (ap length (given s x next step))
