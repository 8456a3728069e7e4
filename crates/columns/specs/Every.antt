-- Tests of all members of a list, and what its members give together. Assumes nothing: these are definitions.
use Rattle.std.specs.Prelude.{Bool, true, false, ◌&&◌, ◌||◌, List, [], ◌∷◌, ◌++◌}

abbrev pub every : {A : Type 0} → List A → (A → Bool) → Bool
every [] f = true
every (x ∷ xs) f = f x && every xs f

abbrev pub any : {A : Type 0} → List A → (A → Bool) → Bool
any [] f = false
any (x ∷ xs) f = f x || any xs f

abbrev pub each : {A B : Type 0} → List A → (A → List B) → List B
each [] f = []
each (x ∷ xs) f = f x ++ each xs f

-- all choices of some members
abbrev pub subsets : {A : Type 0} → List A → List (List A)
subsets [] = [] ∷ []
subsets (x ∷ xs) = each (subsets xs) (λ ys. (x ∷ ys) ∷ ys ∷ [])

-- the test holds of each member between those before and those after it
abbrev pub every_split : {A : Type 0} → List A → List A → (List A → A → List A → Bool) → Bool
every_split pre [] f = true
every_split pre (x ∷ xs) f = f pre x xs && every_split (pre ++ x ∷ []) xs f
