-- The two sides of a test: the members of a list of which it holds, and the others. Assumes nothing: these are definitions.
use Rattle.std.specs.Prelude.{Bool, List, [], ◌∷◌}
use Rattle.columns.specs.Cols.{pick}

abbrev pub those : {A : Type 0} → (A → Bool) → List A → List A
those f [] = []
those f (x ∷ xs) = pick (f x) (x ∷ those f xs) (those f xs)

abbrev pub others : {A : Type 0} → (A → Bool) → List A → List A
others f [] = []
others f (x ∷ xs) = pick (f x) (others f xs) (x ∷ others f xs)
