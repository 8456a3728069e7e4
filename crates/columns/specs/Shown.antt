-- Sets of columns as text.
use Rattle.std.specs.Prelude.{ℕ, List, [], ◌∷◌, ◌++◌, codes, decimal}
use Rattle.columns.specs.Cols.{Cols}

-- things written one after the other, the first behind one text and each further one behind another
abbrev pub led : {A : Type 0} → (A → List ℕ) → List ℕ → List ℕ → List A → List ℕ
led text first next [] = []
led text first next (x ∷ xs) = first ++ (text x ++ led text next next xs)

-- the columns in order, each in decimal digits, parted by one space
abbrev pub listed : Cols → List ℕ
listed cs = led decimal [] (codes " ") cs
