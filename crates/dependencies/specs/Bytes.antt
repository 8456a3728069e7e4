-- Rules as bytes: one for how many columns the table has, one for how many rules there are, and two a set, the low one first.
use Rattle.std.specs.Prelude.{ℕ, ◌+◌, ◌*◌, List, [], ◌∷◌, ◌++◌, take, drop}

-- the sets of two bytes each; a byte that is left over is none
unfoldable pub sets_in_bytes : List ℕ → List ℕ
sets_in_bytes [] = []
sets_in_bytes (a ∷ []) = []
sets_in_bytes (a ∷ (b ∷ bs)) = (a + 256 * b) ∷ sets_in_bytes bs

-- the lent row that bytes stand for
unfoldable pub row_of_bytes : List ℕ → List ℕ
row_of_bytes bs = take 2 bs ++ sets_in_bytes (drop 2 bs)
