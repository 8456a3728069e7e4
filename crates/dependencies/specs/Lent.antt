-- Answers in lent rows.
use Rattle.std.specs.Prelude.{ℕ, suc, List, [], ◌∷◌, length, nat_le, slice_set}
use Rattle.columns.specs.Cols.{pick}
use Rattle.dependencies.specs.Layout.{reading}
use Rattle.dependencies.specs.Told.{Told, done, refused, or_else}

-- a list written from the place n on, as far as there is room
unfoldable pub put_list : List ℕ → ℕ → List ℕ → List ℕ
put_list xs n [] = xs
put_list xs n (y ∷ ys) = put_list (slice_set xs n y) (suc n) ys

-- a lent row for a least set or a design has at least 2,100 numbers
abbrev pub row_told : List ℕ → Told
row_told out = pick (nat_le 2100 (length out)) done (refused 4 (length out))

-- what is told of a request for one of them
abbrev pub answering : (rules out : List ℕ) → Told
answering rules out = or_else (reading rules) (row_told out)
