-- Rules as lent numbers: how many columns the table has, how many rules there are, and two sets a rule, the left one first.
use Rattle.std.specs.Prelude.{ℕ, zero, suc, ◌+◌, ◌*◌, ◌^◌, Bool, ◌&&◌, List, [], ◌∷◌, length, drop, nat_le, nat_lt, slice_index}
use Rattle.columns.specs.Cols.{pick, set_in}
use Rattle.dependencies.specs.Tables.{Dep}
use Rattle.dependencies.specs.Told.{Told, done, refused, or_else}

abbrev pub columns_of : List ℕ → ℕ
columns_of xs = slice_index xs 0

abbrev pub count_of : List ℕ → ℕ
count_of xs = slice_index xs 1

-- the first k rules that the numbers stand for
unfoldable pub rules_in : ℕ → ℕ → List ℕ → List Dep
rules_in n zero xs = []
rules_in n (suc k) xs = record { left = set_in 0 n (slice_index xs 0); right = set_in 0 n (slice_index xs 1) } ∷ rules_in n k (drop 2 xs)

-- the rules of the table
abbrev pub rules_of_row : List ℕ → List Dep
rules_of_row xs = rules_in (columns_of xs) (count_of xs) (drop 2 xs)

-- of k sets, counted from i on, the first that names a column that a table of n does not have is told
unfoldable pub sets_told : ℕ → ℕ → ℕ → List ℕ → Told
sets_told n i zero xs = done
sets_told n i (suc k) xs = pick (nat_lt (slice_index xs 0) (2 ^ n)) (sets_told n (suc i) k (drop 1 xs)) (refused 3 i)

abbrev pub width_ok : List ℕ → Bool
width_ok xs = nat_le 1 (columns_of xs) && nat_le (columns_of xs) 16

abbrev pub count_ok : List ℕ → Bool
count_ok xs = nat_le (count_of xs) 32 && nat_le (2 + 2 * count_of xs) (length xs)

-- what is told of rules that are read: the first refusal that applies
abbrev pub reading : List ℕ → Told
reading xs =
    pick (width_ok xs)
    (pick (count_ok xs) (sets_told (columns_of xs) 0 (2 * count_of xs) (drop 2 xs)) (refused 2 (count_of xs)))
    (refused 1 0)

-- the same with more sets, which are counted behind those of the rules
abbrev pub reading_with : List ℕ → List ℕ → Told
reading_with xs sets = or_else (reading xs) (sets_told (columns_of xs) (2 * count_of xs) (length sets) sets)
