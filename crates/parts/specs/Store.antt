-- A register in lent memory. The parts of the lent design stand one after the other, with equal room; a part's row is one cell for each
-- column, 0 in columns that are not its own, and then how many rows look so. What is held ends at the first row whose count is 0.
use Rattle.std.specs.Prelude.{◌≡◌, ℕ, zero, suc, ◌+◌, ◌*◌, ◌/◌, ◌^◌, ◌<◌, ◌≤◌, Bool, true, ◌&&◌, List, [], ◌∷◌, ◌++◌, length, take, drop, replicate, ◌==◌, nat_le, nat_lt, slice_index}
use Rattle.columns.specs.Cols.{Cols, pick}
use Rattle.dependencies.specs.Tables.{Row, agree}
use Rattle.schema.specs.Layout.{all_sets_fit}
use Rattle.parts.specs.Day.{Held}

-- a row of a part: a cell for each of n columns, and the count
unfoldable pub held_row : ℕ → List ℕ → Held
held_row n xs = record { looks = take n xs; times = slice_index xs n }

abbrev pub no_held : Held
no_held = record { looks = []; times = 0 }

-- what a part with room for k rows holds: the rows up to the first with the count 0
unfoldable pub held_in : ℕ → ℕ → List ℕ → List Held
held_in n zero xs = []
held_in n (suc k) xs = pick (slice_index xs n == 0) [] (held_row n xs ∷ held_in n k (drop (n + 1) xs))

-- what k parts hold, each with this room, one after the other
unfoldable pub all_held : ℕ → ℕ → ℕ → List ℕ → List (List Held)
all_held n room zero xs = []
all_held n room (suc k) xs = held_in n room (take (room * (n + 1)) xs) ∷ all_held n room k (drop (room * (n + 1)) xs)

-- behind the rows that are held every cell is 0
abbrev pub Clean : ℕ → ℕ → List ℕ → Type 0
Clean n k xs = (j : ℕ) → length (held_in n k xs) * (n + 1) ≤ j → slice_index xs j ≡ 0

-- the same of k parts
abbrev pub AllClean : ℕ → ℕ → ℕ → List ℕ → Type 0
AllClean n room k xs = (p : ℕ) → p < k → Clean n room (take (room * (n + 1)) (drop (p * (room * (n + 1))) xs))

-- the cells of a part with room for k rows that holds these: each look and its count, and then nothing but 0
unfoldable pub rows_written : ℕ → ℕ → List Held → List ℕ
rows_written n zero hs = []
rows_written n (suc k) [] = replicate (n + 1) 0 ++ rows_written n k []
rows_written n (suc k) (h ∷ hs) = h.looks ++ (h.times ∷ rows_written n k hs)

unfoldable pub cells_written : ℕ → ℕ → List (List Held) → List ℕ
cells_written n room [] = []
cells_written n room (hs ∷ hss) = rows_written n room hs ++ cells_written n room hss

-- the place of the first look that a row has in these columns, or how many looks there are
unfoldable pub place_in : Cols → Row → List Held → ℕ
place_in p r [] = 0
place_in p r (h ∷ hs) = pick (agree p r h.looks) 0 (suc (place_in p r hs))

-- a part stands at the front of the numbers: not cut short, and its sets name columns of a table of n
unfoldable pub whole_part : ℕ → List ℕ → Bool
whole_part n xs =
    (nat_le (2 + 2 * slice_index xs 1) (length xs) && nat_le (slice_index xs 1) 4294967295) && (nat_lt (slice_index xs 0) (2 ^ n) && all_sets_fit n (2 * slice_index xs 1) (drop 2 xs))

-- k parts stand there
unfoldable pub formed : ℕ → ℕ → List ℕ → Bool
formed n zero xs = true
formed n (suc k) xs = whole_part n xs && formed n k (drop (2 + 2 * slice_index xs 1) xs)

-- the numbers can be read as a design of a table of n columns: a count of parts, and the parts
unfoldable pub readable : ℕ → List ℕ → Bool
readable n d = (nat_le 1 (slice_index d 0) && nat_le (slice_index d 0) 4294967295) && formed n (slice_index d 0) (drop 1 d)

-- for how many rows each part of the design has room in the lent cells
abbrev pub room_of : ℕ → List ℕ → List ℕ → ℕ
room_of n d g = length g / (slice_index d 0 * (n + 1))

-- what the parts of the design hold in the lent cells
abbrev pub held_of : ℕ → List ℕ → List ℕ → List (List Held)
held_of n d g = all_held n (room_of n d g) (slice_index d 0) g

abbrev pub CleanCells : ℕ → List ℕ → List ℕ → Type 0
CleanCells n d g = AllClean n (room_of n d g) (slice_index d 0) g
