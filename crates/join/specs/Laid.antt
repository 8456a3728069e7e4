-- A whole table laid into the parts of a register: its rows are put in one after the other.
use Rattle.std.specs.Prelude.{◌≡◌, ℕ, zero, suc, ◌+◌, ◌*◌, ◌/◌, ◌%◌, List, [], ◌∷◌, ◌++◌, length, take, drop, Some, None, Ok, Err, codes, decimal, Option, Result, ◌==◌, slice_index}
use Rattle.columns.specs.Cols.{pick}
use Rattle.dependencies.specs.Tables.{Row}
use Rattle.dependencies.specs.Told.{Told, done, refused, told, shown_refusal}
use Rattle.schema.specs.Layout.{design_in}
use Rattle.parts.specs.Day.{Deed, insert, Held}
use Rattle.parts.specs.Store.{room_of, held_of, CleanCells}
use Rattle.parts.specs.Answers.{opened_told, NowHolds}
use Rattle.register.specs.Deeds.{day_told, day_end}
use Rattle.join.specs.declared.refusal.LayRefusal.{LayRefusal}

-- the first k rows of a table whose rows of n cells stand one after the other
unfoldable pub rows_cut : ℕ → ℕ → List ℕ → List Row
rows_cut n zero xs = []
rows_cut n (suc k) xs = take n xs ∷ rows_cut n k (drop n xs)

-- how many rows there are: as many as stand there whole, and one that is cut short if cells are left
abbrev pub row_count : ℕ → List ℕ → ℕ
row_count n xs = pick (length xs % n == 0) (length xs / n) (length xs / n + 1)

-- the rows of a lent table; the last may be cut short
abbrev pub rows_in : ℕ → List ℕ → List Row
rows_in n xs = rows_cut n (row_count n xs) xs

-- the rows are put in one after the other
unfoldable pub inserts : List Row → List Deed
inserts [] = []
inserts (r ∷ rs) = insert r ∷ inserts rs

-- the first refusal among these answers, with its place, counted from i on
unfoldable pub first_refusal : ℕ → List Told → Option (ℕ × Told)
first_refusal i [] = None
first_refusal i (done ∷ ts) = first_refusal (i + 1) ts
first_refusal i (refused k p ∷ ts) = Some (i, refused k p)

-- a register that was not opened refuses before the first row is read
abbrev pub unless_closed : Told → Option (ℕ × Told) → Option (ℕ × Told)
unless_closed done o = o
unless_closed (refused k p) o = Some (0, refused k p)

-- what is told of rows that are put in one after the other, and what the parts hold afterwards
abbrev pub rows_told : ℕ → (d g : List ℕ) → List Row → List Told
rows_told n d g rs = day_told n (room_of n d g) (design_in n d) (held_of n d g) (inserts rs)

abbrev pub rows_held : ℕ → (d g : List ℕ) → List Row → List (List Held)
rows_held n d g rs = day_end n (room_of n d g) (design_in n d) (held_of n d g) (inserts rs)

-- what is told of a table that is laid: the first refusal of its rows, if one is refused
abbrev pub lay_told : ℕ → (d g xs : List ℕ) → Option (ℕ × Told)
lay_told n d g xs = unless_closed (opened_told n d) (first_refusal 0 (rows_told n d g (rows_in n xs)))

abbrev pub lay_outcome : {A : Type 0} → Result A LayRefusal → Option (ℕ × Told)
lay_outcome (Ok a) = None
lay_outcome (Err e) = Some (e.row, told e.refusal)

-- the parts hold what they held, past the parts the cells are as they were, and cells that were clean are as they were to the letter
pub record AsBefore (n : ℕ) (d g g₁ : List ℕ) : Type 0 where
  pub held : held_of n d g₁ ≡ held_of n d g
  pub past : drop (slice_index d 0 * (room_of n d g * (n + 1))) g₁ ≡ drop (slice_index d 0 * (room_of n d g * (n + 1))) g
  pub letter : CleanCells n d g → g₁ ≡ g

-- after a table is laid, each part holds what the rows put in would give; after a refusal all is as before
abbrev pub LayAfter : ℕ → (d g g₁ xs : List ℕ) → Result ℕ LayRefusal → Type 0
LayAfter n d g g₁ xs (Ok k) = (k ≡ length (rows_in n xs)) × NowHolds n d g g₁ (rows_held n d g (rows_in n xs))
LayAfter n d g g₁ xs (Err e) = AsBefore n d g g₁

-- what is told of a table, and what it leaves
pub record LaySays (n : ℕ) (d g g₁ xs : List ℕ) (r : Result ℕ LayRefusal) : Type 0 where
  pub long : length g₁ ≡ length g
  pub tells : lay_outcome r ≡ first_refusal 0 (rows_told n d g (rows_in n xs))
  pub after : LayAfter n d g g₁ xs r

-- a refusal of a row as text
abbrev pub shown_lay : LayRefusal → List ℕ
shown_lay e = codes "row " ++ (decimal e.row ++ (codes ": " ++ shown_refusal (told e.refusal)))
