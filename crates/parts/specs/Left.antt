-- A lent design and the lent cells as the code holds them, and what is left of both while the parts are walked.
use Rattle.std.specs.Prelude.{◌≡◌, ℕ, ◌+◌, ◌-◌, ◌*◌, ◌<◌, ◌≤◌, List, [], ◌∷◌, length, drop, slice_index, Option, Some, None, Result}
use Rattle.columns.specs.Cols.{set_in}
use Rattle.columns.specs.declared.table_width.Width.{Width}
use Rattle.dependencies.specs.Layout.{rules_in}
use Rattle.schema.specs.Design.{Part}
use Rattle.schema.specs.Layout.{parts_in, design_in}
use Rattle.dependencies.specs.declared.refusals.Refusal.{Refusal}
use Rattle.parts.specs.Day.{Held}
use Rattle.parts.specs.Answers.{NowHolds, After}
use Rattle.parts.specs.Store.{held_in, all_held, room_of, held_of, Clean}
use Rattle.parts.specs.declared.design_parts.DesignParts.{DesignParts}
use Rattle.parts.specs.declared.own_part.OwnPart.{OwnPart}
use Rattle.parts.specs.declared.part_rows.HeldRow.{HeldRow}
use Rattle.parts.specs.declared.part_rows.HeldRows.{HeldRows}
use Rattle.parts.specs.declared.part_rows.PartRows.{PartRows}
use Rattle.parts.specs.declared.parts_left.PartsLeft.{PartsLeft}
use Rattle.parts.specs.declared.parts_left.PartWalk.{PartWalk}

-- the parts of the design
abbrev pub design_of : DesignParts → List Part
design_of parts = design_in parts.width.columns parts.numbers.now

-- for how many rows each of them has room in these cells
abbrev pub part_room : DesignParts → List ℕ → ℕ
part_room parts cells = room_of parts.width.columns parts.numbers.now cells

-- what they hold there
abbrev pub held_parts : DesignParts → List ℕ → List (List Held)
held_parts parts cells = held_of parts.width.columns parts.numbers.now cells

-- the cells after a change: the parts hold this, and what else stands there stays
abbrev pub PartsHold : DesignParts → (was are : List ℕ) → List (List Held) → Type 0
PartsHold parts was are hs = NowHolds parts.width.columns parts.numbers.now was are hs

-- the cells after an answer
abbrev pub PartsAfter : {A : Type 0} → DesignParts → (was are : List ℕ) → List (List Held) → Result A Refusal → Type 0
PartsAfter parts was are hs told = After parts.width.columns parts.numbers.now was are hs told

-- the rows of a part, with room for so many, are there whole; and after a change they hold this, and nothing but 0 stands behind
-- what they hold if it was so before
abbrev pub RowsWhole : Width → ℕ → List ℕ → Type 0
RowsWhole width room rows = length rows ≡ room * (width.columns + 1)

abbrev pub RowsHold : Width → ℕ → (was are : List ℕ) → List Held → Type 0
RowsHold width room was are hs = (held_in width.columns room are ≡ hs) × (Clean width.columns room was → Clean width.columns room are)

-- the columns and the rules of the part at the front
abbrev pub own : OwnPart → Part
own part = record { cols = set_in 0 part.width.columns (slice_index part.numbers.now 0); rules = rules_in part.width.columns (slice_index part.numbers.now 1) (drop 2 part.numbers.now) }

-- what the rows of one part hold
abbrev pub rows_in : PartRows → List Held
rows_in rows = held_in rows.width.columns rows.room rows.cells.now

-- the rows that are left, and a row as it is given
abbrev pub rows_left : HeldRows → List Held
rows_left left = rows_in left.rows

abbrev pub held_here : HeldRow → Held
held_here row = record { looks = row.look.now; times = row.times }

-- a step: the first row that was left is given, and the others are left
abbrev pub GivesRow : HeldRows → Option HeldRow → HeldRows → Type 0
GivesRow old None new = (rows_left old ≡ []) × (new.place ≡ old.place)
GivesRow old (Some row) new = (rows_left old ≡ held_here row ∷ rows_left new) × (row.place ≡ old.place) × (new.place ≡ old.place + 1)

-- the parts that are left, and what they hold
abbrev pub parts_left : PartsLeft → List Part
parts_left left = parts_in left.width.columns (left.count - left.place) left.numbers.now

abbrev pub held_left : PartWalk → List (List Held)
held_left walk = all_held walk.parts.width.columns walk.room (walk.parts.count - walk.parts.place) walk.cells.now

-- a step: the first part that was left is given, and the others are left
pub record PartGiven (old : PartsLeft) (part : OwnPart) (new : PartsLeft) : Type 0 where
  pub parts : parts_left old ≡ own part ∷ parts_left new
  pub here : old.place < old.count
  pub place : part.place ≡ old.place
  pub next : new.place ≡ old.place + 1
  pub count : new.count ≡ old.count
  pub width : part.width.columns ≡ old.width.columns
  pub same : new.width.columns ≡ old.width.columns

abbrev pub GivesPart : PartsLeft → Option OwnPart → PartsLeft → Type 0
GivesPart old None new = (old.count ≤ old.place) × (new.count ≤ new.place)
GivesPart old (Some part) new = PartGiven old part new

-- the same with the rows of the part
pub record RowsGiven (old : PartWalk) (part : OwnPart) (rows : PartRows) (new : PartWalk) : Type 0 where
  pub given : PartGiven old.parts part new.parts
  pub held : held_left old ≡ rows_in rows ∷ held_left new
  pub room : rows.room ≡ old.room
  pub same : new.room ≡ old.room

abbrev pub GivesRows : PartWalk → Option (OwnPart × PartRows) → PartWalk → Type 0
GivesRows old None new = GivesPart old.parts None new.parts
GivesRows old (Some it) new = RowsGiven old it.0 it.1 new

-- the parts that are left
abbrev pub walk_parts : PartWalk → List Part
walk_parts walk = parts_left walk.parts
