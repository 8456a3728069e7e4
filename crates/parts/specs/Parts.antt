-- The parts of a register as others read them.
use Rattle.std.specs.Prelude.{◌≡◌, ℕ, List, [], slice_index_or}
use Rattle.columns.specs.Sets.{cols}
use Rattle.dependencies.specs.Told.{Told, done, refused}
use Rattle.schema.specs.Design.{no_part}
use Rattle.schema.specs.Layout.{design_in}
use Rattle.parts.specs.Day.{Held}
use Rattle.parts.specs.Store.{held_in, held_of}
use Rattle.parts.specs.declared.held_part.HeldPart.{HeldPart}

-- what a part that was read holds
abbrev pub held_by : HeldPart → List Held
held_by h = held_in h.rows.width.columns h.rows.room h.rows.cells.now

-- what is read of a register that was opened, and of one that was not
abbrev pub if_opened : {A : Type 0} → Told → A → A → A
if_opened done x y = x
if_opened (refused k p) x y = y

abbrev pub IfOpened : Told → Type 0 → Type 0 → Type 0
IfOpened done P Q = P
IfOpened (refused k p) P Q = Q

-- the part of this place: its columns and what it holds in the cells; past the last part no column and nothing
pub record PartAt (n : ℕ) (d g : List ℕ) (p : ℕ) (h : HeldPart) : Type 0 where
  pub columns : cols h.owned ≡ (slice_index_or (design_in n d) p no_part).cols
  pub holds : held_by h ≡ slice_index_or (held_of n d g) p []

-- a part without columns that holds nothing
pub record NoPart (h : HeldPart) : Type 0 where
  pub columns : cols h.owned ≡ []
  pub holds : held_by h ≡ []
