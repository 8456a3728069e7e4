-- What a register holds, as its contracts name it: whether it was opened, its parts, for how many rows each has room, and what each holds.
use Rattle.std.specs.Prelude.{◌≡◌, ℕ, List, Result}
use Rattle.dependencies.specs.Told.{Told}
use Rattle.dependencies.specs.declared.refusals.Refusal.{Refusal}
use Rattle.schema.specs.Design.{Part}
use Rattle.schema.specs.Layout.{design_in}
use Rattle.parts.specs.Day.{Held}
use Rattle.parts.specs.Store.{room_of, held_of}
use Rattle.parts.specs.Answers.{outcome, opening, opened_told, After}
use Rattle.register.specs.declared.register.Register.{Register}

-- that it was opened, or the refusal of every request to one that was not
abbrev pub opened : Register → Told
opened r = opened_told r.columns r.design.now

abbrev pub parts_in : Register → List Part
parts_in r = design_in r.columns r.design.now

abbrev pub room_in : Register → ℕ
room_in r = room_of r.columns r.design.now r.cells.now

abbrev pub held_in : Register → List (List Held)
held_in r = held_of r.columns r.design.now r.cells.now

-- the same lent design, and the same table as well
abbrev pub SameDesign : Register → Register → Type 0
SameDesign r s = s.design.now ≡ r.design.now

abbrev pub SamePlan : Register → Register → Type 0
SamePlan r s = (s.columns ≡ r.columns) × SameDesign r s

-- an opening for these rules tells whether they and the lent design can be read
abbrev pub TellsOpening : {A : Type 0} → Register → List ℕ → Result A Refusal → Type 0
TellsOpening r rules a = outcome a ≡ opening rules r.design.now

-- after an answer: where it is done, the parts hold this; else no cell has changed
abbrev pub Leaves : {A : Type 0} → Register → Register → List (List Held) → Result A Refusal → Type 0
Leaves r s hs a = After r.columns r.design.now r.cells.now s.cells.now hs a
