-- A part of a walk by its place.
use Rattle.std.proofs.Common.{◌≡◌, ℕ, ◌≤◌, List, [], length, get_or, drop, Some, None, sym, ap, ◌∙◌, arith}
use Rattle.std.specs.Iterator.{SkipsThenYields}
use Rattle.std.proofs.lemmas.List.{get_or_past}
use Rattle.schema.specs.Design.{Part, no_part}
use Rattle.schema.specs.Layout.{design_in}
use Rattle.parts.specs.Store.{room_of, held_of}
use Rattle.parts.specs.Parts.{PartAt, NoPart}
use Rattle.parts.specs.Left.{own, rows_in, walk_parts, held_left, GivesRows}
use Rattle.parts.specs.declared.held_part.HeldPart.{HeldPart}
use Rattle.parts.specs.declared.own_part.OwnPart.{OwnPart}
use Rattle.parts.specs.declared.part_rows.PartRows.{PartRows}
use Rattle.parts.specs.declared.parts_left.PartWalk.{PartWalk}
use Rattle.parts.proofs.Passing.{one_there, none_there}
use Rattle.parts.proofs.Shares.{parts_length, held_count}
use Rattle.parts.proofs.Walks.{none_left}

-- the part of a place, and what its rows hold
pub part_there : (walk on : PartWalk) (p : ℕ) (part : OwnPart) (rows : PartRows) → SkipsThenYields GivesRows walk p (Some (part, rows)) on
    → (get_or (walk_parts walk) p no_part ≡ own part) × (get_or (held_left walk) p [] ≡ rows_in rows)
part_there walk on p part rows ran = (
  (one_there (λ it. own it.0) walk_parts GivesRows (λ s it t step. step.given.parts) walk on p (part, rows) no_part ran).1,
  (one_there (λ it. rows_in it.1) held_left GivesRows (λ s it t step. step.held) walk on p (part, rows) [] ran).1,
)

-- no part is of this place
pub no_part_there : (walk on : PartWalk) (p : ℕ) → SkipsThenYields GivesRows walk p None on → length (walk_parts walk) ≤ p
no_part_there walk on p ran =
    none_there (λ it. own it.0) walk_parts GivesRows (λ s it t step. step.given.parts) (λ s t step. none_left s.parts.width.columns s.parts.count s.parts.place s.parts.numbers.now step.0) walk on p ran

-- past the last part there is none
pub past_parts : (n : ℕ) (d g : List ℕ) (p : ℕ) (h : HeldPart) → length (design_in n d) ≤ p → NoPart h → PartAt n d g p h
past_parts n d g p h l w =
    record {
      columns = w.columns ∙ sym (ap (λ (z : Part). z.cols) (get_or_past (design_in n d) p no_part l));
      holds = w.holds ∙ sym (get_or_past (held_of n d g) p [] (omega (arith, parts_length n (get_or d 0 0) (drop 1 d), held_count n (room_of n d g) (get_or d 0 0) g)));
    }
