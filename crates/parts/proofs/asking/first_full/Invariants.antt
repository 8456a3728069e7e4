use Rattle.std.proofs.Common.{◌≡◌}
use Rattle.parts.specs.Answers.{first_full_part}
use Rattle.parts.specs.Left.{design_of, part_room, held_parts, walk_parts, held_left}
use Rattle.parts.proofs.asking.first_full.Given as goal

-- the parts that are left decide
abbrev pub invariant-loop-part : goal.invariant-loop-part
invariant-loop-part l =
    first_full_part l.part-iterator.parts.place l.part-iterator.room (walk_parts l.part-iterator) (held_left l.part-iterator) l.row
    ≡ first_full_part 0 (part_room l.parts l.cells) (design_of l.parts) (held_parts l.parts l.cells) l.row
