use Rattle.std.proofs.Common.{◌≡◌, get_or}
use Rattle.parts.specs.Left.{parts_left}
use Rattle.parts.proofs.Shares.{SoFar}
use Rattle.parts.proofs.changing.count_all.Given as goal

-- the parts so far were changed, and the others are as they were
abbrev pub invariant-loop-part : goal.invariant-loop-part
invariant-loop-part g l =
    (l.part-iterator.count ≡ get_or l.parts.numbers.now 0 0)
    × (SoFar g.C.Counts.one l.parts.width.columns l.room l.parts.numbers.now l.initial.cells l.row l.part-iterator.place (parts_left l.part-iterator) l.cells)
