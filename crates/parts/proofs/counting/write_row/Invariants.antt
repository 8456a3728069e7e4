use Rattle.std.proofs.Common.{◌≡◌, take, drop}
use Rattle.columns.specs.Sets.{cols}
use Rattle.parts.specs.Day.{masked}
use Rattle.parts.proofs.counting.write_row.Given as goal

-- the cells so far are the look's, and from there on they are as they were
abbrev pub invariant-loop-c : goal.invariant-loop-c
invariant-loop-c l =
    (take l.c l.slot-items ≡ take l.c (masked (cols l.set) 0 l.row.cells.now)) × (drop l.c l.slot-items ≡ drop l.c l.initial.slot-items)
