use Rattle.std.proofs.Common.{◌≡◌, length}
use Rattle.columns.specs.Sets.{cols}
use Rattle.dependencies.specs.Tables.{agree}
use Rattle.dependencies.proofs.cells.agrees.Given as goal

-- what is left to compare decides
abbrev pub invariant-loop-c : goal.invariant-loop-c
invariant-loop-c l = agree (cols l.rest) l.a l.b ≡ agree (cols l.initial.rest) l.a l.b

abbrev pub decreases-loop-c : goal.decreases-loop-c
decreases-loop-c l = length (cols l.rest)
