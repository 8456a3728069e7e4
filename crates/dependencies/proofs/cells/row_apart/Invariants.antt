use Rattle.std.proofs.Common.{length}
use Rattle.columns.specs.Sets.{cols}
use Rattle.dependencies.proofs.Differing.{Half}
use Rattle.dependencies.proofs.cells.row_apart.Given as goal

abbrev pub invariant-loop-c : goal.invariant-loop-c
invariant-loop-c l = Half (λ i. 0) (λ i. l.other) l.row (cols l.rest) (cols l.initial.rest)

abbrev pub decreases-loop-c : goal.decreases-loop-c
decreases-loop-c l = length (cols l.rest)
