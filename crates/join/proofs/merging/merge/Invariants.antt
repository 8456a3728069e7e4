use Rattle.std.proofs.Common.{length, get_or}
use Rattle.columns.specs.Sets.{cols}
use Rattle.dependencies.proofs.Differing.{Half}
use Rattle.join.proofs.merging.merge.Given as goal

-- the columns that are left still have the row's cells
abbrev pub invariant-loop-c : goal.invariant-loop-c
invariant-loop-c l = Half (λ i. get_or l.look i 0) (λ i. get_or l.row i 0) l.joined (cols l.rest) (cols l.fn.set)

abbrev pub decreases-loop-c : goal.decreases-loop-c
decreases-loop-c l = length (cols l.rest)
