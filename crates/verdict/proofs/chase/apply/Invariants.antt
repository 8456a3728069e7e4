use Rattle.std.proofs.Common.{length}
use Rattle.columns.specs.Sets.{cols}
use Rattle.verdict.proofs.Sweeping.{Equating}
use Rattle.verdict.proofs.chase.apply.Given as goal

abbrev pub invariant-loop-c : goal.invariant-loop-c
invariant-loop-c l = Equating l.initial.rows l.rows l.one l.two (cols l.initial.todo) (cols l.todo) l.changed

abbrev pub decreases-loop-c : goal.decreases-loop-c
decreases-loop-c l = length (cols l.todo)
