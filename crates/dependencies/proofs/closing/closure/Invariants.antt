use Rattle.std.proofs.Common.{ℕ}
use Rattle.columns.specs.Cols.{Same}
use Rattle.columns.specs.Sets.{cols}
use Rattle.columns.proofs.Lacking.{absent}
use Rattle.dependencies.specs.Closure.{rounds}
use Rattle.dependencies.specs.Rules.{deps}
use Rattle.dependencies.proofs.closing.closure.Given as goal

abbrev pub invariant-loop-next : goal.invariant-loop-next
invariant-loop-next l = (k : ℕ) × Same (cols l.all) (rounds k (deps l.rules) (cols l.initial.all))

abbrev pub decreases-loop-next : goal.decreases-loop-next
decreases-loop-next l = absent 16 (cols l.all)
