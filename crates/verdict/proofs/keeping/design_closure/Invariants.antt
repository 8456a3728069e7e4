use Rattle.std.proofs.Common.{ℕ}
use Rattle.columns.specs.Cols.{Same}
use Rattle.columns.specs.Sets.{cols}
use Rattle.columns.proofs.Lacking.{absent}
use Rattle.dependencies.specs.Closure.{rounds}
use Rattle.schema.specs.Design.{all_rules}
use Rattle.verdict.specs.Given.{given_parts}
use Rattle.verdict.proofs.keeping.design_closure.Given as goal

abbrev pub invariant-loop-next : goal.invariant-loop-next
invariant-loop-next l = (k : ℕ) × Same (cols l.all) (rounds k (all_rules (given_parts l.design)) (cols l.initial.all))

abbrev pub decreases-loop-next : goal.decreases-loop-next
decreases-loop-next l = absent 16 (cols l.all)
