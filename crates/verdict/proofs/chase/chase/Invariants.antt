use Rattle.dependencies.specs.Rules.{deps}
use Rattle.verdict.specs.Chase.{total}
use Rattle.verdict.specs.Sweeps.{Chased}
use Rattle.verdict.proofs.chase.chase.Given as goal

abbrev pub invariant-loop : goal.invariant-loop
invariant-loop l = Chased (deps l.rules) l.initial.rows l.rows

-- each change lowers the sum of the tableau
abbrev pub decreases-loop : goal.decreases-loop
decreases-loop l = total l.rows
