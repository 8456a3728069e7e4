use Rattle.std.proofs.Common.{drop}
use Rattle.columns.specs.Cols.{Same}
use Rattle.columns.specs.Sets.{cols}
use Rattle.dependencies.specs.Closure.{round}
use Rattle.dependencies.specs.Rules.{deps}
use Rattle.dependencies.proofs.closing.one_round.Given as goal

-- the rules that are left make of the columns so far what all rules make of the first
abbrev pub invariant-loop-rule : goal.invariant-loop-rule
invariant-loop-rule l = Same (round (deps (drop l.rule-index l.rules)) (cols l.all)) (round (deps l.rules) (cols l.initial.all))
