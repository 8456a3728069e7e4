use Rattle.columns.specs.Cols.{Same}
use Rattle.columns.specs.Sets.{cols}
use Rattle.dependencies.specs.Closure.{round}
use Rattle.verdict.specs.Given.{own_of}
use Rattle.verdict.proofs.keeping.part_round.Given as goal

-- the rules that are left make of the columns so far what all make of the first
abbrev pub invariant-loop-rule : goal.invariant-loop-rule
invariant-loop-rule l =
    (goal.iterator-loop-rule).can_next l.rule-iterator
    × (goal.iterator-loop-rule).is_finite l.rule-iterator
    × Same (round (own_of l.rule-iterator) (cols l.all)) (round (own_of l.fn.own) (cols l.initial.all))
