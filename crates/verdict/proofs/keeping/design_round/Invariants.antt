use Rattle.columns.specs.Cols.{Same}
use Rattle.columns.specs.Sets.{cols}
use Rattle.dependencies.specs.Closure.{round}
use Rattle.schema.specs.Design.{all_rules}
use Rattle.verdict.specs.Given.{given_parts}
use Rattle.verdict.proofs.keeping.design_round.Given as goal

abbrev pub invariant-loop-part : goal.invariant-loop-part
invariant-loop-part l =
    (goal.iterator-loop-part).can_next l.part-iterator
    × (goal.iterator-loop-part).is_finite l.part-iterator
    × Same (round (all_rules (given_parts l.part-iterator)) (cols l.all)) (round (all_rules (given_parts l.fn.design)) (cols l.initial.all))
