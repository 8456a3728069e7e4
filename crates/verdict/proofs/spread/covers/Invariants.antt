use Rattle.columns.specs.Sets.{cols}
use Rattle.verdict.specs.Given.{given_parts}
use Rattle.verdict.proofs.Covered.{CoveringSo}
use Rattle.verdict.proofs.spread.covers.Given as goal

abbrev pub invariant-loop-part : goal.invariant-loop-part
invariant-loop-part l =
    (goal.iterator-loop-part).can_next l.part-iterator
    × (goal.iterator-loop-part).is_finite l.part-iterator
    × CoveringSo (cols l.initial.missing) (given_parts l.fn.design) (cols l.missing) (given_parts l.part-iterator)
