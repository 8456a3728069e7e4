use Rattle.std.proofs.Common.{◌≡◌, length}
use Rattle.verdict.specs.Given.{given_parts}
use Rattle.verdict.specs.Judge.{is_none_inside}
use Rattle.verdict.proofs.spread.none_inside.Given as goal

abbrev pub invariant-loop-part : goal.invariant-loop-part
invariant-loop-part l = is_none_inside (given_parts l.design) ≡ is_none_inside (given_parts l.todo)

abbrev pub decreases-loop-part : goal.decreases-loop-part
decreases-loop-part l = length (given_parts l.todo)
