use Rattle.verdict.specs.Given.{given_parts}
use Rattle.verdict.proofs.Tableaux.{Laying}
use Rattle.verdict.proofs.chase.lay_out.Given as goal

abbrev pub invariant-loop-i : goal.invariant-loop-i
invariant-loop-i l = Laying 16 l.rows l.i (given_parts l.todo) (given_parts l.design)
