use Rattle.std.proofs.Common.{arith}
use Rattle.verdict.specs.Given.{given_part, given_parts}
use Rattle.verdict.proofs.Tableaux.{laying_turn}
use Rattle.verdict.proofs.chase.lay_out.Goals as goal

pub loop-i-preserved : goal.loop-i-preserved
loop-i-preserved c =
    laying_turn 16 c.loop-i.rows c.loop-i.i c.row_apart.result (given_part c.in-Some.part) (given_parts c.loop-i.todo) (given_parts c.next.new.self)
    (given_parts c.args.design) (omega (arith, c.loop-i.auto.rows, c.loop-i-test.true)) c.in-Some.ensures.steps c.row_apart.ensures c.loop-i.invariant
