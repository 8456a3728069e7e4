use Rattle.columns.specs.Sets.{cols}
use Rattle.dependencies.specs.Closure.{round}
use Rattle.schema.specs.Design.{all_rules}
use Rattle.verdict.specs.Given.{given_part, given_parts}
use Rattle.verdict.proofs.OwnRounds.{part_turn, parts_end}
use Rattle.verdict.proofs.keeping.design_round.Goals as goal

pub loop-part-preserved : goal.loop-part-preserved
loop-part-preserved c = (
  tt,
  tt,
  part_turn (given_parts c.loop-part.part-iterator) (given_parts c.next.new.self) (given_part c.in-Some.part) (cols c.loop-part.all) (cols c.part_round-all.result)
      (round (all_rules (given_parts c.args.design)) (cols c.args.start)) c.in-Some.ensures.steps c.part_round-all.ensures c.loop-part.invariant.2,
)

pub returns : goal.returns
returns c =
    parts_end (given_parts c.loop-part.part-iterator) (cols c.loop-part.all) (round (all_rules (given_parts c.args.design)) (cols c.args.start)) c.in-None.ensures.steps.0 c.loop-part.invariant.2
