use Rattle.std.proofs.Common.{sym}
use Rattle.columns.specs.Sets.{cols}
use Rattle.dependencies.specs.Closure.{round}
use Rattle.dependencies.specs.Rules.{dep}
use Rattle.dependencies.proofs.Rounds.{step_fires, step_idle}
use Rattle.verdict.specs.Given.{own_of}
use Rattle.verdict.proofs.OwnRounds.{rule_turn, rules_end}
use Rattle.verdict.proofs.keeping.part_round.Goals as goal

pub loop-rule-preserved-then-is_subset : goal.loop-rule-preserved-then-is_subset
loop-rule-preserved-then-is_subset c =
    let x = c.in-Some.rule in
    let s = c.loop-rule.all in (
      tt,
      tt,
      rule_turn (own_of c.loop-rule.rule-iterator) (own_of c.next.new.self) (dep x) (cols s) (cols c.union-all.result) (round (own_of c.args.own) (cols c.args.start))
          c.in-Some.ensures.steps (step_fires x s c.union-all.result (sym c.if-is_subset.ensures) c.union-all.ensures) c.loop-rule.invariant.2,
    )

pub loop-rule-preserved : goal.loop-rule-preserved
loop-rule-preserved c =
    let x = c.in-Some.rule in
    let s = c.loop-rule.all in (
      tt,
      tt,
      rule_turn (own_of c.loop-rule.rule-iterator) (own_of c.next.new.self) (dep x) (cols s) (cols s) (round (own_of c.args.own) (cols c.args.start))
          c.in-Some.ensures.steps (step_idle x s (sym c.if-is_subset.ensures)) c.loop-rule.invariant.2,
    )

pub returns : goal.returns
returns c =
    rules_end (own_of c.loop-rule.rule-iterator) (cols c.loop-rule.all) (round (own_of c.args.own) (cols c.args.start)) c.in-None.ensures.steps.0 c.loop-rule.invariant.2
