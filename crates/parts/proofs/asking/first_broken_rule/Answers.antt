use Rattle.std.proofs.Common.{sym, ◌∙◌, arith}
use Rattle.dependencies.specs.Rules.{dep}
use Rattle.parts.specs.Day.{looks_of}
use Rattle.parts.specs.Left.{own, rows_in, rows_left, held_here}
use Rattle.parts.proofs.Walks.{broken_stop, broken_next, broken_end}
use Rattle.parts.proofs.Breaking.{rule_next, rule_stop, rule_end, row_next, row_stop, row_end}
use Rattle.parts.proofs.asking.first_broken_rule.Goals as goal

pub loop-held-preserved : goal.loop-held-preserved
loop-held-preserved c = (
  c.loop-held.invariant.0,
  row_next (dep c.rule-rule.result) c.args.row.now (rows_left c.loop-held.held-iterator) (held_here c.in-Some-held.held) (rows_left c.next-in-loop-held.new.self) c.in-Some-held.ensures.steps.0 _ c.loop-held.invariant.1
      (sym c.breaks.ensures ∙ c.if-breaks.false),
)

pub loop-q-preserved : goal.loop-q-preserved
loop-q-preserved c =
    let row = c.args.row.now in
    let d = dep c.rule-rule.result in (
      c.loop-held.invariant.0,
      rule_next (own c.in-Some.part).rules c.loop-q.q row (looks_of (rows_in c.in-Some.rows)) d (omega (arith, c.rules-q-end.ensures.all)) c.rule-rule.ensures _ c.loop-q.invariant.1
          (row_end d row (rows_left c.loop-held.held-iterator) _ c.in-None-held.ensures.steps.0 c.loop-held.invariant.1),
    )

pub parts-preserved : goal.parts-preserved
parts-preserved c =
    let row = c.args.row.now in (
      c.loop-q.invariant.0,
      broken_next c.parts.part-iterator c.in-Some.part c.in-Some.rows c.next.new.self c.in-Some.ensures.steps row _ c.parts.invariant.1
          (rule_end (own c.in-Some.part).rules c.loop-q.q row (looks_of (rows_in c.in-Some.rows)) _ (omega (arith, c.rules-q-end.ensures.all)) c.loop-q.invariant.1),
    )

pub returns-in-None : goal.returns-in-None
returns-in-None c = c.parts.invariant.0 ∙ broken_end c.parts.part-iterator c.args.row.now c.in-None.ensures.steps.0 _ c.parts.invariant.1

pub returns-then-breaks : goal.returns-then-breaks
returns-then-breaks c =
    let row = c.args.row.now in
    let d = dep c.rule-rule.result in
    broken_stop c.parts.part-iterator c.in-Some.part c.in-Some.rows c.next.new.self c.in-Some.ensures.steps row _ c.loop-q.q c.parts.invariant.1
    (rule_stop (own c.in-Some.part).rules c.loop-q.q row (looks_of (rows_in c.in-Some.rows)) d (omega (arith, c.rules-q-end.ensures.all)) c.rule-rule.ensures _ c.loop-q.invariant.1
    (row_stop d row (rows_left c.loop-held.held-iterator) (held_here c.in-Some-held.held) (rows_left c.next-in-loop-held.new.self) c.in-Some-held.ensures.steps.0 _ c.loop-held.invariant.1
    (sym c.breaks.ensures ∙ c.if-breaks.true)))
