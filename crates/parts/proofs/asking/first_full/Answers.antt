use Rattle.std.proofs.Common.{sym, ap, ◌∙◌}
use Rattle.columns.specs.Cols.{Cols}
use Rattle.parts.specs.Answers.{full}
use Rattle.parts.specs.Left.{rows_in}
use Rattle.parts.proofs.Walks.{full_stop, full_next, full_end}
use Rattle.parts.proofs.asking.first_full.Goals as goal

pub returns-then-is_full : goal.returns-then-is_full
returns-then-is_full c =
    let row = c.args.row.now in
    full_stop c.loop-part.part-iterator c.in-Some.part c.in-Some.rows c.next.new.self c.in-Some.ensures.steps row _ c.loop-part.invariant
    (ap (λ (s : Cols). full c.in-Some.rows.room s row (rows_in c.in-Some.rows)) (sym c.set.ensures) ∙ sym c.is_full.ensures ∙ c.if-is_full.true)

pub loop-part-preserved : goal.loop-part-preserved
loop-part-preserved c =
    let row = c.args.row.now in
    full_next c.loop-part.part-iterator c.in-Some.part c.in-Some.rows c.next.new.self c.in-Some.ensures.steps row _ c.loop-part.invariant
    (ap (λ (s : Cols). full c.in-Some.rows.room s row (rows_in c.in-Some.rows)) (sym c.set.ensures) ∙ sym c.is_full.ensures ∙ c.if-is_full.false)

pub returns : goal.returns
returns c = full_end c.loop-part.part-iterator c.args.row.now c.in-None.ensures.steps.0 _ c.loop-part.invariant
