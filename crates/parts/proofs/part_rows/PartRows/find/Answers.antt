use Rattle.std.proofs.Common.{sym, ap, length, ◌∙◌, arith}
use Rattle.columns.specs.Sets.{cols}
use Rattle.parts.specs.Left.{rows_left, held_here}
use Rattle.parts.proofs.Turns.{place_found, place_next, place_end}
use Rattle.parts.proofs.part_rows.PartRows.find.Goals as goal

pub returns-then-agrees : goal.returns-then-agrees
returns-then-agrees c =
    let left = c.loop-held.rows in
    let (step, here, next) = c.in-Some.ensures.steps in
    let some = ap length step in (
      here ∙ place_found (cols c.args.set) c.args.row.now (rows_left left) (held_here c.in-Some.held) (rows_left c.next.new.self) left.place _ step (sym c.agrees.ensures ∙ c.if-agrees.true) c.loop-held.invariant.1,
      omega (arith, c.loop-held.invariant.0),
    )

pub loop-held-preserved : goal.loop-held-preserved
loop-held-preserved c =
    let left = c.loop-held.rows in
    let (step, here, next) = c.in-Some.ensures.steps in
    let some = ap length step in (
      omega (arith, c.loop-held.invariant.0),
      place_next (cols c.args.set) c.args.row.now (rows_left left) (held_here c.in-Some.held) (rows_left c.next.new.self) left.place c.next.new.self.place _ step (sym c.agrees.ensures ∙ c.if-agrees.false) next c.loop-held.invariant.1,
    )

pub returns : goal.returns
returns c =
    let left = c.loop-held.rows in
    let (none, same) = c.in_default.ensures.steps in
    let all = ap length none in (
      same ∙ place_end (cols c.args.set) c.args.row.now (rows_left left) left.place _ none c.loop-held.invariant.1,
      omega (arith, c.loop-held.invariant.0),
    )
