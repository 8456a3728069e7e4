use Rattle.std.proofs.Common.{◌≡◌, ℕ, ◌+◌, refl, ap, subst, arith}
use Rattle.register.specs.Deeds.{DeedsKept}
use Rattle.register.proofs.Daily.{kept_start, deed_long, asked_deed, kept_next, kept_end, deeds_stop, deeds_over}
use Rattle.register.proofs.day.keep_deeds.Goals as goal

pub loop-e-init : goal.loop-e-init
loop-e-init c = kept_start c.args.parts.width.columns c.deed_count-most.result c.args.parts.numbers.now c.args.cells.now c.args.deeds.now c.args.answers.now c.deed_count-most.ensures.whole

pub bounds-left-0 : goal.bounds-left-0
bounds-left-0 c =
    omega (arith, deed_long c.args.parts.width.columns c.deed_count-most.result c.args.parts.numbers.now c.args.cells.now c.args.deeds.now c.args.answers.now c.loop-e.e c.loop-e.cells c.loop-e.left.now c.loop-e.answers c.loop-e.invariant (omega arith))

pub returns-in_default : goal.returns-in_default
returns-in_default c =
    kept_end c.args.parts.width.columns c.deed_count-most.result c.args.parts.numbers.now c.args.cells.now c.args.deeds.now c.args.answers.now c.loop-e.e c.loop-e.cells c.loop-e.left.now c.loop-e.answers c.loop-e.invariant
    c.deed_count-most.ensures.is (deeds_stop c.args.parts.width.columns _ c.loop-e.left.now c.in_default.ensures)

pub slice_bounds-left-end : goal.slice_bounds-left-end
slice_bounds-left-end c =
    let h = c.columns.ensures in
    omega (arith, deed_long c.args.parts.width.columns c.deed_count-most.result c.args.parts.numbers.now c.args.cells.now c.args.deeds.now c.args.answers.now c.loop-e.e c.loop-e.cells c.loop-e.left.now c.loop-e.answers c.loop-e.invariant (omega arith))

pub slice_bounds-left-count : goal.slice_bounds-left-count
slice_bounds-left-count c =
    let h = c.columns.ensures in
    omega (arith, deed_long c.args.parts.width.columns c.deed_count-most.result c.args.parts.numbers.now c.args.cells.now c.args.deeds.now c.args.answers.now c.loop-e.e c.loop-e.cells c.loop-e.left.now c.loop-e.answers c.loop-e.invariant (omega arith))

pub slice_bounds-left-start : goal.slice_bounds-left-start
slice_bounds-left-start c =
    let h = c.columns.ensures in
    omega (arith, deed_long c.args.parts.width.columns c.deed_count-most.result c.args.parts.numbers.now c.args.cells.now c.args.deeds.now c.args.answers.now c.loop-e.e c.loop-e.cells c.loop-e.left.now c.loop-e.answers c.loop-e.invariant (omega arith))

pub loop-e-preserved : goal.loop-e-preserved
loop-e-preserved c =
    let n = c.args.parts.width.columns in
    let long = ap (λ (k : ℕ). k + 1) c.columns.ensures in
    kept_next n c.deed_count-most.result c.args.parts.numbers.now c.args.cells.now c.args.deeds.now c.args.answers.now c.loop-e.e c.loop-e.cells c.loop-e.left.now c.loop-e.answers c.loop-e.invariant
    (c.columns.result + 1) c.do_deed-told.new.cells c.write_answer.new.slot _ c.do_deed-told.result (omega arith)
    (omega (arith, c.deed_count-most.ensures.room, c.loop-e.auto.answers)) c.loop-e.auto.cells long c.in-Some.ensures.0
    _ (asked_deed n _ c.loop-e.left.now c.in-Some.kind c.in-Some.ensures.1 long)
    c.do_deed-told.ensures.told c.do_deed-told.ensures.after c.write_answer.ensures refl

pub returns : goal.returns
returns c =
    let q : c.loop-e.e ≡ c.deed_count-most.result = omega arith in
    subst (λ (k : ℕ). DeedsKept c.args.parts.width.columns c.args.parts.numbers.now c.args.cells.now c.loop-e.cells c.args.deeds.now c.args.answers.now c.loop-e.answers k) q
    (kept_end c.args.parts.width.columns c.deed_count-most.result c.args.parts.numbers.now c.args.cells.now c.args.deeds.now c.args.answers.now c.loop-e.e c.loop-e.cells c.loop-e.left.now c.loop-e.answers c.loop-e.invariant
    c.deed_count-most.ensures.is (deeds_over c.args.parts.width.columns _ c.loop-e.left.now (omega arith)))
