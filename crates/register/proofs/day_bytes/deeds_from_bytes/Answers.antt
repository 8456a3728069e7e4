use Rattle.std.proofs.Common.{ℕ, ◌+◌, ◌*◌, ◌≤◌, ◌++◌, length, drop, refl, ap, ◌∙◌, arith, length-drop, length-take, rules}
use Rattle.register.specs.DayBytes.{deeds_of_bytes}
use Rattle.register.proofs.ByteDays.{deeds_start, deed_there, deeds_next, deeds_end, slot_fits}
use Rattle.register.proofs.day_bytes.deeds_from_bytes.Goals as goal

pub loop-e-init : goal.loop-e-init
loop-e-init c = deeds_start c.args.width.columns c.whole_deed_count-count.result c.args.bytes.now c.args.deeds.now c.whole_deed_count-count.ensures.whole

pub overflow_add-e : goal.overflow_add-e
overflow_add-e c =
    let h : c.loop-e.e * (c.columns.result + 1) + (c.columns.result + 1) ≤ length c.args.deeds.now = slot_fits c.args.width.columns (c.columns.result + 1) c.loop-e.e c.whole_deed_count-count.result (length c.args.deeds.now) (ap (λ (k : ℕ). k + 1) c.columns.ensures) (omega arith) c.whole_deed_count-count.ensures.room in
    search rules

pub offset_bounds-deeds-e : goal.offset_bounds-deeds-e
offset_bounds-deeds-e c =
    let h : c.loop-e.e * (c.columns.result + 1) + (c.columns.result + 1) ≤ length c.args.deeds.now = slot_fits c.args.width.columns (c.columns.result + 1) c.loop-e.e c.whole_deed_count-count.result (length c.args.deeds.now) (ap (λ (k : ℕ). k + 1) c.columns.ensures) (omega arith) c.whole_deed_count-count.ensures.room in
    search rules

pub slice_bounds-write_deed-end : goal.slice_bounds-write_deed-end
slice_bounds-write_deed-end c = omega (arith, slot_fits c.args.width.columns (c.columns.result + 1) c.loop-e.e c.whole_deed_count-count.result (length c.args.deeds.now) (ap (λ (k : ℕ). k + 1) c.columns.ensures) (omega arith) c.whole_deed_count-count.ensures.room, c.loop-e.auto.deeds)

pub write_deed-requires : goal.write_deed-requires
write_deed-requires c =
    let h = slot_fits c.args.width.columns (c.columns.result + 1) c.loop-e.e c.whole_deed_count-count.result (length c.args.deeds.now) (ap (λ (k : ℕ). k + 1) c.columns.ensures) (omega arith) c.whole_deed_count-count.ensures.room in
    record {
      whole = deed_there c.args.width.columns c.whole_deed_count-count.result c.args.bytes.now c.args.deeds.now c.loop-e.e c.loop-e.left.now c.loop-e.deeds c.loop-e.invariant (omega arith);
      room = simp (length-take, length-drop) (omega (arith, c.columns.ensures, c.loop-e.auto.deeds));
    }

pub slice_bounds-left-count : goal.slice_bounds-left-count
slice_bounds-left-count c = omega (arith, c.deed_size-size.ensures, deed_there c.args.width.columns c.whole_deed_count-count.result c.args.bytes.now c.args.deeds.now c.loop-e.e c.loop-e.left.now c.loop-e.deeds c.loop-e.invariant (omega arith))

pub slice_bounds-left-start : goal.slice_bounds-left-start
slice_bounds-left-start c = omega (arith, c.deed_size-size.ensures, deed_there c.args.width.columns c.whole_deed_count-count.result c.args.bytes.now c.args.deeds.now c.loop-e.e c.loop-e.left.now c.loop-e.deeds c.loop-e.invariant (omega arith))

pub loop-e-preserved : goal.loop-e-preserved
loop-e-preserved c =
    deeds_next c.args.width.columns c.whole_deed_count-count.result c.args.bytes.now c.args.deeds.now c.loop-e.e c.loop-e.left.now c.loop-e.deeds c.loop-e.invariant
    (c.columns.result + 1) c.deed_size-size.result c.write_deed.new.deed _ (omega arith) (ap (λ (k : ℕ). k + 1) c.columns.ensures) c.deed_size-size.ensures
    (omega (arith, slot_fits c.args.width.columns (c.columns.result + 1) c.loop-e.e c.whole_deed_count-count.result (length c.args.deeds.now) (ap (λ (k : ℕ). k + 1) c.columns.ensures) (omega arith) c.whole_deed_count-count.ensures.room, c.loop-e.auto.deeds)) c.write_deed.ensures refl

pub returns : goal.returns
returns c =
    let n = c.args.width.columns in
    let bs = c.args.bytes.now in
    let lent = c.args.deeds.now in
    record {
      count = c.whole_deed_count-count.ensures.is;
      room = c.whole_deed_count-count.ensures.room;
      read = deeds_end n c.whole_deed_count-count.result bs lent c.loop-e.e c.loop-e.left.now c.loop-e.deeds c.loop-e.invariant (omega arith) (omega arith)
          ∙ ap (λ (k : ℕ). deeds_of_bytes n k bs ++ drop (k * (n + 1)) lent) c.whole_deed_count-count.ensures.is;
    }
