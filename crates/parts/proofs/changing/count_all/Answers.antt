use Rattle.std.proofs.Common.{ℕ, ◌+◌, ◌*◌, ap, ◌∙◌, arith}
use Rattle.columns.specs.Sets.{cols}
use Rattle.parts.specs.Store.{room_of}
use Rattle.parts.specs.Left.{own, parts_left}
use Rattle.parts.proofs.Walks.{size_is}
use Rattle.parts.proofs.Shares.{may_lent, so_far_next, so_far_end}
use Rattle.parts.proofs.changing.count_all.Goals as goal

pub count-requires-clause-may : goal.count-requires-clause-may
count-requires-clause-may g c =
    let given = c.in-Some.ensures.steps in
    may_lent g.C.Counts.one c.args.parts.width.columns c.room-room.result c.args.parts.numbers.now c.args.cells.now c.args.row.now c.room-room.ensures c.loop-part.part-iterator.place
    (parts_left c.loop-part.part-iterator) (own c.in-Some.part) (parts_left c.next.new.self) c.loop-part.cells (omega (arith, given.here)) c.loop-part.invariant.1 given.parts c.loop-part.auto.cells
    c.size-size.result (c.in-Some.part.place * c.size-size.result) (size_is c.size-size.result c.room-room.result (room_of c.args.parts.width.columns c.args.parts.numbers.now c.args.cells.now) (c.args.parts.width.columns + 1) c.size-size.ensures.is c.room-room.ensures)
    (ap (λ (z : ℕ). z * c.size-size.result) given.place) g.C.Counts.all_may g.C.Counts.may g.met.C.Counts.each_may (cols c.set.result) c.set.ensures c.requires.may

pub loop-part-preserved : goal.loop-part-preserved
loop-part-preserved g c =
    let given = c.in-Some.ensures.steps in (
      given.count ∙ c.loop-part.invariant.0,
      so_far_next g.C.Counts.one c.args.parts.width.columns c.room-room.result c.args.parts.numbers.now c.args.cells.now c.args.row.now c.room-room.ensures c.loop-part.part-iterator.place
          (parts_left c.loop-part.part-iterator) (own c.in-Some.part) (parts_left c.next.new.self) c.loop-part.cells (omega (arith, given.here)) c.loop-part.invariant.1 given.parts c.loop-part.auto.cells
          c.size-size.result (c.in-Some.part.place * c.size-size.result) (size_is c.size-size.result c.room-room.result (room_of c.args.parts.width.columns c.args.parts.numbers.now c.args.cells.now) (c.args.parts.width.columns + 1) c.size-size.ensures.is c.room-room.ensures)
          (ap (λ (z : ℕ). z * c.size-size.result) given.place) c.next.new.self.place (cols c.set.result) c.count.new.rows given.next c.set.ensures c.count.auto.rows c.count.ensures.0 c.count.ensures.1,
    )

pub returns : goal.returns
returns g c =
    so_far_end g.C.Counts.one c.args.parts.width.columns c.room-room.result c.args.parts.numbers.now c.args.cells.now c.args.row.now c.room-room.ensures g.C.Counts.all g.met.C.Counts.apart
    c.loop-part.part-iterator.place (parts_left c.loop-part.part-iterator) c.loop-part.cells (omega (arith, c.in-None.ensures.steps.0)) c.loop-part.invariant.1.few c.loop-part.auto.cells c.loop-part.invariant.1
