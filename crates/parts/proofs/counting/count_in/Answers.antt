use Rattle.std.proofs.Common.{◌≡◌, ℕ, ◌+◌, ◌*◌, ◌<◌, get_or, set, sym, refl, ap, subst, ap₂, arith, rules}
use Rattle.columns.specs.Sets.{cols}
use Rattle.parts.specs.Day.{one_more}
use Rattle.parts.specs.Store.{held_in, Clean}
use Rattle.parts.proofs.Decoded.{held_length}
use Rattle.parts.proofs.Turns.{times_small, room_left}
use Rattle.parts.proofs.Counted.{in_again, in_new_at}
use Rattle.parts.proofs.counting.count_in.Goals as goal

pub start-at-requires : goal.start-at-requires
start-at-requires c = omega (arith, held_length c.args.row.width.columns c.args.room c.args.rows.now, c.in-Ok.ensures.1)

pub overflow_add-rows-in-Ok : goal.overflow_add-rows-in-Ok
overflow_add-rows-in-Ok c =
    let x : c.start-at.result + c.columns-n.result ≡ c.in-Ok.i * (c.args.row.width.columns + 1) + c.args.row.width.columns = ap₂ (λ (a b : ℕ). a + b) c.start-at.ensures.is c.columns-n.ensures in
    let t : get_or c.args.rows.now (c.start-at.result + c.columns-n.result) 0 < 4294967295
    = times_small c.args.row.width.columns c.args.room (cols c.args.set) c.args.row.cells.now c.args.rows.now c.in-Ok.i c.in-Ok.ensures.0
    (get_or c.args.rows.now (c.start-at.result + c.columns-n.result) 0) c.in-Ok.ensures.1 (ap (λ (z : ℕ). get_or c.args.rows.now z 0) x) c.requires.free in
    search rules

pub start-at-requires-in-Err : goal.start-at-requires-in-Err
start-at-requires-in-Err c =
    let q = c.in-Err.ensures.1 in
    let f = room_left c.args.row.width.columns c.args.room (cols c.args.set) c.args.row.cells.now c.args.rows.now c.in-Err.i c.in-Err.ensures.0 (omega arith) c.requires.free in
    omega arith

pub returns-in-Ok : goal.returns-in-Ok
returns-in-Ok c =
    let n = c.args.row.width.columns in
    let xs = c.args.rows.now in
    let i = c.in-Ok.i in
    let x : c.start-at.result + c.columns-n.result ≡ i * (n + 1) + n = ap₂ (λ (a b : ℕ). a + b) c.start-at.ensures.is c.columns-n.ensures in
    let r = in_again n c.args.room (cols c.args.set) c.args.row.cells.now xs c.requires.whole i c.in-Ok.ensures.0 (get_or xs (i * (n + 1) + n) 0) c.in-Ok.ensures.1 refl in (
      subst (λ (z : ℕ). held_in n c.args.room (set xs z (get_or xs z 0 + 1)) ≡ one_more (cols c.args.set) c.args.row.cells.now (held_in n c.args.room xs)) (sym x) r.0,
      subst (λ (z : ℕ). Clean n c.args.room xs → Clean n c.args.room (set xs z (get_or xs z 0 + 1))) (sym x) r.1,
    )

pub returns-in-Err : goal.returns-in-Err
returns-in-Err c =
    let n = c.args.row.width.columns in
    let xs = c.args.rows.now in
    let p = cols c.args.set in
    let row = c.args.row.cells.now in
    let q = c.in-Err.ensures.1 in
    let f = room_left n c.args.room p row xs c.in-Err.i c.in-Err.ensures.0 (omega arith) c.requires.free in
    let r = in_new_at n c.args.room p row xs c.requires.whole c.in-Err.i c.in-Err.ensures.0 c.start-at-in-Err.result c.write_row.new.rest c.start-at-in-Err.ensures.is c.args.row.whole (omega arith)
    (omega arith) c.write_row.ensures in
    r
