use Rattle.std.proofs.Common.{◌≡◌, ℕ, ◌+◌, ◌-◌, ◌*◌, ◌<◌, get_or, set, sym, refl, ap, ◌∙◌, subst, ap₂, arith}
use Rattle.columns.specs.Sets.{cols}
use Rattle.parts.specs.Day.{one_less}
use Rattle.parts.specs.Store.{held_in, Clean}
use Rattle.parts.proofs.Decoded.{held_length, held_at}
use Rattle.parts.proofs.Counted.{out_again, out_last_at, held_place}
use Rattle.parts.proofs.counting.count_out.Goals as goal

pub start-at-requires : goal.start-at-requires
start-at-requires c =
    let l = held_place (cols c.args.set) c.args.row.cells.now (held_in c.args.row.width.columns c.args.room c.args.rows.now) c.place_of-i.result c.place_of-i.ensures c.requires.there in
    omega (arith, held_length c.args.row.width.columns c.args.room c.args.rows.now)

pub overflow_sub-rows : goal.overflow_sub-rows
overflow_sub-rows c =
    let n = c.args.row.width.columns in
    let i = c.place_of-i.result in
    let x : c.start-at.result + c.columns-n.result ≡ i * (n + 1) + n = ap₂ (λ (a b : ℕ). a + b) c.start-at.ensures.is c.columns-n.ensures in
    let l = held_place (cols c.args.set) c.args.row.cells.now (held_in n c.args.room c.args.rows.now) i c.place_of-i.ensures c.requires.there in
    let o : 0 < get_or c.args.rows.now (c.start-at.result + c.columns-n.result) 0 = subst (λ (z : ℕ). 0 < get_or c.args.rows.now z 0) (sym x) (held_at n i c.args.room c.args.rows.now l).2 in
    omega arith

pub returns-then-times-eq1 : goal.returns-then-times-eq1
returns-then-times-eq1 c =
    let n = c.args.row.width.columns in
    let xs = c.args.rows.now in
    let i = c.place_of-i.result in
    let x : c.start-at.result + c.columns-n.result ≡ i * (n + 1) + n = ap₂ (λ (a b : ℕ). a + b) c.start-at.ensures.is c.columns-n.ensures in
    let l = held_place (cols c.args.set) c.args.row.cells.now (held_in n c.args.room xs) i c.place_of-i.ensures c.requires.there in
    let r = out_last_at n c.args.room (cols c.args.set) c.args.row.cells.now xs c.requires.whole i c.place_of-i.ensures (get_or xs (c.start-at.result + c.columns-n.result) 0) c.start-at.result c.drop_row.new.rest
    c.start-at.ensures.is l (ap (λ (z : ℕ). get_or xs z 0) x) c.if-times-eq1.true c.drop_row.ensures in
    r

pub returns-else-times-eq1 : goal.returns-else-times-eq1
returns-else-times-eq1 c =
    let n = c.args.row.width.columns in
    let xs = c.args.rows.now in
    let i = c.place_of-i.result in
    let x : c.start-at.result + c.columns-n.result ≡ i * (n + 1) + n = ap₂ (λ (a b : ℕ). a + b) c.start-at.ensures.is c.columns-n.ensures in
    let l = held_place (cols c.args.set) c.args.row.cells.now (held_in n c.args.room xs) i c.place_of-i.ensures c.requires.there in
    let r = out_again n c.args.room (cols c.args.set) c.args.row.cells.now xs c.requires.whole i c.place_of-i.ensures (get_or xs (i * (n + 1) + n) 0) l refl
    (λ e. c.if-times-eq1.false (ap (λ (z : ℕ). get_or xs z 0) x ∙ e)) in (
      subst (λ (z : ℕ). held_in n c.args.room (set xs z (get_or xs z 0 - 1)) ≡ one_less (cols c.args.set) c.args.row.cells.now (held_in n c.args.room xs)) (sym x) r.0,
      subst (λ (z : ℕ). Clean n c.args.room xs → Clean n c.args.room (set xs z (get_or xs z 0 - 1))) (sym x) r.1,
    )
