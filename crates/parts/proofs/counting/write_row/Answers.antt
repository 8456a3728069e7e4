use Rattle.std.proofs.Common.{◌≡◌, ℕ, ◌+◌, List, ◌∷◌, ◌++◌, length, drop, set, take, sym, ap, ◌∙◌, arith}
use Rattle.std.proofs.lemmas.List.{length-set, length-take-le, length-append, length-drop}
use Rattle.columns.specs.Sets.{cols}
use Rattle.parts.specs.Day.{masked}
use Rattle.parts.proofs.Masking.{masked_length, masked_cell}
use Rattle.parts.proofs.Written.{cell_written, row_written, row_ended, row_last}
use Rattle.parts.proofs.counting.write_row.Goals as goal

pub loop-c-preserved : goal.loop-c-preserved
loop-c-preserved c =
    let M : List ℕ = masked (cols c.args.set) 0 c.args.row.cells.now in
    let m = masked_length (cols c.args.set) 0 c.args.row.cells.now in
    let s = length-take-le c.columns-n.result c.args.rest.now (omega (arith, c.columns-n.ensures)) in
    cell_written (take c.columns-n.result c.args.rest.now) c.loop-c.slot-items M c.loop-c.c c.look_cell.result (omega (arith, c.loop-c.auto.slot-items)) (omega (arith, c.columns-n.ensures, c.args.row.whole))
    (c.look_cell.ensures ∙ sym (masked_cell (cols c.args.set) c.args.row.cells.now c.loop-c.c (omega (arith, c.columns-n.ensures, c.args.row.whole))))
    c.loop-c.invariant.0 c.loop-c.invariant.1

pub returns-then-next-rest : goal.returns-then-next-rest
returns-then-next-rest c =
    let e = c.args.rest.now in
    let n = c.columns-n.result in
    let M : List ℕ = masked (cols c.args.set) 0 c.args.row.cells.now in
    let m : length M ≡ n = masked_length (cols c.args.set) 0 c.args.row.cells.now ∙ c.args.row.whole ∙ sym c.columns-n.ensures in
    let s : length c.loop-c.slot-items ≡ n = c.loop-c.auto.slot-items ∙ length-take-le n e (omega (arith, c.columns-n.ensures)) in
    row_ended e (set (c.loop-c.slot-items ++ drop n e) n 1) M n m (row_written e c.loop-c.slot-items M n c.loop-c.c (omega (arith, c.columns-n.ensures)) (omega (arith, s)) s m c.loop-c.invariant.0)
    ∙ ap (λ (k : ℕ). M ++ (1 ∷ set (drop (k + 1) e) k 0)) c.columns-n.ensures

pub returns-else-next-rest : goal.returns-else-next-rest
returns-else-next-rest c =
    let e = c.args.rest.now in
    let n = c.columns-n.result in
    let M : List ℕ = masked (cols c.args.set) 0 c.args.row.cells.now in
    let m : length M ≡ n = masked_length (cols c.args.set) 0 c.args.row.cells.now ∙ c.args.row.whole ∙ sym c.columns-n.ensures in
    let s : length c.loop-c.slot-items ≡ n = c.loop-c.auto.slot-items ∙ length-take-le n e (omega (arith, c.columns-n.ensures)) in
    row_last e (set (c.loop-c.slot-items ++ drop n e) n 1) M n (omega (arith, c.if-next-rest.false, length-set (c.loop-c.slot-items ++ drop n e) n 1, length-append c.loop-c.slot-items (drop n e), length-drop n e))
    (row_written e c.loop-c.slot-items M n c.loop-c.c (omega (arith, c.columns-n.ensures)) (omega (arith, s)) s m c.loop-c.invariant.0)
    ∙ ap (λ (k : ℕ). M ++ (1 ∷ set (drop (k + 1) e) k 0)) c.columns-n.ensures
