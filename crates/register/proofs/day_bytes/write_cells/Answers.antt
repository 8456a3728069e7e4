use Rattle.std.proofs.Common.{length, refl, arith}
use Rattle.register.proofs.ByteDays.{cells_start, cells_next, cells_end}
use Rattle.register.proofs.day_bytes.write_cells.Goals as goal

pub loop-cell-init : goal.loop-cell-init
loop-cell-init c = cells_start (length c.args.cells.now) c.args.bytes.now c.args.cells.now c.requires

pub loop-cell-preserved : goal.loop-cell-preserved
loop-cell-preserved c =
    cells_next (length c.args.cells.now) c.args.bytes.now c.loop-cell.cell-index c.loop-cell.left.now _ c.loop-cell.cells c.first_cell.result (omega arith) c.loop-cell.auto.cells c.loop-cell.invariant
    c.first_cell.ensures refl

pub returns : goal.returns
returns c =
    cells_end (length c.args.cells.now) c.args.bytes.now c.loop-cell.cell-index c.loop-cell.left.now c.loop-cell.cells (omega arith) c.loop-cell.auto.cells c.loop-cell.invariant
