use Rattle.std.proofs.Common.{length}
use Rattle.register.proofs.ByteDays.{CellsSoFar}
use Rattle.register.proofs.day_bytes.write_cells.Given as goal

abbrev pub invariant-loop-cell : goal.invariant-loop-cell
invariant-loop-cell l = CellsSoFar (length l.initial.cells) l.bytes l.cell-index l.left l.cells
