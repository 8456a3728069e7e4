use Rattle.std.proofs.Common.{arith}
use Rattle.columns.specs.Sets.{cols}
use Rattle.parts.proofs.Decoded.{held_length}
use Rattle.parts.proofs.Turns.{full_there, full_new}
use Rattle.parts.proofs.part_rows.PartRows.is_full.Goals as goal

pub times-requires : goal.times-requires
times-requires c = omega (arith, held_length c.args.self.width.columns c.args.self.room c.args.self.cells.now, c.in-Ok.ensures.1)

pub returns-in-Ok : goal.returns-in-Ok
returns-in-Ok c =
    full_there c.args.self.width.columns c.args.self.room (cols c.args.set) c.args.row.now c.args.self.cells.now c.in-Ok.i c.in-Ok.ensures.0 c.times.result c.in-Ok.ensures.1 c.times.ensures

pub returns-in-Err : goal.returns-in-Err
returns-in-Err c = full_new c.args.self.width.columns c.args.self.room (cols c.args.set) c.args.row.now c.args.self.cells.now c.in-Err.held c.in-Err.ensures.0 c.in-Err.held c.in-Err.ensures.1 (omega arith)
