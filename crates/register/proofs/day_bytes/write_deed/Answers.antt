use Rattle.std.proofs.Common.{get_or, refl, arith, length-drop, length-set, length-take}
use Rattle.std.proofs.lemmas.List.{take_rest}
use Rattle.register.proofs.ByteDays.{deed_written}
use Rattle.register.proofs.day_bytes.write_deed.Goals as goal

pub returns : goal.returns
returns c =
    deed_written c.args.width.columns _ _ c.args.deed.now c.args.bytes.now _ c.write_cells.new.cells (get_or c.args.bytes.now 0 0) c.requires.room refl c.write_cells.ensures
    (simp (length-take, length-drop, length-set) (omega (arith, c.requires.room))) (take_rest c.args.bytes.now 1)
    (simp length-set (omega (arith, c.requires.room)))
