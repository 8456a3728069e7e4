use Rattle.std.proofs.Common.{refl}
use Rattle.columns.proofs.SetNumbers.{cols_wide}
use Rattle.columns.proofs.set.ColumnSet.bits.Goals as goal

pub returns : goal.returns
returns c = (cols_wide c.args.self, refl)
