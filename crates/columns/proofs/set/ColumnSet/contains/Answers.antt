use Rattle.std.proofs.Common.{sym}
use Rattle.columns.specs.Sets.{cols}
use Rattle.columns.proofs.Within.{has_shift}
use Rattle.columns.proofs.set.ColumnSet.contains.Goals as goal

pub returns : goal.returns
unfolding cols
returns c = sym (has_shift 16 c.args.self.bits c.args.c.index c.args.c.small)
