use Rattle.std.proofs.Common.{sym, ◌∙◌}
use Rattle.columns.specs.Sets.{cols}
use Rattle.columns.proofs.Comparing.{before_lt}
use Rattle.columns.proofs.set.ColumnSet.precedes.Goals as goal

pub returns : goal.returns
returns c = c.lt.ensures ∙ sym (before_lt (cols c.args.self) (cols c.args.other))
