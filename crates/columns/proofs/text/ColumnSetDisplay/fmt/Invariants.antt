use Rattle.std.proofs.Common.{length, codes, decimal}
use Rattle.columns.specs.Sets.{cols}
use Rattle.columns.proofs.Printed.{LedBut}
use Rattle.columns.proofs.text.ColumnSetDisplay.fmt.Given as goal

-- all columns but the first were written that are not left
abbrev pub invariant-loop-c : goal.invariant-loop-c
invariant-loop-c g l = LedBut g.W.Write.write_str_gives decimal (codes " ") l.initial.f l.f (codes " ") (cols l.rest) (codes " ") (cols l.initial.rest)

abbrev pub decreases-loop-c : goal.decreases-loop-c
decreases-loop-c g l = length (cols l.rest)
