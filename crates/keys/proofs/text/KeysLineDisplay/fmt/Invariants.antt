use Rattle.std.proofs.Common.{drop, codes}
use Rattle.columns.specs.Shown.{listed}
use Rattle.columns.proofs.Printed.{LedBut}
use Rattle.keys.specs.Shown.{key_lead, fitting}
use Rattle.keys.proofs.text.KeysLineDisplay.fmt.Given as goal

-- all keys were written that are not left
abbrev pub invariant-loop-number : goal.invariant-loop-number
invariant-loop-number g l =
    LedBut g.W.Write.write_str_gives listed (codes "; ") l.initial.f l.f (key_lead l.lead) (fitting l.self.width.columns (drop l.number-index l.self.keys.now))
    (codes " ") (fitting l.self.width.columns l.self.keys.now)
