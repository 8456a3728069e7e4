use Rattle.std.proofs.Common.{codes, decimal, refl}
use Rattle.columns.proofs.Printed.{one_led}
use Rattle.columns.proofs.text.ColumnSetDisplay.fmt.Goals as goal

pub loop-c-preserved : goal.loop-c-preserved
loop-c-preserved g c =
    one_led g.W.Write.write_str_gives decimal (codes " ") _ _ _ (codes " ") c.in-Some-take_first.c.index _ _ (codes " ") _ c.in-Some-take_first.ensures
    c.loop-c.invariant (λ plain. c.in_ok-write-2.ensures.writes plain refl)
