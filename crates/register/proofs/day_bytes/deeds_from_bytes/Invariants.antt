use Rattle.register.proofs.ByteDays.{DeedsSoFar}
use Rattle.register.proofs.day_bytes.deeds_from_bytes.Given as goal

abbrev pub invariant-loop-e : goal.invariant-loop-e
invariant-loop-e l = DeedsSoFar l.width.columns l.count l.bytes l.initial.deeds l.e l.left l.deeds
