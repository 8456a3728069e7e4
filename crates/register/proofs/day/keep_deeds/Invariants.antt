use Rattle.register.proofs.Daily.{KeptSoFar}
use Rattle.register.proofs.day.keep_deeds.Given as goal

abbrev pub invariant-loop-e : goal.invariant-loop-e
invariant-loop-e l = KeptSoFar l.parts.width.columns l.most l.parts.numbers.now l.initial.cells l.deeds l.initial.answers l.e l.cells l.left l.answers
