use Rattle.schema.proofs.Written.{Owned}
use Rattle.schema.proofs.layout.write_own.Given as goal

abbrev pub invariant-loop-rule : goal.invariant-loop-rule
invariant-loop-rule l = Owned l.rules l.set l.initial.row l.rule-index l.owned l.row
