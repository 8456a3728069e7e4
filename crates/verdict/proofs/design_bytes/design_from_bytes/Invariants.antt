use Rattle.verdict.proofs.DesignRows.{Reading}
use Rattle.verdict.proofs.design_bytes.design_from_bytes.Given as goal

abbrev pub invariant-loop : goal.invariant-loop
invariant-loop l = Reading l.bytes l.initial.row l.counter l.at l.left l.row
