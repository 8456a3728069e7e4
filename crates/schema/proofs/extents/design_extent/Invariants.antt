use Rattle.schema.proofs.PartEnds.{Ended}
use Rattle.schema.proofs.extents.design_extent.Given as goal

abbrev pub invariant-loop : goal.invariant-loop
invariant-loop l = Ended l.lent l.counter l.at
