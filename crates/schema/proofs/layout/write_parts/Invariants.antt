use Rattle.schema.specs.Writing.{left_in}
use Rattle.schema.proofs.Written.{Partly}
use Rattle.schema.proofs.layout.write_parts.Given as goal

abbrev pub invariant-loop-set : goal.invariant-loop-set
invariant-loop-set l = Partly (left_in l.initial.rest) l.sets l.initial.out l.set-index l.at (left_in l.rest) l.out
