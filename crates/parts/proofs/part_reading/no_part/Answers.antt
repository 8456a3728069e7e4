use Rattle.std.proofs.Common.{refl}
use Rattle.parts.specs.Store.{held_in}
use Rattle.parts.proofs.part_reading.no_part.Goals as goal

pub returns : goal.returns
unfolding held_in
returns c = record { columns = c.empty.ensures; holds = refl }
