use Rattle.register.proofs.Days.{parts_as_whole_stands}
use Rattle.register.proofs.theorems.parts_as_whole.Goals as goal

pub returns : goal.returns
returns c = parts_as_whole_stands
