use Rattle.register.proofs.Undoing.{never_more_stands}
use Rattle.register.proofs.theorems.parts_never_more.Goals as goal

pub returns : goal.returns
returns c = never_more_stands
