use Rattle.register.proofs.Undoing.{undone_stands}
use Rattle.register.proofs.theorems.day_undone.Goals as goal

pub returns : goal.returns
returns c = undone_stands
