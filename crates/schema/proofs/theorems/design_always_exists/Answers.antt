use Rattle.schema.proofs.AlwaysOne.{always_one}
use Rattle.schema.proofs.theorems.design_always_exists.Goals as goal

pub returns : goal.returns
returns c = always_one
