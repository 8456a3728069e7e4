use Rattle.keys.proofs.Keys.{keys_one}
use Rattle.keys.proofs.theorems.keys_are_one.Goals as goal

pub returns : goal.returns
returns c = keys_one
