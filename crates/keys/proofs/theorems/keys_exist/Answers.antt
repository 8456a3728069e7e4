use Rattle.keys.proofs.Existing.{keys_exist_lem}
use Rattle.keys.proofs.theorems.keys_exist.Goals as goal

pub returns : goal.returns
returns c = keys_exist_lem
