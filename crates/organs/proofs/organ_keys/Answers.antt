use Rattle.organs.proofs.OrganFacts.{keys_stand}
use Rattle.organs.proofs.organ_keys.Goals as goal

pub returns : goal.returns
returns c = keys_stand
