use Rattle.organs.proofs.OrganFacts.{closures_stand}
use Rattle.organs.proofs.organ_closures.Goals as goal

pub returns : goal.returns
returns c = closures_stand
