use Rattle.organs.proofs.OrganFacts.{misses_stand}
use Rattle.organs.proofs.organ_misses.Goals as goal

pub returns : goal.returns
returns c = misses_stand
