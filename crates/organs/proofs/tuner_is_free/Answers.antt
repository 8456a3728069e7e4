use Rattle.organs.proofs.OrganFacts.{tuner_stands}
use Rattle.organs.proofs.tuner_is_free.Goals as goal

pub returns : goal.returns
returns c = tuner_stands
