use Rattle.organs.proofs.OrganFacts.{cover_stands}
use Rattle.organs.proofs.organ_cover.Goals as goal

pub returns : goal.returns
returns c = cover_stands
