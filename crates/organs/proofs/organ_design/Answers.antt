use Rattle.organs.proofs.OrganFacts.{design_stands}
use Rattle.organs.proofs.organ_design.Goals as goal

pub returns : goal.returns
returns c = design_stands
