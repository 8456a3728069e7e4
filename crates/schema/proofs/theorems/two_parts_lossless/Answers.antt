use Rattle.schema.proofs.TwoParts.{two_parts}
use Rattle.schema.proofs.theorems.two_parts_lossless.Goals as goal

pub returns : goal.returns
returns c = two_parts
