use Rattle.join.proofs.RoundTrip.{laid_then_joined_lem}
use Rattle.join.proofs.theorems.laid_then_joined.Goals as goal

pub returns : goal.returns
returns c = laid_then_joined_lem
