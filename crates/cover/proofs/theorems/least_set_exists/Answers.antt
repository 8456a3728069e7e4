use Rattle.cover.proofs.LeastRules.{least_exists}
use Rattle.cover.proofs.theorems.least_set_exists.Goals as goal

pub returns : goal.returns
returns c = least_exists
