use Rattle.verdict.proofs.OwnDesigns.{own_accepted}
use Rattle.verdict.proofs.theorems.own_designs_accepted.Goals as goal

pub returns : goal.returns
returns c = own_accepted
