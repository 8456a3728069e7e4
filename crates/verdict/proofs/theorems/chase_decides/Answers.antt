use Rattle.verdict.proofs.ChaseComplete.{chase_decides_lem}
use Rattle.verdict.proofs.theorems.chase_decides.Goals as goal

pub returns : goal.returns
returns c = chase_decides_lem
