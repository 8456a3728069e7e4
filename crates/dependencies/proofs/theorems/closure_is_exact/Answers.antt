use Rattle.dependencies.proofs.Exact.{closure_exact}
use Rattle.dependencies.proofs.theorems.closure_is_exact.Goals as goal

pub returns : goal.returns
returns c = closure_exact
