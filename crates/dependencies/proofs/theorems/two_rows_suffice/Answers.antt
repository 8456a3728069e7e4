use Rattle.dependencies.proofs.Pairs.{two_rows_lem}
use Rattle.dependencies.proofs.theorems.two_rows_suffice.Goals as goal

pub returns : goal.returns
returns c = two_rows_lem
