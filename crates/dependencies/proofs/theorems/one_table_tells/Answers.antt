use Rattle.dependencies.proofs.OneTable.{one_table_tells_lem}
use Rattle.dependencies.proofs.theorems.one_table_tells.Goals as goal

pub returns : goal.returns
returns c = one_table_tells_lem
