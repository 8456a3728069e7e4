use Rattle.columns.specs.Sets.{cols}
use Rattle.columns.proofs.Compared.{before_self}
use Rattle.columns.proofs.InOrder.{before_trans}
use Rattle.columns.proofs.SetNumbers.{one_before}
use Rattle.columns.proofs.order.order_is_total.Goals as goal

pub returns : goal.returns
returns c = (one_before, λ s. before_self (cols s), λ s t u. before_trans (cols s) (cols t) (cols u))
