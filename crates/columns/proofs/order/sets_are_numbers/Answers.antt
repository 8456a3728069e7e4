use Rattle.columns.proofs.SetNumbers.{same_bits, cols_rising, cols_bits}
use Rattle.columns.proofs.order.sets_are_numbers.Goals as goal

pub returns : goal.returns
returns c = (same_bits, cols_rising, cols_bits)
