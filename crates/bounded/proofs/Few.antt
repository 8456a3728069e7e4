-- A bounded list has no more items than its bound.
use Rattle.std.proofs.Common.{ℕ, ◌≤◌, length, arith, length-take}
use Rattle.bounded.specs.Items.{items}
use Rattle.bounded.specs.declared.list_type.Bounded.{Bounded}

pub few_items : {A : Type 0} {N : ℕ} (b : Bounded A N) → length (items b) ≤ N
few_items b = omega (arith, length-take b.count b.cells, b.within)
