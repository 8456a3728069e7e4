-- What a bounded list holds: the first cells, as many as it counts.
use Rattle.std.specs.Prelude.{ℕ, List, take}
use Rattle.bounded.specs.declared.list_type.Bounded.{Bounded}

abbrev pub items : {T : Type 0} {N : ℕ} → Bounded T N → List T
items b = take b.count b.cells
