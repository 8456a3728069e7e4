-- What is shown of sets of columns. Each is a statement, a type whose proof is owed.
use Rattle.std.specs.Prelude.{◌≡◌, true, false, ◌⊎◌}
use Rattle.columns.specs.Cols.{Same, Rising, set_in}
use Rattle.columns.specs.Order.{before}
use Rattle.columns.specs.Sets.{cols}
use Rattle.columns.specs.declared.set.ColumnSet.{ColumnSet}

-- the order of sets is total, and strict: no set stands before itself, and what stands before a set stands before all behind it
abbrev pub OrderTotal : Type 0
OrderTotal =
    ((s t : ColumnSet) → (before (cols s) (cols t) ≡ true) ⊎ ((s.bits ≡ t.bits) ⊎ (before (cols t) (cols s) ≡ true)))
    × ((s : ColumnSet) → before (cols s) (cols s) ≡ false)
    × ((s t u : ColumnSet) → before (cols s) (cols t) ≡ true → before (cols t) (cols u) ≡ true → before (cols s) (cols u) ≡ true)

-- a set is its number: the same columns make the same number; the list of a set's columns rises, and is that of its number
abbrev pub SetsAreNumbers : Type 0
SetsAreNumbers =
    ((s t : ColumnSet) → Same (cols s) (cols t) → s.bits ≡ t.bits)
    × ((s : ColumnSet) → Rising (cols s))
    × ((s : ColumnSet) → cols s ≡ set_in 0 16 s.bits)
