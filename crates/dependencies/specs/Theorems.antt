-- What is shown of rules and of what follows from them. Each is a statement, a type whose proof is owed.
use Rattle.std.specs.Prelude.{◌≡◌, ℕ, true, false, List, [], ◌∷◌}
use Rattle.dependencies.specs.Tables.{Row, Dep, Obeys, ObeysAll, Implied, Proper}
use Rattle.columns.specs.Cols.{all_in, columns}
use Rattle.dependencies.specs.Closure.{closure}

-- A rule follows exactly if its right columns are in the closure of its left ones: in every table, or there is a table of two rows against it.
unfoldable pub ClosureExact : Type 0
ClosureExact =
    (ds : List Dep) (d : Dep) →
    (all_in d.right (closure ds d.left) ≡ true → Implied ds d)
    × (all_in d.right (closure ds d.left) ≡ false → (r s : Row) × ObeysAll (r ∷ s ∷ []) ds × (Obeys (r ∷ s ∷ []) d → ⊥))

-- Which rules follow is known from the two-row tables.
unfoldable pub TwoRowsSuffice : Type 0
TwoRowsSuffice = (ds : List Dep) (d : Dep) → ((r s : Row) → ObeysAll (r ∷ s ∷ []) ds → Obeys (r ∷ s ∷ []) d) → Implied ds d

-- For any rules there is one table that tells them all: it obeys a rule exactly if the rule follows.
unfoldable pub OneTableTells : Type 0
OneTableTells =
    (n : ℕ) (ds : List Dep) → Proper n ds →
    (t : List Row) × ObeysAll t ds × ((d : Dep) → all_in d.left (columns 0 n) ≡ true → all_in d.right (columns 0 n) ≡ true → Obeys t d → Implied ds d)
