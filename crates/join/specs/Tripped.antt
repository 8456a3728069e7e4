-- A table laid into a register and joined from it in one go.
use Rattle.std.specs.Prelude.{◌≡◌, ℕ, true, List, Some, None}
use Rattle.dependencies.specs.Tables.{Row, Dep, ObeysAll}
use Rattle.dependencies.specs.Told.{done, told}
use Rattle.schema.specs.Design.{Design}
use Rattle.schema.specs.Layout.{design_in}
use Rattle.parts.specs.Answers.{opened_told, NowHolds}
use Rattle.parts.specs.Day.{bare}
use Rattle.register.specs.Deeds.{never_full}
use Rattle.parts.specs.Store.{held_of}
use Rattle.join.specs.Joined.{Joined}
use Rattle.join.specs.Laid.{rows_in, rows_told, rows_held, lay_told, AsBefore}
use Rattle.join.specs.Theorems.{NoRowTwice, WholeTable, SameTable}
use Rattle.join.specs.declared.failure.TripFailure.{TripFailure}
use Rattle.join.specs.declared.failure.TripFailure.TheVariants.{Laid, NoMemory}

-- the table is laid, and these rows are what is joined of it: from a bare register of a design for whatever rules exactly the table's rows
pub record Trip (n : ℕ) (d g g₁ xs : List ℕ) (rows : List Row) : Type 0 where
  pub taken : lay_told n d g xs ≡ None
  pub laid : NowHolds n d g g₁ (rows_held n d g (rows_in n xs))
  pub joined : Joined (design_in n d) (rows_held n d g (rows_in n xs)) rows
  pub same : (ds : List Dep) → Design n ds (design_in n d) → held_of n d g ≡ bare (design_in n d) → SameTable n (rows_in n xs) rows

-- a row was refused, and all is as before; or the table is laid and there is no memory for the joined rows
abbrev pub TripFails : ℕ → (d g g₁ xs : List ℕ) → TripFailure → Type 0
TripFails n d g g₁ xs (Laid e) = (lay_told n d g xs ≡ Some (e.row, told e.refusal)) × AsBefore n d g g₁
TripFails n d g g₁ xs NoMemory = (lay_told n d g xs ≡ None) × NowHolds n d g g₁ (rows_held n d g (rows_in n xs))

-- a table that obeys the rules of the design, lists no row twice and has only whole rows is laid into an opened bare register with room enough
abbrev pub TakenWhole : ℕ → (d g xs : List ℕ) → Type 0
TakenWhole n d g xs =
    (ds : List Dep) → Design n ds (design_in n d) → opened_told n d ≡ done → held_of n d g ≡ bare (design_in n d) → ObeysAll (rows_in n xs) ds
    → NoRowTwice n (rows_in n xs) → WholeTable n (rows_in n xs) → never_full (rows_told n d g (rows_in n xs)) ≡ true → lay_told n d g xs ≡ None
