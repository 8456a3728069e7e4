-- What an answer to the question says whether a rule follows.
use Rattle.std.specs.Prelude.{◌≡◌, ℕ, List, [], ◌∷◌, Ok, Err, Result}
use Rattle.columns.specs.Cols.{Cols, set_in}
use Rattle.columns.specs.Sets.{cols}
use Rattle.dependencies.specs.Tables.{Dep, Implied, Obeys, ObeysAll, Proper, pair_on}
use Rattle.dependencies.specs.Closure.{Closes}
use Rattle.dependencies.specs.Layout.{columns_of, rules_of_row, reading_with}
use Rattle.dependencies.specs.Told.{done, told}
use Rattle.dependencies.specs.declared.implied.Implication.{Implication}
use Rattle.dependencies.specs.declared.implied.Implication.TheVariants.{Follows, Against}
use Rattle.dependencies.specs.declared.refusals.Refusal.{Refusal}

-- a rule does not follow: s is what its left side fixes, and in a table of n columns, where all rules name only these,
-- the two rows that agree on s alone obey the rules and break this one
pub record Refuted (ds : List Dep) (d : Dep) (s : Cols) : Type 0 where
  pub against : Implied ds d → ⊥
  pub fixed : Closes ds d.left s
  pub rows : (n : ℕ) → Proper n ds → Proper n (d ∷ []) → ObeysAll (pair_on n s) ds × (Obeys (pair_on n s) d → ⊥)

-- the rule holds in every table that obeys the rules; or it does not, and here is where two rows against it agree
abbrev pub Says : List Dep → Dep → Implication → Type 0
Says ds d Follows = Implied ds d
Says ds d (Against s) = Refuted ds d (cols s)

-- the rule from the left set to the right one, asked of lent rules: the answer, or the first refusal that applies
abbrev pub Asked : List ℕ → ℕ → ℕ → Result Implication Refusal → Type 0
Asked xs left right (Ok a) =
    (reading_with xs (left ∷ right ∷ []) ≡ done)
    × Says (rules_of_row xs) (record { left = set_in 0 (columns_of xs) left; right = set_in 0 (columns_of xs) right }) a
Asked xs left right (Err e) = reading_with xs (left ∷ right ∷ []) ≡ told e
