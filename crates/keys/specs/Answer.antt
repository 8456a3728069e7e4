-- What the request for all keys answers and leaves behind, over the numbers that it is lent.
use Rattle.std.specs.Prelude.{◌≡◌, ℕ, ◌<◌, ◌≤◌, ◌⊎◌, List, [], ◌∷◌, ◌++◌, length, take, drop, Some, None, Ok, Err, Option, Result}
use Rattle.columns.specs.Cols.{Cols, set_in}
use Rattle.dependencies.specs.Tables.{Dep}
use Rattle.dependencies.specs.Layout.{columns_of, rules_of_row, reading_with}
use Rattle.dependencies.specs.Told.{done, refused, told}
use Rattle.dependencies.specs.declared.refusals.Refusal.{Refusal}
use Rattle.keys.specs.Keys.{AllKeys}
use Rattle.keys.specs.Listed.{sets}

-- the row begins with all keys of p, k of them, as numbers, and past them is as it was
abbrev pub AllThere : (ds : List Dep) (p : Cols) (row : List ℕ) (k : ℕ) (after : List ℕ) → Type 0
AllThere ds p row k after =
    (ys : List ℕ) × AllKeys ds p (sets ys) × (k ≡ length ys) × (length ys ≤ length row) × (after ≡ ys ++ drop (length ys) row)

-- the row is full of the first keys of p, and there are more
abbrev pub SomeThere : (ds : List Dep) (p : Cols) (row after : List ℕ) → Type 0
SomeThere ds p row after = (ys : List ℕ) × AllKeys ds p (sets ys) × (length row < length ys) × (after ≡ take (length row) ys)

-- how many keys there are, where there was room for all
abbrev pub Filled : (ds : List Dep) (p : Cols) (row : List ℕ) → Option ℕ → (after : List ℕ) → Type 0
Filled ds p row (Some k) after = AllThere ds p row k after
Filled ds p row None after = SomeThere ds p row after

-- the same with the refusal: no room for the next key, told by the count of those before it
abbrev pub KeysWritten : (ds : List Dep) (p : Cols) (row : List ℕ) → Result ℕ Refusal → (after : List ℕ) → Type 0
KeysWritten ds p row (Ok k) after = AllThere ds p row k after
KeysWritten ds p row (Err e) after = (told e ≡ refused 5 (length row)) × SomeThere ds p row after

-- the same of lent rules and a set behind them: where they cannot be read, the first refusal that applies is told, and the
-- row is as it was
abbrev pub KeysTold : (rules : List ℕ) (set : ℕ) (row : List ℕ) → Result ℕ Refusal → (after : List ℕ) → Type 0
KeysTold rules set row (Ok k) after =
    (reading_with rules (set ∷ []) ≡ done) × KeysWritten (rules_of_row rules) (set_in 0 (columns_of rules) set) row (Ok k) after
KeysTold rules set row (Err e) after =
    ((reading_with rules (set ∷ []) ≡ done) × KeysWritten (rules_of_row rules) (set_in 0 (columns_of rules) set) row (Err e) after)
    ⊎ ((reading_with rules (set ∷ []) ≡ told e) × (after ≡ row))
