-- What reading rules gives.
use Rattle.std.specs.Prelude.{◌≡◌, ℕ, ◌+◌, ◌*◌, ◌^◌, ◌<◌, ◌≤◌, List, length, Ok, Err, Result}
use Rattle.bounded.specs.Items.{items}
use Rattle.columns.specs.Cols.{set_in}
use Rattle.columns.specs.Sets.{cols}
use Rattle.columns.specs.declared.set.ColumnSet.{ColumnSet}
use Rattle.dependencies.specs.Rules.{deps}
use Rattle.dependencies.specs.Layout.{columns_of, count_of, rules_in, rules_of_row, sets_told, reading}
use Rattle.dependencies.specs.Told.{done, refused, told}
use Rattle.dependencies.specs.declared.rules.Rule.{Rule}
use Rattle.dependencies.specs.declared.held.RuleSet.{RuleSet}
use Rattle.dependencies.specs.declared.refusals.Refusal.{Refusal}

-- the rules that it holds
abbrev pub rules_of : RuleSet → List Rule
rules_of t = items t.rules

-- the rules, or the first refusal that applies
abbrev pub Reads : List ℕ → Result RuleSet Refusal → Type 0
Reads xs (Ok t) = (reading xs ≡ done) × (t.width.columns ≡ columns_of xs) × (length (rules_of t) ≡ count_of xs) × (deps (rules_of t) ≡ rules_of_row xs)
Reads xs (Err e) = reading xs ≡ told e

-- the same of the sets alone, once it is known how many there are
abbrev pub ReadsSets : ℕ → ℕ → List ℕ → Result RuleSet Refusal → Type 0
ReadsSets n k xs (Ok t) = (sets_told n 0 (2 * k) xs ≡ done) × (t.width.columns ≡ n) × (length (rules_of t) ≡ k) × (deps (rules_of t) ≡ rules_in n k xs)
ReadsSets n k xs (Err e) = sets_told n 0 (2 * k) xs ≡ told e

-- a number as a set: it fits a table of n columns, or is told by its place
abbrev pub Placed : ℕ → ℕ → ℕ → Result ColumnSet Refusal → Type 0
Placed n place bits (Ok s) = (bits < 2 ^ n) × (cols s ≡ set_in 0 n bits)
Placed n place bits (Err e) = (2 ^ n ≤ bits) × (told e ≡ refused 3 place)

-- a set that a request names beside the rules, counted behind their sets
abbrev pub Further : RuleSet → ℕ → ℕ → Result ColumnSet Refusal → Type 0
Further t i bits r = Placed t.width.columns (2 * length (rules_of t) + i) bits r
