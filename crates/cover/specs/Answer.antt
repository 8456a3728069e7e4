-- What a request for a least set of lent rules gives, and what the lent row holds afterwards.
use Rattle.std.specs.Prelude.{◌≡◌, ℕ, ◌+◌, ◌*◌, ◌^◌, ◌<◌, ◌≤◌, List, [], ◌∷◌, length, drop, Ok, Err, Result, slice_index, slice_index_or}
use Rattle.dependencies.specs.Layout.{columns_of, count_of, rules_in, rules_of_row}
use Rattle.dependencies.specs.Lent.{answering}
use Rattle.dependencies.specs.Tables.{Dep}
use Rattle.dependencies.specs.Told.{done, told}
use Rattle.dependencies.specs.declared.refusals.Refusal.{Refusal}
use Rattle.dependencies.specs.declared.rules.Rule.{Rule}
use Rattle.cover.specs.Least.{Least}
use Rattle.cover.specs.Ordered.{Narrowed, singles}

-- rules as numbers, two sets a rule, the left one first
abbrev pub coded : List Rule → List ℕ
coded [] = []
coded (r ∷ rs) = r.left.bits ∷ r.right.bits ∷ coded rs

-- The row has k in front, and behind it k rules of a table of n columns: a least set of ds, in their order. All else is as it was.
pub record LeastRow (n : ℕ) (ds : List Dep) (row : List ℕ) (k : ℕ) (after : List ℕ) : Type 0 where
  pub count : slice_index_or after 0 0 ≡ k
  pub least : Least ds (rules_in n k (drop 1 after))
  pub ordered : Narrowed (singles ds) (rules_in n k (drop 1 after))
  pub named : (i : ℕ) → i < 2 * k → slice_index after (1 + i) < 2 ^ n
  pub behind : drop (1 + 2 * k) after ≡ drop (1 + 2 * k) row
  pub long : length after ≡ length row

-- An answer is written into the row, and there are at most as many rules as columns times given rules. Of the refusals the first that applies
-- is told, and the row is then as it was.
abbrev pub CoverTold : (rules row : List ℕ) → Result ℕ Refusal → (after : List ℕ) → Type 0
CoverTold rules row (Ok k) after =
    (answering rules row ≡ done) × LeastRow (columns_of rules) (rules_of_row rules) row k after × (k ≤ columns_of rules * count_of rules)
CoverTold rules row (Err e) after = (answering rules row ≡ told e) × (after ≡ row)
