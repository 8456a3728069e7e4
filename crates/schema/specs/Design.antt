-- A design: the parts into which a table is laid, each with its own rules. Assumes nothing: these are definitions.
use Rattle.std.specs.Prelude.{◌≡◌, ℕ, ◌<◌, true, false, ◌⊎◌, List, [], ◌∷◌, ◌++◌, length, slice_index_or}
use Rattle.dependencies.specs.Tables.{Row, Dep, agree, ObeysAll, Implied, no_dep}
use Rattle.columns.specs.Cols.{Cols, has, all_in, columns}
use Rattle.keys.specs.Keys.{Key}

pub record Part : Type 0 where
  pub cols : Cols
  pub rules : List Dep

abbrev pub no_part : Part
no_part = record { cols = []; rules = [] }

-- the rules of all parts together
unfoldable pub all_rules : List Part → List Dep
all_rules [] = []
all_rules (p ∷ ps) = p.rules ++ all_rules ps

-- a row that in each part looks like some row of the table is, in all its columns, a row of the table
unfoldable pub LosesNothing : ℕ → List Dep → List Part → Type 0
LosesNothing n ds ps =
    (t : List Row) (r : Row) → ObeysAll t ds →
    ((i : ℕ) → i < length ps → (j : ℕ) × (j < length t) × (agree (slice_index_or ps i no_part).cols r (slice_index_or t j []) ≡ true)) →
    0 < length ps → (j : ℕ) × (j < length t) × (agree (columns 0 n) r (slice_index_or t j []) ≡ true)

-- a table that obeys every part's own rules obeys all rules, and the parts ask no more
pub record KeepsRules (ds : List Dep) (ps : List Part) : Type 0 where
  pub enough : (t : List Row) → ObeysAll t (all_rules ps) → ObeysAll t ds
  pub no_more : (t : List Row) → ObeysAll t ds → ObeysAll t (all_rules ps)
  pub own : (i j : ℕ) → i < length ps → j < length (slice_index_or ps i no_part).rules
      → (all_in (slice_index_or (slice_index_or ps i no_part).rules j no_dep).left (slice_index_or ps i no_part).cols ≡ true) × (all_in (slice_index_or (slice_index_or ps i no_part).rules j no_dep).right (slice_index_or ps i no_part).cols ≡ true)

-- nothing in a part is fixed by less than a key of it, unless it is itself in a key
unfoldable pub IsThirdForm : List Dep → Cols → Type 0
IsThirdForm ds p =
    (x : Cols) (a : ℕ) → all_in x p ≡ true → has p a ≡ true → has x a ≡ false → Implied ds (record { left = x; right = a ∷ [] }) →
    Implied ds (record { left = x; right = p }) ⊎ ((k : Cols) × Key ds p k × (has k a ≡ true))

pub record Design (n : ℕ) (ds : List Dep) (ps : List Part) : Type 0 where
  pub some : 0 < length ps
  pub within : (i : ℕ) → i < length ps → all_in (slice_index_or ps i no_part).cols (columns 0 n) ≡ true
  pub covers : (c : ℕ) → c < n → (i : ℕ) × (i < length ps) × (has (slice_index_or ps i no_part).cols c ≡ true)
  pub loses_nothing : LosesNothing n ds ps
  pub keeps_rules : KeepsRules ds ps
  pub third_form : (i : ℕ) → i < length ps → IsThirdForm ds (slice_index_or ps i no_part).cols
  pub none_inside : (i j : ℕ) → i < length ps → j < length ps → all_in (slice_index_or ps i no_part).cols (slice_index_or ps j no_part).cols ≡ true → i ≡ j
