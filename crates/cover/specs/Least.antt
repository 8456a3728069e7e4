-- Least sets of rules.
use Rattle.std.specs.Prelude.{◌≡◌, ℕ, ◌<◌, Bool, not, ◌&&◌, List, [], ◌∷◌, ◌++◌, length, slice_index_or, nat_eq}
use Rattle.columns.specs.Cols.{Cols}
use Rattle.dependencies.specs.Tables.{Dep, Implied, no_dep}
use Rattle.columns.specs.Every.{every, every_split}
use Rattle.dependencies.specs.Closure.{does_fix, do_follow}

-- A least set of rules: it says the same, each of its rules has one right column, and nothing can be left out of it, no rule and no left column.
pub record Least (ds ms : List Dep) : Type 0 where
  pub same : (d : Dep) → (Implied ds d → Implied ms d) × (Implied ms d → Implied ds d)
  pub single : (i : ℕ) → i < length ms → length (slice_index_or ms i no_dep).right ≡ 1
  pub no_rule : (i : ℕ) (xs ys : List Dep) → ms ≡ xs ++ slice_index_or ms i no_dep ∷ ys → i ≡ length xs → i < length ms → Implied (xs ++ ys) (slice_index_or ms i no_dep) → ⊥
  pub no_column : (i : ℕ) (xs ys : Cols) (c : ℕ) → i < length ms → (slice_index_or ms i no_dep).left ≡ xs ++ c ∷ ys
      → Implied ms (record { left = xs ++ ys; right = (slice_index_or ms i no_dep).right }) → ⊥

-- For any rules there is a least set that says the same.
unfoldable pub LeastExists : Type 0
LeastExists = (ds : List Dep) → (ms : List Dep) × Least ds ms

abbrev pub needs_each_rule : List Dep → Bool
needs_each_rule ms = every_split [] ms (λ us m vs. not (does_fix (us ++ vs) m.left m.right))

abbrev pub needs_each_column : List Dep → Bool
needs_each_column ms = every ms (λ m. every_split [] m.left (λ us c vs. not (does_fix ms (us ++ vs) m.right)))

abbrev pub is_least : List Dep → List Dep → Bool
is_least ds ms = (do_follow ds ms && do_follow ms ds) && (every ms (λ m. nat_eq (length m.right) 1) && (needs_each_rule ms && needs_each_column ms))
