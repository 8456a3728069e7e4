-- The columns that a set fixes under rules, by computing, and what they are over tables.
use Rattle.std.specs.Prelude.{◌≡◌, ℕ, zero, suc, Bool, true, List, [], ◌∷◌, ◌++◌, length}
use Rattle.columns.specs.Cols.{Cols, pick, has, all_in, Same}
use Rattle.columns.specs.Every.{every}
use Rattle.dependencies.specs.Tables.{Dep, Implied, fixing}

-- columns with all that one round of the rules adds
unfoldable pub round : List Dep → Cols → Cols
round [] cs = cs
round (d ∷ ds) cs = round ds (pick (all_in d.left cs) (cs ++ d.right) cs)

unfoldable pub rounds : ℕ → List Dep → Cols → Cols
rounds zero ds cs = cs
rounds (suc k) ds cs = rounds k ds (round ds cs)

-- the closure of a set: as many rounds as there are rules
unfoldable pub closure : List Dep → Cols → Cols
closure ds cs = rounds (length ds) ds cs

-- y is the closure of x: as computed, and over tables, just the columns that x fixes in every table that obeys the rules
pub record Closes (ds : List Dep) (x y : Cols) : Type 0 where
  pub computed : Same y (closure ds x)
  pub fixed : (c : ℕ) → has y c ≡ true → Implied ds (fixing x c)
  pub all : (c : ℕ) → Implied ds (fixing x c) → has y c ≡ true

-- the columns x fix the columns p, as a test
abbrev pub does_fix : List Dep → Cols → Cols → Bool
does_fix ds x p = all_in p (closure ds x)

-- all rules of ms follow from ds, as a test
abbrev pub do_follow : List Dep → List Dep → Bool
do_follow ds ms = every ms (λ m. does_fix ds m.left m.right)
