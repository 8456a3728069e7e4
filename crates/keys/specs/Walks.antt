-- The sets that a walk has before it, and the keys among them.
use Rattle.std.specs.Prelude.{◌≡◌, ℕ, false, ◌||◌, ◌⊎◌, List, ◌∷◌, Some, None, Option, ◌==◌}
use Rattle.columns.specs.Cols.{Cols, has, Rising}
use Rattle.columns.specs.Members.{In, Sub}
use Rattle.columns.specs.Order.{before}
use Rattle.columns.specs.Sets.{cols}
use Rattle.columns.specs.declared.set.ColumnSet.{ColumnSet}
use Rattle.dependencies.specs.Tables.{Dep}
use Rattle.dependencies.specs.Closure.{does_fix}
use Rattle.keys.specs.Keys.{Key}
use Rattle.keys.specs.declared.branch.Branch.{Branch}
use Rattle.keys.specs.declared.pruning.Pruned.{Pruned}
use Rattle.keys.specs.declared.pruning.Pruned.TheVariants.{Leaf, Dead, Fork}

-- t is s with the column c
abbrev pub With : Cols → ℕ → Cols → Type 0
With s c t = (d : ℕ) → has t d ≡ (has s d || c == d)

-- k is a key of p that has all columns of s, and besides only some of l
pub record Found (ds : List Dep) (p s l k : Cols) : Type 0 where
  pub rises : Rising k
  pub key : Key ds p k
  pub grown : Sub s k
  pub only : (c : ℕ) → In c k → In c s ⊎ In c l

-- a key among the sets of a branch
abbrev pub KeyIn : List Dep → Branch → Cols → Type 0
KeyIn ds b k = Found ds (cols b.target) (cols b.chosen) (cols b.free) k

-- a branch divided at its lowest free column: the sets that have it, and those that do not
pub record Divided (b x y : Branch) : Type 0 where
  pub column : ℕ
  pub lowest : cols b.free ≡ column ∷ cols x.free
  pub chosen : With (cols b.chosen) column (cols x.chosen)
  pub aimed : x.target ≡ b.target
  pub stays : y.chosen ≡ b.chosen
  pub rest : y.free ≡ x.free
  pub aims : y.target ≡ b.target

-- what is told of a branch: its one key, that it has none, or its halves
abbrev pub Prunes : List Dep → Branch → Pruned → Type 0
Prunes ds b Leaf = KeyIn ds b (cols b.chosen) × ((k : Cols) → KeyIn ds b k → cols b.chosen ≡ k)
Prunes ds b Dead = (k : Cols) → KeyIn ds b k → ⊥
Prunes ds b (Fork h) = Divided b h.with h.without × (does_fix ds (cols b.chosen) (cols b.target) ≡ false)

-- the first key of a branch, or that it has none
abbrev pub First : List Dep → Branch → Option ColumnSet → Type 0
First ds b (Some s) = KeyIn ds b (cols s) × ((k : Cols) → KeyIn ds b k → before k (cols s) ≡ false)
First ds b None = (k : Cols) → KeyIn ds b k → ⊥

-- the first key of p in the order of sets
pub record FirstKey (ds : List Dep) (p k : Cols) : Type 0 where
  pub key : Key ds p k
  pub first : (j : Cols) → Rising j → Key ds p j → before j k ≡ false
