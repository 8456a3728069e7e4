-- Sets for the parts of a design: the columns of all rules with one left side, and a key where none of them fixes all columns.
use Rattle.std.specs.Prelude.{◌≡◌, ℕ, Bool, true, false, ◌||◌, ◌⊎◌, List, [], ◌∷◌, ◌++◌, ◌≢◌}
use Rattle.columns.specs.Cols.{Cols, has, columns}
use Rattle.columns.specs.Every.{any}
use Rattle.columns.specs.Members.{In, Sub}
use Rattle.columns.specs.Sets.{cols}
use Rattle.columns.specs.declared.set.ColumnSet.{ColumnSet}
use Rattle.dependencies.specs.Tables.{Dep}
use Rattle.dependencies.specs.Closure.{does_fix}
use Rattle.keys.specs.Keys.{Key}
use Rattle.schema.specs.Sets.{with_set}

-- the columns of all rules with the left side l
pub record Gathered (ms : List Dep) (l s : Cols) : Type 0 where
  pub left_in : Sub l s
  pub right_in : (m : Dep) → In m ms → m.left ≡ l → Sub m.right s
  pub no_more : (c : ℕ) → In c s → In c l ⊎ ((m : Dep) × In m ms × (m.left ≡ l) × In c m.right)

-- the set with the right columns of the rule m, if its left side is l; else the set as it was
abbrev pub Joined : (m : Dep) (l all after : Cols) → Type 0
Joined m l all after =
    ((m.left ≡ l) × ((c : ℕ) → has after c ≡ (has all c || has m.right c))) ⊎ ((m.left ≢ l) × ((c : ℕ) → has after c ≡ has all c))

-- the columns of all rules with the left side of one of them
abbrev pub OfLeftSide : List Dep → Cols → Type 0
OfLeftSide ms x = (m : Dep) × In m ms × Gathered ms m.left x

-- x lies inside one of the sets
abbrev pub Held : List Cols → Cols → Type 0
Held ys x = (y : Cols) × In y ys × Sub x y

-- no set lies inside another
abbrev pub Apart : List Cols → Type 0
Apart [] = Unit {0}
Apart (x ∷ xs) = ((y : Cols) → In y xs → (Sub x y → ⊥) × (Sub y x → ⊥)) × Apart xs

-- sets of one kind that hold the rules es, none inside another
pub record Holding (Kind : Cols → Type 0) (es : List Dep) (xs : List Cols) : Type 0 where
  pub each : (x : Cols) → In x xs → Kind x
  pub held : (m : Dep) → In m es → Held xs (m.left ++ m.right)
  pub apart : Apart xs

-- some of the sets fixes all columns of a table of n
abbrev pub does_some_fix : ℕ → List Dep → List ColumnSet → Bool
does_some_fix n ds ss = any ss (λ s. does_fix ds (cols s) (columns 0 n))

-- the sets are as they were, since one of them fixes all columns; or a key came, since none does
abbrev pub Keyed : ℕ → List Dep → (before after : List ColumnSet) → Type 0
Keyed n ds ss ss₁ =
    ((does_some_fix n ds ss ≡ true) × (ss₁ ≡ ss))
    ⊎ ((does_some_fix n ds ss ≡ false) × ((k : ColumnSet) × Key ds (columns 0 n) (cols k) × (ss₁ ≡ with_set ss k)))
