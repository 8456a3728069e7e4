-- Lists of just the sets that are asked for, in order, and the keys of a branch as one.
use Rattle.std.specs.Prelude.{ℕ, List, [], ◌∷◌, Option}
use Rattle.columns.specs.Cols.{Cols, set_in}
use Rattle.columns.specs.Members.{In}
use Rattle.columns.specs.Order.{IsInOrder}
use Rattle.dependencies.specs.Tables.{Dep}
use Rattle.keys.specs.Room.{Emitted}
use Rattle.keys.specs.Walks.{KeyIn}
use Rattle.keys.specs.declared.branch.Branch.{Branch}

-- ks has just the sets of which P holds, each once, in order
pub record Exactly (P : Cols → Type 0) (ks : List Cols) : Type 0 where
  pub order : IsInOrder ks
  pub only : (k : Cols) → In k ks → P k
  pub all : (k : Cols) → P k → In k ks

-- the sets that numbers stand for
abbrev pub sets : List ℕ → List Cols
sets [] = []
sets (y ∷ ys) = set_in 0 64 y ∷ sets ys

-- the keys of a branch are written at the front of a row, as far as there is room
pub record Walked (ds : List Dep) (b : Branch) (row : List ℕ) (r : Option ℕ) (after : List ℕ) : Type 0 where
  pub list : List ℕ
  pub found : Exactly (KeyIn ds b) (sets list)
  pub put : Emitted row list r after
