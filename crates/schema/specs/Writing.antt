-- A design as numbers: for each part its set, how many rules it owns, and two sets a rule.
use Rattle.std.specs.Prelude.{◌≡◌, ℕ, Bool, ◌&&◌, List, [], ◌∷◌, ◌++◌, length}
use Rattle.bounded.specs.Items.{items}
use Rattle.columns.specs.Cols.{all_in}
use Rattle.columns.specs.Sets.{cols}
use Rattle.columns.specs.declared.set.ColumnSet.{ColumnSet}
use Rattle.dependencies.specs.declared.rules.Rule.{Rule}
use Rattle.dependencies.specs.Lent.{put_list}
use Rattle.schema.specs.Sides.{those, others}
use Rattle.schema.specs.declared.unplaced.Unplaced.{Unplaced}

-- the rules that are left
abbrev pub left_in : Unplaced → List Rule
left_in u = items u.rules

-- both sides of the rule lie in the set
abbrev pub inside : Rule → ColumnSet → Bool
inside r s = all_in (cols r.left) (cols s) && all_in (cols r.right) (cols s)

-- the rules that lie in the set
abbrev pub own : List Rule → ColumnSet → List Rule
own rs s = those (λ r. inside r s) rs

-- the rules that do not
abbrev pub over : List Rule → ColumnSet → List Rule
over rs s = others (λ r. inside r s) rs

-- two numbers a rule
abbrev pub flat : List Rule → List ℕ
flat [] = []
flat (r ∷ rs) = r.left.bits ∷ r.right.bits ∷ flat rs

-- a part that owns those of the rules that lie in its set
abbrev pub one_part : List Rule → ColumnSet → List ℕ
one_part rs s = s.bits ∷ length (own rs s) ∷ flat (own rs s)

-- the parts, each with those of the rules that lie in its set and in no set before it
abbrev pub encoded : List Rule → List ColumnSet → List ℕ
encoded rs [] = []
encoded rs (s ∷ ss) = one_part rs s ++ encoded (over rs s) ss

-- a part is written to the front of the row, and the rules that it does not own are left
pub record PartPut (s : ColumnSet) (rest : List Rule) (row : List ℕ) (size : ℕ) (rest₁ : List Rule) (row₁ : List ℕ) : Type 0 where
  pub long : size ≡ length (one_part rest s)
  pub left : rest₁ ≡ over rest s
  pub put : row₁ ≡ put_list row 0 (one_part rest s)
