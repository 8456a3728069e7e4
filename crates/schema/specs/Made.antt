-- Parts made from rules and sets of columns. Assumes nothing: these are definitions.
use Rattle.std.specs.Prelude.{Bool, ◌&&◌, List, [], ◌∷◌}
use Rattle.columns.specs.Cols.{Cols, all_in}
use Rattle.dependencies.specs.Tables.{Dep}
use Rattle.schema.specs.Design.{Part}
use Rattle.schema.specs.Sides.{those, others}

abbrev pub lies : Dep → Cols → Bool
lies d x = all_in d.left x && all_in d.right x

-- the rules that lie in the set
abbrev pub lying : List Dep → Cols → List Dep
lying ms x = those (λ m. lies m x) ms

-- the rules that do not
abbrev pub left_over : List Dep → Cols → List Dep
left_over ms x = others (λ m. lies m x) ms

-- each set with the rules that lie in it, and in no set before it
abbrev pub parts_of : List Dep → List Cols → List Part
parts_of ms [] = []
parts_of ms (x ∷ xs) = record { cols = x; rules = lying ms x } ∷ parts_of (left_over ms x) xs
