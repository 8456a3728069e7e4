-- Tests of a part's own rules and of which parts lie inside others, one part and one rule at a time.
use Rattle.std.specs.Prelude.{Bool, not, ◌&&◌, List}
use Rattle.columns.specs.Cols.{Cols, all_in}
use Rattle.dependencies.specs.Closure.{does_fix}
use Rattle.dependencies.specs.Tables.{Dep}
use Rattle.schema.specs.Design.{Part}

-- an own rule lies in the part and follows from the given rules
abbrev pub does_stand : List Dep → Cols → Dep → Bool
does_stand ds p d = (all_in d.left p && all_in d.right p) && does_fix ds d.left d.right

-- neither of two parts lies inside the other
abbrev pub is_apart : Cols → Part → Bool
is_apart p q = not (all_in p q.cols) && not (all_in q.cols p)
