-- What the code's rules mean.
use Rattle.std.specs.Prelude.{List, [], ◌∷◌}
use Rattle.columns.specs.Sets.{cols}
use Rattle.dependencies.specs.Tables.{Dep}
use Rattle.dependencies.specs.declared.rules.Rule.{Rule}

abbrev pub dep : Rule → Dep
dep r = record { left = cols r.left; right = cols r.right }

unfoldable pub deps : List Rule → List Dep
deps [] = []
deps (r ∷ rs) = dep r ∷ deps rs
