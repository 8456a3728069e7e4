-- Rules as text.
use Rattle.std.specs.Prelude.{ℕ, List, ◌∷◌, ◌++◌}
use Rattle.columns.specs.Shown.{listed}
use Rattle.dependencies.specs.Tables.{Dep}

-- the left columns, the sign > and the right columns
abbrev pub rule_text : Dep → List ℕ
rule_text d = listed d.left ++ (62 ∷ listed d.right)
