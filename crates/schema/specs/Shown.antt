-- Designs as text: a line a part, its columns and behind them its own rules.
use Rattle.std.specs.Prelude.{ℕ, List, [], ◌∷◌, ◌++◌, codes}
use Rattle.columns.specs.Shown.{led, listed}
use Rattle.columns.specs.declared.set.ColumnSet.{ColumnSet}
use Rattle.columns.specs.Sets.{cols}
use Rattle.dependencies.specs.Rules.{deps}
use Rattle.dependencies.specs.Shown.{rule_text}
use Rattle.dependencies.specs.declared.rules.Rule.{Rule}
use Rattle.schema.specs.Design.{Part}
use Rattle.schema.specs.Writing.{own}
use Rattle.schema.specs.declared.part_text.Lead.{Lead}
use Rattle.schema.specs.declared.part_text.Lead.TheVariants.{By, Space}

-- what stands before a rule: the first is led in by the word "by"
abbrev pub lead_text : Lead → List ℕ
lead_text By = codes " by "
lead_text Space = codes " "

-- a part as one line, without its end
abbrev pub text_of_part : Part → List ℕ
text_of_part p = listed p.cols ++ led rule_text (codes " by ") (codes " ") p.rules

-- the part of a set, which owns those of the rules that lie in it
abbrev pub part_of : List Rule → ColumnSet → Part
part_of rs s = record { cols = cols s; rules = deps (own rs s) }

-- a line for each part
abbrev pub design_text : List Part → List ℕ
design_text [] = []
design_text (p ∷ ps) = text_of_part p ++ (10 ∷ design_text ps)
