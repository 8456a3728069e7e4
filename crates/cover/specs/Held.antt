-- The rules that a cover holds, and how many there can be.
use Rattle.std.specs.Prelude.{ℕ, ◌*◌, List, length}
use Rattle.bounded.specs.Items.{items}
use Rattle.dependencies.specs.Reads.{rules_of}
use Rattle.dependencies.specs.declared.held.RuleSet.{RuleSet}
use Rattle.dependencies.specs.declared.rules.Rule.{Rule}
use Rattle.cover.specs.declared.held.Cover.{Cover}

abbrev pub cover_rules : Cover → List Rule
cover_rules t = items t.rules

-- a rule for each right column of each rule: each rule has as many as the table has columns, or fewer
abbrev pub most_rules : RuleSet → ℕ
most_rules t = t.width.columns * length (rules_of t)
