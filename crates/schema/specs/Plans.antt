-- The parts of a plan, and what a plan for rules is.
use Rattle.std.specs.Prelude.{ℕ, ◌+◌, ◌^◌, ◌<◌, ◌≤◌, List, length}
use Rattle.columns.specs.Members.{In}
use Rattle.columns.specs.declared.set.ColumnSet.{ColumnSet}
use Rattle.dependencies.specs.Rules.{deps}
use Rattle.dependencies.specs.Reads.{rules_of}
use Rattle.dependencies.specs.declared.rules.Rule.{Rule}
use Rattle.dependencies.specs.declared.held.RuleSet.{RuleSet}
use Rattle.cover.specs.Held.{cover_rules, most_rules}
use Rattle.schema.specs.Design.{Part, Design}
use Rattle.schema.specs.Made.{parts_of}
use Rattle.schema.specs.Sets.{sets_of, sets_in}
use Rattle.schema.specs.declared.plan.Plan.{Plan}

-- the rules that the parts own
abbrev pub plan_rules : Plan → List Rule
plan_rules p = cover_rules p.cover

-- the sets of the parts
abbrev pub plan_sets : Plan → List ColumnSet
plan_sets p = sets_in p.sets

-- the parts: each set with the rules that lie in it and in no set before it
abbrev pub plan_parts : Plan → List Part
plan_parts p = parts_of (deps (plan_rules p)) (sets_of (plan_sets p))

-- the numbers of the rules' sets name columns below n only
abbrev pub SmallRules : ℕ → List Rule → Type 0
SmallRules n rs = (r : Rule) → In r rs → (r.left.bits < 2 ^ n) × (r.right.bits < 2 ^ n)

abbrev pub SmallSets : ℕ → List ColumnSet → Type 0
SmallSets n ss = (s : ColumnSet) → In s ss → s.bits < 2 ^ n

-- the parts are a design for the rules, of no more parts than columns times rules and one, and name columns of the table only
pub record Planned (t : RuleSet) (p : Plan) : Type 0 where
  pub design : Design t.width.columns (deps (rules_of t)) (plan_parts p)
  pub few : length (plan_sets p) ≤ most_rules t + 1
  pub small_rules : SmallRules t.width.columns (plan_rules p)
  pub small_sets : SmallSets t.width.columns (plan_sets p)
