-- What is told of a design that somebody else made.
use Rattle.std.specs.Prelude.{◌≡◌, ℕ, ◌<◌, ◌≤◌, true, ◌⊎◌, List, length, Ok, Err, Result}
use Rattle.dependencies.specs.Layout.{columns_of, rules_of_row, reading}
use Rattle.dependencies.specs.Tables.{Dep}
use Rattle.dependencies.specs.Told.{done, told, condition_number}
use Rattle.dependencies.specs.declared.refusals.Condition.{Condition as Which}
use Rattle.dependencies.specs.declared.refusals.Refusal.{Refusal}
use Rattle.dependencies.specs.declared.refusals.Refusal.TheVariants.{NotADesign}
use Rattle.verdict.specs.Decided.{Condition, FirstMissed}
use Rattle.schema.specs.Design.{Part, Design}
use Rattle.verdict.specs.Given.{is_readable}
use Rattle.schema.specs.Layout.{design_in}
use Rattle.verdict.specs.declared.check.CheckFailure.{CheckFailure}
use Rattle.verdict.specs.declared.check.CheckFailure.TheVariants.{Refused, ShortTableau}

-- of parts, with so many rows lent for the tableau: a design; or the first condition that they miss; or the rows are too few to say more
-- than that the first two conditions hold
abbrev pub Judged : (n : ℕ) (ds : List Dep) (ps : List Part) (rows : ℕ) → Result (Unit {0}) CheckFailure → Type 0
Judged n ds ps rows (Ok u) = Design n ds ps × (length ps ≤ rows)
Judged n ds ps rows (Err (Refused e)) =
    (c : Which) × (e ≡ NotADesign c) × FirstMissed n ds ps (condition_number c) × (2 < condition_number c → length ps ≤ rows)
Judged n ds ps rows (Err (ShortTableau k)) = Condition n ds ps 1 × Condition n ds ps 2 × (k ≡ length ps) × (rows < length ps)

-- a condition of numbers that should be a design's: they are readable, whole and without columns that the table does not have,
-- and the parts that they hold meet it
abbrev pub Meets : (rules design : List ℕ) → ℕ → Type 0
Meets rules design k =
    (is_readable (columns_of rules) design ≡ true) × Condition (columns_of rules) (rules_of_row rules) (design_in (columns_of rules) design) k

-- the conditions before k are met, and k is not
pub record Missed (rules design : List ℕ) (k : ℕ) : Type 0 where
  pub before : (j : ℕ) → 0 < j → j < k → Meets rules design j
  pub missed : Meets rules design k → ⊥

-- the design that the numbers hold
abbrev pub parts_given : (rules design : List ℕ) → List Part
parts_given rules design = design_in (columns_of rules) design

-- the numbers are a design, and there are rows enough
pub record Accepted (rules design : List ℕ) (rows : ℕ) : Type 0 where
  pub read : reading rules ≡ done
  pub readable : is_readable (columns_of rules) design ≡ true
  pub is_design : Design (columns_of rules) (rules_of_row rules) (parts_given rules design)
  pub room : length (parts_given rules design) ≤ rows

-- 6 at the first condition that the design misses, if nothing is told of the rules; and from the third condition on there are rows enough
pub record IsNoDesign (rules design : List ℕ) (rows : ℕ) (e : Refusal) : Type 0 where
  pub read : reading rules ≡ done
  pub condition : Which
  pub is : e ≡ NotADesign condition
  pub first : Missed rules design (condition_number condition)
  pub room : 2 < condition_number condition → length (parts_given rules design) ≤ rows

-- too few rows for the parts, which meet the first two conditions
pub record Short (rules design : List ℕ) (rows k : ℕ) : Type 0 where
  pub read : reading rules ≡ done
  pub one : Meets rules design 1
  pub two : Meets rules design 2
  pub parts : k ≡ length (parts_given rules design)
  pub few : rows < length (parts_given rules design)

abbrev pub Checked : (rules design : List ℕ) (rows : ℕ) → Result (Unit {0}) CheckFailure → Type 0
Checked rules design rows (Ok u) = Accepted rules design rows
Checked rules design rows (Err (Refused e)) = (reading rules ≡ told e) ⊎ IsNoDesign rules design rows e
Checked rules design rows (Err (ShortTableau k)) = Short rules design rows k
