-- The conditions tested one after the other: at each the first that is missed is known, and after the last that it is a design. Assumes nothing.
use Rattle.std.proofs.Common.{◌≡◌, ℕ, ◌<◌, true, false, List, length, get_or, sym, ◌∙◌, subst}
use Rattle.std.proofs.lemmas.Bool.{true≢false}
use Rattle.columns.specs.Members.{In}
use Rattle.columns.proofs.Members.{in_at, at_in}
use Rattle.dependencies.specs.Tables.{Dep}
use Rattle.verdict.specs.Decided.{Condition, FirstMissed}
use Rattle.schema.specs.Design.{Part, no_part, LosesNothing, KeepsRules, IsThirdForm, Design}
use Rattle.verdict.specs.Judge.{is_none_inside}
use Rattle.verdict.proofs.Conditions.{none_hold, hold_none}
use Rattle.verdict.proofs.Verdicts.{Before, before_one, and_next, design_from}

module _ (n : ℕ) (ds : List Dep) (ps : List Part) where
  abbrev pub Thirds : Type 0
  Thirds = (p : Part) → In p ps → IsThirdForm ds p.cols

  first : (k : ℕ) → Before n ds ps k → (Condition n ds ps k → ⊥) → FirstMissed n ds ps k
  unfolding FirstMissed
  first k f g = (f, g)

  pub two_holds : is_none_inside ps ≡ true → Condition n ds ps 2
  two_holds e = none_hold n ds ps e

  three_holds : LosesNothing n ds ps → Condition n ds ps 3
  unfolding Condition
  three_holds h = h

  holds_three : Condition n ds ps 3 → LosesNothing n ds ps
  unfolding Condition
  holds_three h = h

  four_holds : KeepsRules ds ps → Condition n ds ps 4
  unfolding Condition
  four_holds h = h

  holds_four : Condition n ds ps 4 → KeepsRules ds ps
  unfolding Condition
  holds_four h = h

  five_holds : Thirds → Condition n ds ps 5
  unfolding Condition
  five_holds f i l = f (get_or ps i no_part) (in_at ps i no_part l)

  holds_five : Condition n ds ps 5 → Thirds
  unfolding Condition
  holds_five f p h = let i = at_in ps p no_part h in subst (λ (q : Part). IsThirdForm ds q.cols) i.2 (f i.0 i.1)

  pub some_parts : Condition n ds ps 1 → 0 < length ps
  unfolding Condition
  some_parts h = h.0

  pub missed_one : (Condition n ds ps 1 → ⊥) → FirstMissed n ds ps 1
  missed_one g = first 1 (before_one n ds ps) g

  before_two : Condition n ds ps 1 → Before n ds ps 2
  before_two a = and_next n ds ps 1 (before_one n ds ps) a

  pub missed_two : Condition n ds ps 1 → is_none_inside ps ≡ false → FirstMissed n ds ps 2
  missed_two a e = first 2 (before_two a) (λ h. true≢false (sym (hold_none n ds ps h) ∙ e))

  before_three : Condition n ds ps 1 → is_none_inside ps ≡ true → Before n ds ps 3
  before_three a b = and_next n ds ps 2 (before_two a) (two_holds b)

  pub missed_three : Condition n ds ps 1 → is_none_inside ps ≡ true → (LosesNothing n ds ps → ⊥) → FirstMissed n ds ps 3
  missed_three a b g = first 3 (before_three a b) (λ h. g (holds_three h))

  before_four : Condition n ds ps 1 → is_none_inside ps ≡ true → LosesNothing n ds ps → Before n ds ps 4
  before_four a b l = and_next n ds ps 3 (before_three a b) (three_holds l)

  pub missed_four : Condition n ds ps 1 → is_none_inside ps ≡ true → LosesNothing n ds ps → (KeepsRules ds ps → ⊥) → FirstMissed n ds ps 4
  missed_four a b l g = first 4 (before_four a b l) (λ h. g (holds_four h))

  before_five : Condition n ds ps 1 → is_none_inside ps ≡ true → LosesNothing n ds ps → KeepsRules ds ps → Before n ds ps 5
  before_five a b l k = and_next n ds ps 4 (before_four a b l) (four_holds k)

  pub missed_five : Condition n ds ps 1 → is_none_inside ps ≡ true → LosesNothing n ds ps → KeepsRules ds ps → (Thirds → ⊥) → FirstMissed n ds ps 5
  missed_five a b l k g = first 5 (before_five a b l k) (λ h. g (holds_five h))

  pub meets_all : Condition n ds ps 1 → is_none_inside ps ≡ true → LosesNothing n ds ps → KeepsRules ds ps → Thirds → Design n ds ps
  meets_all a b l k t = design_from n ds ps (and_next n ds ps 5 (before_five a b l k) (five_holds t))
