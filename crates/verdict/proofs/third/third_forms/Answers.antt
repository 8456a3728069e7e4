use Rattle.std.proofs.Common.{ℕ, ◌<◌, Bool, true, false, List, length, MatchBool, refl, subst, arith, rules}
use Rattle.std.specs.List.{AllWithin, HoldsAt}
use Rattle.std.proofs.lemmas.Iterator.{cases_from_all}
use Rattle.std.proofs.lemmas.Iterator.Consumers.{YieldsList-from_first}
use Rattle.columns.specs.Members.{In}
use Rattle.columns.proofs.Members.{in_at, at_in}
use Rattle.dependencies.specs.Rules.{deps}
use Rattle.schema.specs.Design.{Part, IsThirdForm, no_part}
use Rattle.verdict.specs.Deciding.{Decides}
use Rattle.verdict.specs.Given.{given_part, given_parts}
use Rattle.verdict.proofs.third.third_forms.Goals as goal

decided : (P : Part → Type 0) (ps : List Part) (r : Bool) → MatchBool r (AllWithin P ps 0 (length ps)) ((k : ℕ) × (k < length ps) × HoldsAt (λ p. P p → ⊥) ps k)
    → Decides ((p : Part) → In p ps → P p) r
decided P ps true h = λ p i. let w = at_in ps p no_part i in subst P w.2 (h w.0 no_part (omega arith) w.1)
decided P ps false h = λ all. h.2 no_part (all _ (in_at ps h.0 no_part h.1))

pub returns : goal.returns
returns c =
    let third = λ (p : Part). IsThirdForm (deps c.args.rules.now) p.cols in
    let parts = given_parts c.args.design in
    decided third parts c.all.result
    (cases_from_all c.all.new.self _ _ third (λ p. third p → ⊥) c.all.ensures.ran (YieldsList-from_first given_part given_parts parts refl) (λ x q k. search rules) (λ x q k. search rules))
