-- The verdict is 0 for a design, and else the first condition that is missed. Assumes nothing.
use Rattle.std.proofs.Common.{◌≡◌, ℕ, zero, suc, ◌<◌, ◌≤◌, Bool, true, false, eqb, ltb, List, sym, refl, ◌∙◌, subst, inl, inr, arith}
use Rattle.std.proofs.lemmas.Bool.{true≢false, eqb-true, eqb-false, ltb-true, ltb-false, cases_Bool}
use Rattle.dependencies.specs.Tables.{Dep, Proper}
use Rattle.schema.specs.Design.{Part, Design}
use Rattle.verdict.specs.Chase.{does_lose_nothing}
use Rattle.verdict.specs.Judge.{are_columns, is_none_inside, does_keep_rules, are_third_form, verdict}
use Rattle.verdict.specs.Decided.{ChaseDecides, Condition, FirstMissed, VerdictPinned}
use Rattle.columns.proofs.Members.{pick_both}
use Rattle.verdict.proofs.ChaseComplete.{chase_decides_lem}
use Rattle.verdict.proofs.Conditions.{columns_hold, hold_columns, none_hold, hold_none, keeps_to, keeps_from, thirds_hold, hold_thirds}

-- a condition that its test finds missed
refuted : {C : Type 0} (b : Bool) → (C → b ≡ true) → b ≡ false → C → ⊥
refuted b f e c = true≢false (sym (f c) ∙ e)

module _ (n : ℕ) (ds : List Dep) (ps : List Part) where
  abbrev pub Before : ℕ → Type 0
  Before k = (j : ℕ) → 0 < j → j < k → Condition n ds ps j

  pub before_one : Before 1
  before_one j a b = absurd (omega arith)

  pub and_next : (k : ℕ) → Before k → Condition n ds ps k → Before (suc k)
  and_next k f c j a b =
      elim (cases_Bool (eqb j k)) [
        | inl e ↦ subst (Condition n ds ps) (sym (eqb-true j k e)) c
        | inr e ↦ f j a (let x = eqb-false j k e in omega arith)
      ]

  pub design_from : Before 6 → Design n ds ps
  unfolding Condition
  design_from f =
      let a = f 1 (omega arith) (omega arith) in
      record {
        some = a.0;
        within = a.1;
        covers = a.2;
        loses_nothing = f 3 (omega arith) (omega arith);
        keeps_rules = f 4 (omega arith) (omega arith);
        third_form = f 5 (omega arith) (omega arith);
        none_inside = f 2 (omega arith) (omega arith);
      }

  pub design_meets : Design n ds ps → (k : ℕ) → 0 < k → k ≤ 5 → Condition n ds ps k
  unfolding Condition
  design_meets d zero a b = absurd (omega arith)
  design_meets d (suc zero) a b = (d.some, d.within, d.covers)
  design_meets d (suc (suc zero)) a b = d.none_inside
  design_meets d (suc (suc (suc zero))) a b = d.loses_nothing
  design_meets d (suc (suc (suc (suc zero)))) a b = d.keeps_rules
  design_meets d (suc (suc (suc (suc (suc zero))))) a b = d.third_form
  design_meets d (suc (suc (suc (suc (suc (suc k)))))) a b = absurd (omega arith)

  abbrev Missed : ℕ → Type 0
  Missed k = Before k × (Condition n ds ps k → ⊥)

  abbrev Outcome : ℕ → Type 0
  Outcome zero = Design n ds ps
  Outcome (suc k) = (suc k ≤ 5) × Missed (suc k)

  told : Proper n ds → Outcome (verdict n ds ps)
  unfolding ChaseDecides Condition
  told proper =
      pick_both (are_columns n ps) _ 1 Outcome
      (λ e₁.
      let f₂ : Before 2 = and_next 1 before_one (columns_hold n ds ps e₁) in
      let chased = chase_decides_lem n ds ps proper (columns_hold n ds ps e₁).0 in
      pick_both (is_none_inside ps) _ 2 Outcome
      (λ e₂.
      let f₃ : Before 3 = and_next 2 f₂ (none_hold n ds ps e₂) in
      pick_both (does_lose_nothing n ds ps) _ 3 Outcome
      (λ e₃.
      let f₄ : Before 4 = and_next 3 f₃ (chased.0 e₃) in
      pick_both (does_keep_rules ds ps) _ 4 Outcome
      (λ e₄.
      let f₅ : Before 5 = and_next 4 f₄ (keeps_to ds ps e₄) in
      pick_both (are_third_form ds ps) 0 5 Outcome
      (λ e₅. design_from (and_next 5 f₅ (thirds_hold n ds ps e₅)))
      (λ e₅. (omega arith, (f₅, refuted (are_third_form ds ps) (hold_thirds n ds ps) e₅))))
      (λ e₄. (omega arith, (f₄, refuted (does_keep_rules ds ps) (keeps_from ds ps) e₄))))
      (λ e₃. (omega arith, (f₃, refuted (does_lose_nothing n ds ps) chased.1 e₃))))
      (λ e₂. (omega arith, (f₂, refuted (is_none_inside ps) (hold_none n ds ps) e₂))))
      (λ e₁. (omega arith, (before_one, refuted (are_columns n ps) (hold_columns n ds ps) e₁)))

  outcome_small : (v : ℕ) → Outcome v → v ≤ 5
  outcome_small zero o = omega arith
  outcome_small (suc v) o = o.0

  outcome_missed : (k : ℕ) → 0 < k → Outcome k → Missed k
  outcome_missed zero a o = absurd (omega arith)
  outcome_missed (suc k) a o = o.1

  design_only : (v : ℕ) → Outcome v → Design n ds ps → v ≡ 0
  design_only zero o d = refl
  design_only (suc v) o d = absurd (o.1.1 (design_meets d (suc v) (omega arith) o.0))

  missed_only : (v k : ℕ) → Outcome v → 0 < k → k ≤ 5 → Missed k → v ≡ k
  missed_only zero k o a b m = absurd (m.1 (design_meets o k a b))
  missed_only (suc v) k o a b m =
      elim (cases_Bool (ltb (suc v) k)) [
        | inl e ↦ absurd (o.1.1 (m.0 (suc v) (omega arith) (ltb-true (suc v) k e)))
        | inr e ↦
            elim (cases_Bool (ltb k (suc v))) [
              | inl f ↦ absurd (m.1 (o.1.0 k a (ltb-true k (suc v) f)))
              | inr f ↦ let x = ltb-false (suc v) k e in let y = ltb-false k (suc v) f in omega arith
            ]
      ]

pub verdict_pinned_lem : VerdictPinned
unfolding VerdictPinned FirstMissed
verdict_pinned_lem n ds ps proper =
    let o = told n ds ps proper in (
      outcome_small n ds ps (verdict n ds ps) o,
      λ e. subst (Outcome n ds ps) e o,
      design_only n ds ps (verdict n ds ps) o,
      λ k a b. (λ e. outcome_missed n ds ps k a (subst (Outcome n ds ps) e o), missed_only n ds ps (verdict n ds ps) k o a b),
    )
