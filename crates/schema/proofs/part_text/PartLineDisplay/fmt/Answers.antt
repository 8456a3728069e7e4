use Rattle.std.proofs.Common.{◌≡◌, ℕ, ◌+◌, List, codes, sym, refl, ap, ◌∙◌, subst}
use Rattle.std.proofs.lemmas.List.{drop_all}
use Rattle.columns.specs.Shown.{listed}
use Rattle.columns.specs.Sets.{cols}
use Rattle.columns.proofs.Printed.{LedBut, none_led, one_led, skip_led, all_led}
use Rattle.dependencies.specs.Tables.{Dep}
use Rattle.dependencies.specs.Rules.{dep, deps}
use Rattle.dependencies.specs.Shown.{rule_text}
use Rattle.dependencies.specs.declared.rules.Rule.{Rule}
use Rattle.schema.specs.Shown.{lead_text}
use Rattle.schema.specs.Writing.{inside, own}
use Rattle.schema.proofs.PartText.{own_from, own_next, own_skip}
use Rattle.schema.proofs.part_text.PartLineDisplay.fmt.Goals as goal
use Rattle.schema.proofs.part_text.PartLineDisplay.fmt.Goals.{then-lies+in_ok-write-2, else-lies}

pub loop-rule-init : goal.loop-rule-init
loop-rule-init g c = none_led g.W.Write.write_str_gives rule_text (codes " ") _ (codes " by ") _ _ refl

pub loop-rule-preserved : goal.loop-rule-preserved
loop-rule-preserved g c =
    let took = g.W.Write.write_str_gives in
    let rs = c.args.self.now.rules.now in
    let s = c.args.self.now.set in
    let i = c.loop-rule.rule-index in
    let r : Rule = c.rule-item.result in
    let e = c.rule-item.is in
    let in· : c.lies.result ≡ inside r s = c.lies.ensures in
    let f0 = c.write.new.self in
    let before : List Dep = deps (own_from rs s i) in
    let left : List Dep = deps (own_from rs s (i + 1)) in
    let all : List Dep = deps (own rs s) in
    let lead : List ℕ = lead_text c.loop-rule.lead in
    elim c.if-lies.branch [
      | then-lies+in_ok-write-2 w ↦
          subst (λ v. LedBut took rule_text (codes " ") f0 v (lead_text c.if-lies.lead) left (codes " by ") all) (sym w.f-is)
          (subst (λ v. LedBut took rule_text (codes " ") f0 w.write-then-lies.new.self (lead_text v) left (codes " by ") all) (sym w.lead-is)
          (one_led took rule_text (codes " ") f0 c.loop-rule.f w.write-then-lies.new.self lead (dep r) left before (codes " by ") all
          (own_next rs s i r c.loop-rule-test.true e (sym in· ∙ w.if-lies.true)) c.loop-rule.invariant
          (λ plain. w.in_ok-write-2.ensures.writes plain refl)))
      | else-lies w ↦
          subst (λ v. LedBut took rule_text (codes " ") f0 v (lead_text c.if-lies.lead) left (codes " by ") all) (sym w.f-is)
          (subst (λ v. LedBut took rule_text (codes " ") f0 c.loop-rule.f (lead_text v) left (codes " by ") all) (sym w.lead-is)
          (skip_led took rule_text (codes " ") f0 c.loop-rule.f lead left before (codes " by ") all
          (own_skip rs s i r c.loop-rule-test.true e (sym in· ∙ w.if-lies.false)) c.loop-rule.invariant))
    ]

pub returns-clause-writes : goal.returns-clause-writes
unfolding deps
returns-clause-writes g c plain e =
    let rs = c.args.self.now.rules.now in
    let s = c.args.self.now.set in
    all_led g.W.Write.write_str_gives rule_text (codes " ") _ _ _ (listed (cols s)) (lead_text c.loop-rule.lead) (deps (own_from rs s c.loop-rule.rule-index)) (codes " by ") (deps (own rs s))
    (ap (λ v. deps (own v s)) (drop_all c.loop-rule.rule-index rs c.loop-rule-test.false))
    (λ p. c.in_ok-write.ensures.writes p refl) c.loop-rule.invariant plain
