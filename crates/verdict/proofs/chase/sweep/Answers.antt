use Rattle.std.proofs.Common.{◌≡◌, ℕ, ◌+◌, ◌||◌, ◌⊎◌, List, [], ◌∷◌, length, get_or, drop, sym, ap, ◌∙◌, subst, inl, inr, add-one, drop-cons}
use Rattle.std.proofs.lemmas.List.{drop_all}
use Rattle.columns.specs.Members.{In}
use Rattle.columns.proofs.Members.{in_at}
use Rattle.dependencies.specs.Rules.{dep, deps}
use Rattle.dependencies.specs.Tables.{Row, Dep}
use Rattle.dependencies.specs.declared.rules.Rule.{Rule}
use Rattle.verdict.specs.Sweeps.{RuleQuiet, AllQuiet}
use Rattle.verdict.proofs.Sweeping.{sweep_map, sweep_then, sweep_more}
use Rattle.verdict.proofs.chase.sweep.Goals as goal

abbrev Left : List Rule → ℕ → List Row → Type 0
Left rs i t = (d : Dep) → In d (deps rs) → In d (deps (drop i rs)) ⊎ RuleQuiet d t (length t)

in_deps : (rs : List Rule) (x : Rule) → In x rs → In (dep x) (deps rs)
unfolding deps
in_deps [] x h = absurd h
in_deps (r ∷ rs) x h = elim h [ inl e ↦ inl (ap dep e) | inr i ↦ inr (in_deps rs x i) ]

turn : (rs : List Rule) (i : ℕ) (x : Rule) (t : List Row) → drop i rs ≡ x ∷ drop (i + 1) rs → Left rs i t → RuleQuiet (dep x) t (length t) → Left rs (i + 1) t
unfolding deps
turn rs i x t e q r d h =
    elim (q d h) [
      | inl k ↦
          elim (subst (λ (v : List Rule). In d (deps v)) e k) [
            | inl z ↦ inr (subst (λ (w : Dep). RuleQuiet w t (length t)) z r)
            | inr z ↦ inl z
          ]
      | inr k ↦ inr k
    ]

none : (rs : List Rule) (i : ℕ) (t : List Row) → drop i rs ≡ [] → Left rs i t → AllQuiet (deps rs) t
unfolding deps
none rs i t e q d h = elim (q d h) [ inl k ↦ absurd (subst (λ (v : List Rule). In d (deps v)) e k) | inr k ↦ k ]

pub loop-rule-preserved : goal.loop-rule-preserved
loop-rule-preserved c =
    let t = c.args.rows.now in
    let u = c.loop-rule.rows in
    let v = c.sweep_rule-changed.new.rows in
    let rs = c.args.rules.now in
    let i = c.loop-rule.rule-index in
    let x : Rule = c.rule-item.result in
    let front : drop i rs ≡ x ∷ drop (i + 1) rs
    = drop-cons rs i x c.loop-rule-test.true ∙ ap (λ (k : ℕ). get_or rs i x ∷ drop k rs) (sym (add-one i))
    ∙ ap (λ (y : Rule). y ∷ drop (i + 1) rs) (sym c.rule-item.is) in
    let there : In (dep x) (deps rs) = in_deps rs x (subst (λ (y : Rule). In y rs) (sym c.rule-item.is) (in_at rs i x c.loop-rule-test.true)) in
    sweep_map (deps rs) (Left rs i t × RuleQuiet (dep x) t (length t)) (Left rs (i + 1) t) t v (c.loop-rule.changed || c.sweep_rule-changed.result)
    (λ q. turn rs i x t front q.0 q.1)
    (sweep_then (deps rs) (Left rs i t) (λ (w : List Row). RuleQuiet (dep x) w (length w)) t u v c.loop-rule.changed c.sweep_rule-changed.result
    c.loop-rule.invariant
    (sweep_more (dep x) (deps rs) (RuleQuiet (dep x) u (length u)) u v c.sweep_rule-changed.result there c.sweep_rule-changed.ensures))

pub returns : goal.returns
returns c =
    let t = c.args.rows.now in
    let rs = c.args.rules.now in
    let i = c.loop-rule.rule-index in
    sweep_map (deps rs) (Left rs i t) (AllQuiet (deps rs) t) t c.loop-rule.rows c.loop-rule.changed
    (λ q. none rs i t (drop_all i rs c.loop-rule-test.false) q) c.loop-rule.invariant
