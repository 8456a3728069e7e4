use Rattle.std.proofs.Common.{◌≡◌, ℕ, ◌+◌, ◌*◌, ◌≤◌, List, [], ◌∷◌, ◌++◌, length, take, sym, ap, ◌∙◌, subst, mul-le-mul, mul-suc, add-one, arith}
use Rattle.std.proofs.lemmas.List.{take_more}
use Rattle.columns.specs.Members.{In}
use Rattle.columns.specs.Sets.{cols}
use Rattle.columns.proofs.Members.{in_at}
use Rattle.dependencies.specs.Tables.{Dep}
use Rattle.dependencies.specs.Reads.{rules_of}
use Rattle.dependencies.specs.Rules.{dep, deps}
use Rattle.dependencies.specs.declared.rules.Rule.{Rule}
use Rattle.dependencies.proofs.Layouts.{deps_push}
use Rattle.dependencies.proofs.Smalls.{few_rules}
use Rattle.cover.specs.Fine.{AllSplit}
use Rattle.cover.specs.Queued.{queued}
use Rattle.cover.proofs.ProperRules.{proper_at, set_short, set_short_in}
use Rattle.cover.specs.RuleLists.{in_deps}
use Rattle.cover.proofs.Splitting.{all_start, all_turn}
use Rattle.cover.proofs.fine.split.Goals as goal

pub loop-rule-init : goal.loop-rule-init
unfolding deps
loop-rule-init c =
    let q = c.new-queue.ensures in (
      subst (λ (v : List Rule). AllSplit (deps c.rules-rules.result.now) [] (deps v)) (sym q.0) (all_start (deps c.rules-rules.result.now)),
      omega (arith, q.1),
    )

pub split_rule-requires : goal.split_rule-requires
split_rule-requires c =
    let set = c.args.set.now in
    let i : c.loop-rule.rule-index ≤ 32 = omega (arith, ap length c.rules-rules.ensures, few_rules set) in
    omega (arith, c.loop-rule.invariant.1, set_short c.rule-item.result.right, mul-le-mul set.width.narrow i)

pub loop-rule-preserved : goal.loop-rule-preserved
loop-rule-preserved c =
    let set = c.args.set.now in
    let w = set.width.columns in
    let xs = c.rules-rules.result.now in
    let i = c.loop-rule.rule-index in
    let x : Rule = c.rule-item.result in
    let ds = deps xs in
    let here : In x xs = subst (λ (v : Rule). In v xs) (sym c.rule-item.is) (in_at xs i x c.loop-rule-test.true) in
    let given : In (dep x) ds = in_deps xs x here in
    let e : deps (take (i + 1) xs) ≡ deps (take i xs) ++ dep x ∷ []
    = ap deps (take_more xs i x c.loop-rule-test.true ∙ ap (λ (y : Rule). take i xs ++ y ∷ []) (sym c.rule-item.is)) ∙ deps_push (take i xs) x in
    let given-all : In (dep x) (deps (rules_of set)) = subst (λ (v : List Rule). In (dep x) (deps v)) c.rules-rules.ensures given in
    let short : length (cols x.right) ≤ w = set_short_in x.right w (proper_at w (deps (rules_of set)) set.proper (dep x) given-all).1 in
    let m : w * (i + 1) ≡ w * i + w = ap (λ (k : ℕ). w * k) (add-one i) ∙ mul-suc w i in
    let gs = deps (queued c.split_rule.new.queue) in (
      subst (λ (v : List Dep). AllSplit ds v gs) (sym e)
          (all_turn ds (deps (take i xs)) (deps (queued c.loop-rule.queue)) (dep x) gs given c.loop-rule.invariant.0 c.split_rule.ensures.says),
      omega (arith, c.split_rule.ensures.room, c.loop-rule.invariant.1, short, m),
    )
