use Rattle.std.proofs.Common.{◌≡◌, ◌+◌, List, [], ◌∷◌, ◌++◌, length, take, sym, ap, ◌∙◌, subst, arith}
use Rattle.std.proofs.lemmas.List.{take_more, take_all}
use Rattle.columns.specs.Cols.{Cols}
use Rattle.columns.specs.Members.{In}
use Rattle.columns.specs.declared.set.ColumnSet.{ColumnSet}
use Rattle.columns.proofs.Members.{in_at}
use Rattle.cover.proofs.FewRules.{few_cover}
use Rattle.cover.specs.RuleLists.{in_deps}
use Rattle.dependencies.specs.Tables.{Dep}
use Rattle.dependencies.specs.Rules.{dep, deps}
use Rattle.dependencies.specs.declared.rules.Rule.{Rule}
use Rattle.dependencies.proofs.Layouts.{deps_push}
use Rattle.schema.specs.Gathers.{OfLeftSide, Holding}
use Rattle.schema.specs.Sets.{sets_in, sets_of}
use Rattle.schema.proofs.Fitting.{holding_start, holding_turn}
use Rattle.schema.proofs.designing.merge_left_sides.Goals as goal

pub loop-rule-init : goal.loop-rule-init
unfolding deps sets_of
loop-rule-init c =
    let K : Cols → Type 0 = OfLeftSide (deps c.rules-rules.result.now) in
    (subst (λ (v : List ColumnSet). Holding K [] (sets_of v)) (sym c.none-sets.ensures) (holding_start K), omega (arith, ap length c.none-sets.ensures))

pub add-requires : goal.add-requires
add-requires c =
    omega (arith, c.loop-rule.invariant.1, ap length c.rules-rules.ensures, few_cover c.args.cover.now)

pub loop-rule-preserved : goal.loop-rule-preserved
loop-rule-preserved c =
    let xs : List Rule = c.rules-rules.result.now in
    let i = c.loop-rule.rule-index in
    let x : Rule = c.rule-item.result in
    let K : Cols → Type 0 = OfLeftSide (deps xs) in
    let there : In (dep x) (deps xs) = in_deps xs x (subst (λ (v : Rule). In v xs) (sym c.rule-item.is) (in_at xs i x c.loop-rule-test.true)) in
    let e : deps (take (i + 1) xs) ≡ deps (take i xs) ++ dep x ∷ []
    = ap deps (take_more xs i x c.loop-rule-test.true ∙ ap (λ (y : Rule). take i xs ++ y ∷ []) (sym c.rule-item.is)) ∙ deps_push (take i xs) x in (
      subst (λ (v : List Dep). Holding K v (sets_of (sets_in c.add.new.self))) (sym e)
          (subst (λ (v : List ColumnSet). Holding K (deps (take i xs) ++ dep x ∷ []) (sets_of v)) (sym c.add.ensures.0)
          (holding_turn (deps xs) (deps (take i xs)) (sets_in c.loop-rule.sets) (dep x) c.gather.result c.loop-rule.invariant.0 there c.gather.ensures)),
      omega (arith, c.add.ensures.1, c.loop-rule.invariant.1),
    )

pub returns : goal.returns
returns c =
    let xs : List Rule = c.rules-rules.result.now in
    let ys : List Cols = sets_of (sets_in c.loop-rule.sets) in (
      subst (λ (v : List Rule). Holding (OfLeftSide (deps v)) (deps v) ys) c.rules-rules.ensures
          (subst (λ (v : List Rule). Holding (OfLeftSide (deps xs)) (deps v) ys) (take_all c.loop-rule.rule-index xs c.loop-rule-test.false) c.loop-rule.invariant.0),
      omega (arith, c.loop-rule.invariant.1, ap length c.rules-rules.ensures, c.loop-rule.auto.rule-index-end),
    )
