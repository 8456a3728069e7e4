use Rattle.std.proofs.Common.{◌≡◌, ◌+◌, List, [], ◌∷◌, ◌++◌, take, sym, ap, ◌∙◌, subst}
use Rattle.std.proofs.lemmas.List.{take_more}
use Rattle.dependencies.specs.Tables.{Dep}
use Rattle.columns.specs.Sets.{cols}
use Rattle.dependencies.specs.Rules.{dep, deps}
use Rattle.dependencies.specs.declared.rules.Rule.{Rule}
use Rattle.dependencies.proofs.Layouts.{deps_push}
use Rattle.schema.specs.Gathers.{Gathered}
use Rattle.schema.proofs.Gathering.{gathered_start, gathered_turn}
use Rattle.schema.proofs.merging.gather.Goals as goal

pub loop-rule-init : goal.loop-rule-init
unfolding deps
loop-rule-init c = gathered_start (cols c.args.left)

pub loop-rule-preserved : goal.loop-rule-preserved
loop-rule-preserved c =
    let xs = c.args.cover.now in
    let i = c.loop-rule.rule-index in
    let x : Rule = c.rule-item.result in
    let e : deps (take (i + 1) xs) ≡ deps (take i xs) ++ dep x ∷ []
    = ap deps (take_more xs i x c.loop-rule-test.true ∙ ap (λ (y : Rule). take i xs ++ y ∷ []) (sym c.rule-item.is)) ∙ deps_push (take i xs) x in
    subst (λ (v : List Dep). Gathered v (cols c.args.left) (cols c.join-all.result)) (sym e)
    (gathered_turn (deps (take i xs)) (cols c.args.left) (cols c.loop-rule.all) (dep x) (cols c.join-all.result) c.loop-rule.invariant c.join-all.ensures)
