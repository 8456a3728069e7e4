use Rattle.std.proofs.Common.{◌≡◌, List, [], ◌∷◌, ◌++◌, length, sym, ap, ◌∙◌, subst, arith}
use Rattle.columns.specs.Cols.{Cols}
use Rattle.columns.specs.Sets.{cols}
use Rattle.columns.proofs.SetNumbers.{cols_rising}
use Rattle.dependencies.specs.Tables.{Dep, fixing}
use Rattle.dependencies.specs.Rules.{dep, deps}
use Rattle.dependencies.specs.declared.rules.Rule.{Rule}
use Rattle.dependencies.proofs.Layouts.{deps_push}
use Rattle.cover.specs.Fine.{Splitting}
use Rattle.cover.specs.Queued.{queued}
use Rattle.cover.proofs.Splitting.{splitting_turn}
use Rattle.cover.proofs.fine.split_rule.Goals as goal

pub loop-b-preserved : goal.loop-b-preserved
loop-b-preserved c =
    let ds = deps c.args.rules.now in
    let fs = deps (queued c.args.queue.now) in
    let old = queued c.loop-b.queue in
    let rest = cols c.take_first.new.self in
    let x : Rule = c.fine_rule.result in
    let e : deps (queued c.push.new.self) ≡ deps old ++ fixing (cols x.left) c.in-Some.b.index ∷ []
    = ap deps c.push.ensures.0 ∙ deps_push old x ∙ ap (λ (v : Cols). deps old ++ record { left = cols x.left; right = v } ∷ []) c.fine_rule.ensures.right in (
      subst (λ (v : List Dep). Splitting ds (dep c.args.rule) rest fs v) (sym e)
          (splitting_turn ds (dep c.args.rule) c.in-Some.b.index (cols c.loop-b.todo) rest fs (deps old) (cols x.left) c.in-Some.ensures
          c.loop-b.invariant.0 (cols_rising x.left) c.fine_rule.ensures.left),
      omega (arith, c.push.ensures.1, c.loop-b.invariant.1, ap length c.in-Some.ensures),
    )
