use Rattle.std.proofs.Common.{◌≡◌, ℕ, ◌+◌, List, ◌∷◌, get_or, drop, sym, ap, ◌∙◌, subst, add-one, drop-cons}
use Rattle.std.proofs.lemmas.List.{drop_all}
use Rattle.columns.specs.Cols.{Same, Cols}
use Rattle.columns.specs.Sets.{cols}
use Rattle.columns.specs.declared.set.ColumnSet.{ColumnSet}
use Rattle.dependencies.specs.Closure.{round}
use Rattle.dependencies.specs.Rules.{dep, deps}
use Rattle.dependencies.specs.declared.rules.Rule.{Rule}
use Rattle.dependencies.proofs.Rounds.{turn, step, step_fires, step_idle}
use Rattle.dependencies.proofs.closing.one_round.Goals as goal
use Rattle.dependencies.proofs.closing.one_round.Goals.{then-is_subset, else-is_subset}

pub loop-rule-preserved : goal.loop-rule-preserved
loop-rule-preserved c =
    let i = c.loop-rule.rule-index in
    let xs = c.args.rules.now in
    let x : Rule = c.rule-item.result in
    let goal : Cols = round (deps xs) (cols c.args.start) in
    let front : drop i xs ≡ x ∷ drop (i + 1) xs
    = drop-cons xs i x c.loop-rule-test.true ∙ ap (λ (k : ℕ). get_or xs i x ∷ drop k xs) (sym (add-one i)) ∙ ap (λ (y : Rule). y ∷ drop (i + 1) xs) (sym c.rule-item.is) in
    let so : Same (round (deps (x ∷ drop (i + 1) xs)) (cols c.loop-rule.all)) goal
    = subst (λ (ys : List Rule). Same (round (deps ys) (cols c.loop-rule.all)) goal) front c.loop-rule.invariant in
    let next : Same (cols c.if-is_subset.all) (step (dep x) (cols c.loop-rule.all))
    = elim c.if-is_subset.branch [
      | then-is_subset w ↦ subst (λ (t : ColumnSet). Same (cols t) (step (dep x) (cols c.loop-rule.all))) (sym w.all-is)
          (step_fires x c.loop-rule.all w.union-all.result (sym w.if-is_subset.ensures) w.union-all.ensures)
      | else-is_subset w ↦ subst (λ (t : ColumnSet). Same (cols t) (step (dep x) (cols c.loop-rule.all))) (sym w.all-is)
          (step_idle x c.loop-rule.all (sym w.if-is_subset.ensures))
    ] in
    turn x (drop (i + 1) xs) c.loop-rule.all c.if-is_subset.all goal next so

pub returns : goal.returns
unfolding deps round
returns c =
    let xs = c.args.rules.now in
    let goal : Cols = round (deps xs) (cols c.args.start) in
    subst (λ (ys : List Rule). Same (round (deps ys) (cols c.loop-rule.all)) goal) (drop_all c.loop-rule.rule-index xs c.loop-rule-test.false) c.loop-rule.invariant
