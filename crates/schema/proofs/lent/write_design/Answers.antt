use Rattle.std.proofs.Common.{◌≡◌, ℕ, ◌+◌, ◌≤◌, List, ◌∷◌, length, sym, ap, ◌∙◌, subst, arith}
use Rattle.bounded.proofs.Few.{few_items}
use Rattle.columns.specs.declared.set.ColumnSet.{ColumnSet}
use Rattle.dependencies.specs.Lent.{put_list}
use Rattle.dependencies.specs.Reads.{rules_of}
use Rattle.dependencies.specs.Rules.{deps}
use Rattle.dependencies.specs.declared.rules.Rule.{Rule}
use Rattle.schema.specs.Designed.{Designed}
use Rattle.schema.specs.Plans.{plan_rules, plan_sets}
use Rattle.schema.specs.Writing.{encoded}
use Rattle.cover.proofs.FewRules.{few_cover}
use Rattle.schema.proofs.Telling.{encoded_short, told_done}
use Rattle.schema.proofs.lent.write_design.Goals as goal

pub returns : goal.returns
returns c rules read =
    let t = c.args.set.now in
    let p = c.design.result in
    let plan = c.design.ensures in
    let rs : List Rule = plan_rules p in
    let ss : List ColumnSet = plan_sets p in
    let out : List ℕ = c.args.out.now in
    let fits : 1 + length (encoded rs ss) ≤ length out
    = omega (arith, encoded_short rs ss, few_items p.sets.sets, few_cover p.cover, c.requires) in
    let put : c.write_parts.new.out ≡ put_list out 0 (length ss ∷ encoded rs ss)
    = c.write_parts.ensures
    ∙ ap (λ (v : List Rule). put_list out 0 (length c.sets-sets.result.now ∷ encoded v c.sets-sets.result.now)) (c.all.ensures ∙ c.rules.ensures)
    ∙ ap (λ (v : List ColumnSet). put_list out 0 (length v ∷ encoded rs v)) c.sets-sets.ensures in
    subst (λ (v : List ColumnSet). Designed rules out (length v) c.write_parts.new.out) (sym c.sets-sets.ensures)
    (told_done t.width.columns (length (rules_of t)) (deps (rules_of t)) rs ss out c.write_parts.new.out t.width.narrow plan.design plan.few plan.small_rules plan.small_sets
    fits put rules read.1 read.2 read.3)
