use Rattle.std.proofs.Common.{◌≡◌, Bool, true, ◌&&◌, refl, sym, ap, ◌∙◌}
use Rattle.std.proofs.lemmas.Bool.{true≢false, and_from}
use Rattle.columns.specs.Cols.{all_in}
use Rattle.columns.specs.Sets.{cols}
use Rattle.columns.proofs.Lists.{all_same}
use Rattle.dependencies.specs.Closure.{closure, does_fix}
use Rattle.dependencies.specs.Rules.{deps}
use Rattle.verdict.proofs.keeping.stands.Goals as goal
use Rattle.verdict.proofs.keeping.stands.Goals.{then-is_subset, else-is_subset}

pub returns-then-is_subset-2 : goal.returns-then-is_subset-2
returns-then-is_subset-2 c =
    let ds = deps c.args.rules.now in
    let l = cols c.args.rule.left in
    let r = cols c.args.rule.right in
    let p = cols c.args.part in
    let lies : (all_in l p && all_in r p) ≡ true
    = elim c.if-is_subset.branch [
      | then-is_subset w ↦ and_from (all_in l p) (all_in r p) (sym w.if-is_subset.ensures) (sym w.is_subset-then-is_subset.ensures ∙ sym w.value-is ∙ c.if-is_subset-2.true)
      | else-is_subset w ↦ absurd (true≢false (sym c.if-is_subset-2.true ∙ w.value-is ∙ w.if-is_subset.false))
    ] in
    c.is_subset-then-is_subset-2.ensures
    ∙ all_same r r (cols c.closure.result) (closure ds l) (λ x. refl) c.closure.ensures.computed
    ∙ ap (λ (b : Bool). b && does_fix ds l r) (sym lies)
