use Rattle.std.proofs.Common.{refl, ◌∙◌}
use Rattle.columns.specs.Sets.{cols}
use Rattle.columns.proofs.Lists.{all_same}
use Rattle.dependencies.specs.Closure.{closure}
use Rattle.schema.specs.Design.{all_rules}
use Rattle.verdict.specs.Given.{given_parts}
use Rattle.verdict.proofs.keeping.follows.Goals as goal

pub returns : goal.returns
returns c =
    let r = cols c.args.rule.right in
    c.is_subset.ensures
    ∙ all_same r r (cols c.design_closure.result) (closure (all_rules (given_parts c.args.design)) (cols c.args.rule.left)) (λ z. refl) c.design_closure.ensures.computed
