use Rattle.std.proofs.Common.{refl, ◌∙◌}
use Rattle.columns.specs.Sets.{cols}
use Rattle.columns.proofs.Lists.{all_same}
use Rattle.dependencies.specs.Closure.{closure}
use Rattle.dependencies.specs.Rules.{deps}
use Rattle.dependencies.proofs.closing.fixes.Goals as goal

pub returns : goal.returns
returns c =
    let p = cols c.args.right in
    c.is_subset.ensures
    ∙ all_same p p (cols c.closure.result) (closure (deps c.args.rules.now) (cols c.args.left)) (λ d. refl) c.closure.ensures.computed
