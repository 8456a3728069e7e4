use Rattle.std.proofs.Common.{refl, ◌∙◌, rules, tests}
use Rattle.std.proofs.lemmas.Iterator.Consumers.{YieldsList-from_first}
use Rattle.std.proofs.lemmas.Iterator.Search.{all_from_yields_List}
use Rattle.columns.specs.Every.{every}
use Rattle.dependencies.specs.Rules.{deps}
use Rattle.schema.proofs.Tested.{all_every}
use Rattle.schema.specs.Design.{Part}
use Rattle.verdict.specs.Given.{given_part, given_parts}
use Rattle.verdict.specs.Kept.{does_stand}
use Rattle.verdict.proofs.keeping.all_stand.Goals as goal

pub returns : goal.returns
returns c =
    let parts = given_parts c.args.design in
    let stand = λ (p : Part). every p.rules (does_stand (deps c.args.rules.now) p.cols) in
    all_from_yields_List stand c.all.new.self _ _ c.all.ensures.ran (YieldsList-from_first given_part given_parts parts refl) (λ x b q k. search (rules, tests)) ∙ all_every stand parts
