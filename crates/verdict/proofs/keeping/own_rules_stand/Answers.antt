use Rattle.std.proofs.Common.{refl, ◌∙◌, rules, tests}
use Rattle.std.proofs.lemmas.Iterator.Consumers.{YieldsList-from_first}
use Rattle.std.proofs.lemmas.Iterator.Search.{all_from_yields_List}
use Rattle.columns.specs.Sets.{cols}
use Rattle.dependencies.specs.Rules.{dep, deps}
use Rattle.schema.proofs.Tested.{all_every}
use Rattle.verdict.specs.Given.{own_of}
use Rattle.verdict.specs.Kept.{does_stand}
use Rattle.verdict.proofs.keeping.own_rules_stand.Goals as goal

pub returns : goal.returns
returns c =
    let own = own_of c.args.own in
    let stand = does_stand (deps c.args.rules.now) (cols c.args.part) in
    all_from_yields_List stand c.all.new.self _ _ c.all.ensures.ran (YieldsList-from_first dep own_of own refl) (λ x b q k. search (rules, tests)) ∙ all_every stand own
