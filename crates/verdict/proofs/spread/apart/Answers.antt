use Rattle.std.proofs.Common.{refl, ◌∙◌, rules, tests}
use Rattle.std.proofs.lemmas.Iterator.Consumers.{YieldsList-from_first}
use Rattle.std.proofs.lemmas.Iterator.Search.{all_from_yields_List}
use Rattle.columns.specs.Sets.{cols}
use Rattle.schema.proofs.Tested.{all_every}
use Rattle.verdict.specs.Given.{given_part, given_parts}
use Rattle.verdict.specs.Kept.{is_apart}
use Rattle.verdict.proofs.spread.apart.Goals as goal

pub returns : goal.returns
returns c =
    let parts = given_parts c.args.others in
    let apart = is_apart (cols c.args.part) in
    all_from_yields_List apart c.all.new.self _ _ c.all.ensures.ran (YieldsList-from_first given_part given_parts parts refl) (λ x b q k. search (rules, tests)) ∙ all_every apart parts
