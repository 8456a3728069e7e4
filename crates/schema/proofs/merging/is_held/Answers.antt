use Rattle.std.proofs.Common.{◌∙◌, rules, tests}
use Rattle.std.proofs.lemmas.Iterator.{YieldsList-from_slice}
use Rattle.std.proofs.lemmas.Iterator.Search.{any_from_yields_List}
use Rattle.columns.specs.Cols.{all_in}
use Rattle.columns.specs.Sets.{cols}
use Rattle.columns.specs.declared.set.ColumnSet.{ColumnSet}
use Rattle.schema.proofs.Tested.{any_any}
use Rattle.schema.proofs.merging.is_held.Goals as goal

pub returns : goal.returns
returns c =
    let xs = c.args.others.now in
    let holds = λ (s : ColumnSet). all_in (cols c.args.set) (cols s) in
    any_from_yields_List holds _ _ _ c.any.ensures.ran (YieldsList-from_slice xs cc) (λ x b q k. search (rules, tests)) ∙ any_any holds xs
