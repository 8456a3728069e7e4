use Rattle.std.proofs.Common.{ap, ◌∙◌, rules, tests}
use Rattle.std.proofs.lemmas.Iterator.{YieldsList-from_slice}
use Rattle.std.proofs.lemmas.Iterator.Search.{any_from_yields_List}
use Rattle.columns.specs.Cols.{Cols}
use Rattle.columns.specs.Every.{any}
use Rattle.columns.specs.Sets.{cols}
use Rattle.dependencies.specs.Tables.{Row, agree, zero_row}
use Rattle.schema.proofs.Tested.{any_any}
use Rattle.verdict.proofs.chase.has_zero_row.Goals as goal

pub returns : goal.returns
returns c =
    let rows = c.args.rows.now in
    let zero = λ (x : Row). agree (cols c.all-all.result) (zero_row 16) x in
    any_from_yields_List zero _ _ _ c.any.ensures.ran (YieldsList-from_slice rows cc) (λ x b q k. search (rules, tests))
    ∙ any_any zero rows
    ∙ ap (λ (v : Cols). any rows (λ x. agree v (zero_row 16) x)) c.all-all.ensures
