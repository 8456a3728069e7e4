use Rattle.std.proofs.Common.{length, ap, ◌∙◌, inl, arith}
use Rattle.parts.specs.Left.{rows_left, held_here, GivesRow}
use Rattle.parts.proofs.Decoded.{held_length}
use Rattle.parts.proofs.Passing.{all_given}
use Rattle.parts.proofs.part_rows.PartRows.held.Goals as goal

pub count-requires-clause-fits : goal.count-requires-clause-fits
count-requires-clause-fits c =
    let few = held_length c.args.self.width.columns c.args.self.room c.args.self.cells.now in
    let all = ap length c.rows.ensures.all in
    inl (omega arith)

pub returns : goal.returns
returns c =
    let (xs, drains, many) = c.count.ensures.ran in
    many ∙ all_given held_here rows_left GivesRow (λ s a t step. step.0) (λ s t step. step.0) xs c.rows.result drains ∙ ap length c.rows.ensures.all
