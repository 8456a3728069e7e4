use Rattle.std.proofs.Common.{List, vec_items, ap, ◌∙◌, arith}
use Rattle.std.proofs.lemmas.List.{take_all}
use Rattle.columns.specs.Sets.{cols}
use Rattle.dependencies.specs.Tables.{Row}
use Rattle.parts.specs.Parts.{held_by}
use Rattle.join.specs.Steps.{join_all}
use Rattle.join.proofs.RowsGrow.{all_more}
use Rattle.join.proofs.merging.join_part.Goals as goal

pub loop-row-preserved : goal.loop-row-preserved
loop-row-preserved c =
    all_more (cols c.args.shared) (cols c.args.part.owned) (held_by c.args.part) c.args.rows.now (vec_items c.loop-row.next) (vec_items c.join_row.new.rows) c.loop-row.row-index
    (omega arith) c.loop-row.invariant c.in_ok-join_row.ensures

pub returns : goal.returns
returns c =
    c.loop-row.invariant ∙ ap (λ (z : List Row). join_all (cols c.args.shared) (cols c.args.part.owned) (held_by c.args.part) z) (take_all c.loop-row.row-index c.args.rows.now (omega arith))
