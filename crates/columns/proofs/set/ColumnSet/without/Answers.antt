use Rattle.std.proofs.Common.{Bool, not, ◌&&◌, ap, ◌∙◌}
use Rattle.columns.specs.Cols.{Cols, has}
use Rattle.columns.specs.Sets.{cols}
use Rattle.columns.proofs.Rising.{has_single}
use Rattle.columns.proofs.set.ColumnSet.without.Goals as goal

pub returns : goal.returns
returns c d =
    c.difference.ensures d
    ∙ ap (λ (v : Cols). has (cols c.args.self) d && not (has v d)) c.single.ensures
    ∙ ap (λ (b : Bool). has (cols c.args.self) d && not b) (has_single c.args.c.index d)
