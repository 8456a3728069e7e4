use Rattle.std.proofs.Common.{Bool, ◌||◌, ap, ◌∙◌}
use Rattle.columns.specs.Cols.{Cols, has}
use Rattle.columns.specs.Sets.{cols}
use Rattle.columns.proofs.Rising.{has_single}
use Rattle.columns.proofs.set.ColumnSet.with.Goals as goal

pub returns : goal.returns
returns c d =
    c.union.ensures d
    ∙ ap (λ (v : Cols). has (cols c.args.self) d || has v d) c.single.ensures
    ∙ ap (λ (b : Bool). has (cols c.args.self) d || b) (has_single c.args.c.index d)
