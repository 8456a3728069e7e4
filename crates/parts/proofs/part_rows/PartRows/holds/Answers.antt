use Rattle.std.proofs.Common.{◌∙◌}
use Rattle.columns.specs.Sets.{cols}
use Rattle.parts.specs.Store.{held_in}
use Rattle.parts.proofs.Placed.{held_tells}
use Rattle.parts.proofs.part_rows.PartRows.holds.Goals as goal

pub returns : goal.returns
returns c =
    c.is_ok.ensures.value
    ∙ held_tells (cols c.args.set) c.args.row.now (held_in c.args.self.width.columns c.args.self.room c.args.self.cells.now) c.find.result c.find.ensures
