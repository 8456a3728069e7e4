use Rattle.std.proofs.Common.{vec_items}
use Rattle.columns.specs.Sets.{cols}
use Rattle.schema.specs.Layout.{design_in}
use Rattle.parts.specs.Store.{held_of}
use Rattle.join.proofs.PartsJoined.{JoinedSoFar}
use Rattle.join.proofs.joining.join_parts.Given as goal

-- the parts passed are joined
abbrev pub invariant-loop-p : goal.invariant-loop-p
invariant-loop-p l =
    JoinedSoFar (design_in l.register.columns l.register.design.now) (held_of l.register.columns l.register.design.now l.register.cells.now) l.p (vec_items l.rows) (cols l.columns)
