use Rattle.std.proofs.Common.{◌≡◌, ◌++◌, vec_items}
use Rattle.columns.specs.Sets.{cols}
use Rattle.parts.specs.Parts.{held_by}
use Rattle.join.specs.Steps.{join_first}
use Rattle.join.proofs.merging.join_row.Given as goal

-- the looks passed are joined
abbrev pub invariant-loop-i : goal.invariant-loop-i
invariant-loop-i l = vec_items l.rows ≡ vec_items l.initial.rows ++ join_first (cols l.shared) (cols l.part.owned) (held_by l.part) l.row l.i
