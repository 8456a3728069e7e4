use Rattle.std.proofs.Common.{◌≡◌, take, vec_items}
use Rattle.columns.specs.Sets.{cols}
use Rattle.parts.specs.Parts.{held_by}
use Rattle.join.specs.Steps.{join_all}
use Rattle.join.proofs.merging.join_part.Given as goal

-- the rows passed are joined
abbrev pub invariant-loop-row : goal.invariant-loop-row
invariant-loop-row l = vec_items l.next ≡ join_all (cols l.shared) (cols l.part.owned) (held_by l.part) (take l.row-index l.rows)
