use Rattle.std.proofs.Common.{◌≡◌, take}
use Rattle.std.specs.Prelude.{map}
use Rattle.dependencies.specs.Lent.{put_list}
use Rattle.dependencies.proofs.ByteRows.{set_of}
use Rattle.verdict.proofs.design_bytes.put_sets.Given as goal

-- the sets so far are written
abbrev pub invariant-loop-i : goal.invariant-loop-i
invariant-loop-i l = l.row ≡ put_list l.initial.row l.at (map set_of (take l.i l.sets))
