use Rattle.std.proofs.Common.{◌≡◌, ◌++◌, take}
use Rattle.std.specs.Prelude.{map}
use Rattle.bounded.specs.Items.{items}
use Rattle.dependencies.proofs.ByteRows.{set_of}
use Rattle.dependencies.proofs.bytes.rule_row.Given as goal

-- the first two numbers, and one for each pair of bytes so far
abbrev pub invariant-loop-set : goal.invariant-loop-set
invariant-loop-set l = items l.numbers ≡ take 2 l.bytes ++ map set_of (take l.set-index l.set-items)
