use Rattle.std.proofs.Common.{◌≡◌, take}
use Rattle.bounded.specs.Items.{items}
use Rattle.dependencies.proofs.bytes.one_each.Given as goal

abbrev pub invariant-loop-byte : goal.invariant-loop-byte
invariant-loop-byte l = items l.numbers ≡ take l.byte-index l.bytes
