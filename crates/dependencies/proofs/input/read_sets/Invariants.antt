use Rattle.std.proofs.Common.{◌≡◌, ◌/◌, length}
use Rattle.bounded.specs.Items.{items}
use Rattle.dependencies.specs.Rules.{deps}
use Rattle.dependencies.proofs.Layouts.{Left}
use Rattle.dependencies.proofs.input.read_sets.Given as goal

-- the rules so far, and with what is left they are all
abbrev pub invariant-loop-i : goal.invariant-loop-i
invariant-loop-i l = Left l.width.columns (length l.sets / 2) l.sets l.i (deps (items l.rules)) × (length (items l.rules) ≡ l.i)
