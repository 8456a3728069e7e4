use Rattle.std.proofs.Common.{◌≤◌, length, take}
use Rattle.dependencies.specs.Rules.{deps}
use Rattle.schema.specs.Gathers.{OfLeftSide, Holding}
use Rattle.schema.specs.Sets.{sets_in, sets_of}
use Rattle.schema.proofs.designing.merge_left_sides.Given as goal

abbrev pub invariant-loop-rule : goal.invariant-loop-rule
invariant-loop-rule l =
    Holding (OfLeftSide (deps l.rules)) (deps (take l.rule-index l.rules)) (sets_of (sets_in l.sets)) × (length (sets_in l.sets) ≤ l.rule-index)
