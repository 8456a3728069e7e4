use Rattle.std.proofs.Common.{◌+◌, ◌*◌, ◌≤◌, take}
use Rattle.dependencies.specs.Rules.{deps}
use Rattle.cover.specs.Fine.{AllSplit}
use Rattle.cover.specs.Queued.{queued, spare}
use Rattle.cover.proofs.fine.split.Given as goal

abbrev pub invariant-loop-rule : goal.invariant-loop-rule
invariant-loop-rule l =
    AllSplit (deps l.rules) (deps (take l.rule-index l.rules)) (deps (queued l.queue))
    × (1024 ≤ spare l.queue + l.initial.set.width.columns * l.rule-index)
