use Rattle.std.proofs.Common.{◌≡◌, ◌+◌, length}
use Rattle.columns.specs.Sets.{cols}
use Rattle.dependencies.specs.Rules.{dep, deps}
use Rattle.cover.specs.Fine.{Splitting}
use Rattle.cover.specs.Queued.{queued, spare}
use Rattle.cover.proofs.fine.split_rule.Given as goal

abbrev pub invariant-loop-b : goal.invariant-loop-b
invariant-loop-b l =
    Splitting (deps l.rules) (dep l.rule) (cols l.todo) (deps (queued l.initial.queue)) (deps (queued l.queue))
    × (spare l.queue + length (cols l.initial.todo) ≡ spare l.initial.queue + length (cols l.todo))

abbrev pub decreases-loop-b : goal.decreases-loop-b
decreases-loop-b l = length (cols l.todo)
