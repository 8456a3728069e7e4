use Rattle.std.proofs.Common.{◌-◌, ◌≤◌}
use Rattle.cover.specs.Queued.{queued, spare}
use Rattle.cover.proofs.Keeping.{Turning}
use Rattle.cover.proofs.trimming.drop_redundant.Given as goal

-- each item still to be asked about may take one more place
abbrev pub invariant-loop : goal.invariant-loop
invariant-loop g l =
    Turning g.T.Redundancy.redundant g.met.T.Redundancy.laws (queued l.initial.queue) (queued l.queue) (l.count - l.counter)
    × (l.count - l.counter ≤ spare l.queue)
