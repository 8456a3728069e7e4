use Rattle.std.proofs.Common.{◌≡◌, true, length}
use Rattle.columns.specs.Cols.{has}
use Rattle.columns.specs.Sets.{cols}
use Rattle.dependencies.specs.Closure.{closure}
use Rattle.dependencies.specs.Rules.{deps}
use Rattle.cover.proofs.Narrow.{Narrow}
use Rattle.cover.proofs.fine.reduce.Given as goal

abbrev pub invariant-loop-c : goal.invariant-loop-c
invariant-loop-c l =
    has (closure (deps l.rules) (cols l.initial.todo)) l.b.index ≡ true
    → Narrow (deps l.rules) (cols l.initial.todo) l.b.index (cols l.todo) (cols l.needed)

abbrev pub decreases-loop-c : goal.decreases-loop-c
decreases-loop-c l = length (cols l.todo)
