use Rattle.std.proofs.Common.{◌≡◌, not, length}
use Rattle.columns.specs.Cols.{less}
use Rattle.columns.specs.Every.{every}
use Rattle.columns.specs.Sets.{cols}
use Rattle.dependencies.specs.Closure.{does_fix}
use Rattle.dependencies.specs.Rules.{deps}
use Rattle.keys.specs.Keys.{is_all_needed}
use Rattle.keys.proofs.fixing.is_needed.Given as goal

abbrev pub invariant-loop-c : goal.invariant-loop-c
invariant-loop-c l =
    is_all_needed (deps l.rules) (cols l.right) (cols l.left)
    ≡ every (cols l.rest) (λ a. not (does_fix (deps l.rules) (less (cols l.left) a) (cols l.right)))

abbrev pub decreases-loop-c : goal.decreases-loop-c
decreases-loop-c l = length (cols l.rest)
