use Rattle.std.proofs.Common.{[], ◌∷◌}
use Rattle.dependencies.specs.Rules.{dep}
use Rattle.verdict.specs.Sweeps.{Sweep, RowQuiet}
use Rattle.verdict.proofs.chase.sweep_row.Given as goal

abbrev pub invariant-loop-two : goal.invariant-loop-two
invariant-loop-two l = Sweep (dep l.rule ∷ []) (RowQuiet (dep l.rule) l.initial.rows l.two l.one) l.initial.rows l.rows l.changed
