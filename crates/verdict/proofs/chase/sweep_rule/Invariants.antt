use Rattle.std.proofs.Common.{[], ◌∷◌}
use Rattle.dependencies.specs.Rules.{dep}
use Rattle.verdict.specs.Sweeps.{Sweep, RuleQuiet}
use Rattle.verdict.proofs.chase.sweep_rule.Given as goal

abbrev pub invariant-loop-one : goal.invariant-loop-one
invariant-loop-one l = Sweep (dep l.rule ∷ []) (RuleQuiet (dep l.rule) l.initial.rows l.one) l.initial.rows l.rows l.changed
