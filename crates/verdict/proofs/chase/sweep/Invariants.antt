use Rattle.std.proofs.Common.{◌⊎◌, length, drop}
use Rattle.columns.specs.Members.{In}
use Rattle.dependencies.specs.Rules.{deps}
use Rattle.dependencies.specs.Tables.{Dep}
use Rattle.verdict.specs.Sweeps.{Sweep, RuleQuiet}
use Rattle.verdict.proofs.chase.sweep.Given as goal

-- each rule is still to come, or the table is quiet under it
abbrev pub invariant-loop-rule : goal.invariant-loop-rule
invariant-loop-rule l =
    Sweep (deps l.rules)
    ((d : Dep) → In d (deps l.rules) → In d (deps (drop l.rule-index l.rules)) ⊎ RuleQuiet d l.initial.rows (length l.initial.rows)) l.initial.rows
    l.rows l.changed
