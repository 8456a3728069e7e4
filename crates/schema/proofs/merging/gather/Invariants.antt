use Rattle.std.proofs.Common.{take}
use Rattle.columns.specs.Sets.{cols}
use Rattle.dependencies.specs.Rules.{deps}
use Rattle.schema.specs.Gathers.{Gathered}
use Rattle.schema.proofs.merging.gather.Given as goal

abbrev pub invariant-loop-rule : goal.invariant-loop-rule
invariant-loop-rule l = Gathered (deps (take l.rule-index l.cover)) (cols l.left) (cols l.all)
