use Rattle.dependencies.specs.Rules.{deps}
use Rattle.verdict.proofs.Sweeping.{chased_then}
use Rattle.verdict.proofs.chase.chase.Goals as goal

pub loop-preserved : goal.loop-preserved
loop-preserved c = chased_then (deps c.args.rules.now) c.args.rows.now c.loop.rows c.sweep.new.rows c.loop.invariant c.sweep.ensures.steps
