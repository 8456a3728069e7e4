use Rattle.std.proofs.Common.{sym}
use Rattle.columns.specs.Sets.{cols}
use Rattle.dependencies.specs.Rules.{dep, deps}
use Rattle.dependencies.proofs.Refuting.{refuted, implied}
use Rattle.dependencies.proofs.implied.follows.Goals as goal

pub returns-then-is_subset : goal.returns-then-is_subset
returns-then-is_subset c =
    implied (deps c.args.rules.now) (dep c.args.rule) (cols c.closure-fixed.result) c.closure-fixed.ensures (sym c.if-is_subset.ensures)

pub returns-else-is_subset : goal.returns-else-is_subset
returns-else-is_subset c =
    refuted (deps c.args.rules.now) (dep c.args.rule) (cols c.closure-fixed.result) c.closure-fixed.ensures (sym c.if-is_subset.ensures)
