use Rattle.std.proofs.Common.{sym}
use Rattle.columns.specs.Sets.{cols}
use Rattle.columns.proofs.SetNumbers.{cols_rising}
use Rattle.dependencies.specs.Rules.{deps}
use Rattle.keys.proofs.Branches.{no_larger, found_here, spares_one, hopeless, none_free}
use Rattle.keys.proofs.pruning.prune.Goals as goal

pub returns-then-is_needed : goal.returns-then-is_needed
returns-then-is_needed c =
    let b = c.args.branch in
    let ds = deps c.args.rules.now in
    let f = sym c.if-fixes.ensures in (
      found_here ds (cols b.target) (cols b.chosen) (cols b.free) (cols_rising b.chosen) b.inside f (sym c.if-is_needed.ensures),
      no_larger ds (cols b.target) (cols b.chosen) (cols b.free) (cols_rising b.chosen) f,
    )

pub returns-else-is_needed : goal.returns-else-is_needed
returns-else-is_needed c =
    let b = c.args.branch in
    spares_one (deps c.args.rules.now) (cols b.target) (cols b.chosen) (cols b.free) (cols_rising b.chosen) (sym c.if-fixes.ensures) (sym c.if-is_needed.ensures)

pub returns-then-not-fixes : goal.returns-then-not-fixes
returns-then-not-fixes c =
    let b = c.args.branch in
    hopeless (deps c.args.rules.now) (cols b.target) (cols b.chosen) (cols b.free) (cols c.union-left.result) c.union-left.ensures (sym c.if-not-fixes.ensures)

pub returns-in-None : goal.returns-in-None
returns-in-None c =
    let b = c.args.branch in
    none_free (deps c.args.rules.now) (cols b.target) (cols b.chosen) (cols b.free) c.in-None.ensures (sym c.if-fixes.ensures)
