use Rattle.std.proofs.Common.{sym}
use Rattle.columns.specs.Sets.{cols}
use Rattle.dependencies.specs.Rules.{deps}
use Rattle.cover.proofs.Narrow.{narrow_leave, narrow_keep, narrow_end}
use Rattle.cover.proofs.fine.reduce.Goals as goal

pub loop-c-preserved-then-fixes : goal.loop-c-preserved-then-fixes
loop-c-preserved-then-fixes c h =
    narrow_leave (deps c.args.rules.now) (cols c.args.left) c.args.b.index c.in-Some.c.index (cols c.loop-c.todo) (cols c.take_first.new.self)
    (cols c.loop-c.needed) (cols c.without-less.result) c.in-Some.ensures (c.loop-c.invariant h) c.without-less.ensures (sym c.if-fixes.ensures)

pub loop-c-preserved : goal.loop-c-preserved
loop-c-preserved c h =
    narrow_keep (deps c.args.rules.now) (cols c.args.left) c.args.b.index c.in-Some.c.index (cols c.loop-c.todo) (cols c.take_first.new.self)
    (cols c.loop-c.needed) (cols c.without-less.result) c.in-Some.ensures (c.loop-c.invariant h) c.without-less.ensures (sym c.if-fixes.ensures)

pub returns : goal.returns
returns c h =
    narrow_end (deps c.args.rules.now) (cols c.args.left) c.args.b.index (cols c.loop-c.todo) (cols c.loop-c.needed) c.in_default.ensures.0 (c.loop-c.invariant h)
