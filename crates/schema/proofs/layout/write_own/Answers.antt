use Rattle.std.proofs.Common.{sym}
use Rattle.schema.proofs.Written.{owned_start, owned_leave, owned_put}
use Rattle.schema.proofs.layout.write_own.Goals as goal

pub loop-rule-init : goal.loop-rule-init
loop-rule-init c = owned_start c.args.rules.now c.args.set c.args.row.now

pub loop-rule-preserved-then-not-lies : goal.loop-rule-preserved-then-not-lies
loop-rule-preserved-then-not-lies c =
    owned_leave c.args.rules.now c.args.set c.args.row.now c.loop-rule.rule-index c.loop-rule.owned c.loop-rule.row c.loop-rule.invariant
    c.rule-item.result c.loop-rule-test.true c.rule-item.is (sym c.if-not-lies.ensures)

pub loop-rule-preserved : goal.loop-rule-preserved
loop-rule-preserved c =
    owned_put c.args.rules.now c.args.set c.args.row.now c.loop-rule.rule-index c.loop-rule.owned c.loop-rule.row c.loop-rule.invariant
    c.rule-item.result c.loop-rule-test.true c.rule-item.is c.bits.result c.bits-in-loop-rule.result c.bits.ensures.1 c.bits-in-loop-rule.ensures.1
    (sym c.if-not-lies.ensures)
