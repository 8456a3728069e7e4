use Rattle.std.proofs.Common.{ℕ, ◌<◌, ◌≤◌, get_or, subst}
use Rattle.schema.proofs.PartEnds.{ended_turn, ended_cut, ended_all}
use Rattle.schema.proofs.extents.design_extent.Goals as goal

pub returns-in_err-at : goal.returns-in_err-at
returns-in_err-at c =
    let more : c.loop.counter < get_or c.args.lent.now 0 0 = subst (λ (k : ℕ). c.loop.counter < k) (c.in_ok-parts.ensures.item.3.1 0) c.loop-test.true in
    rw c.from_residual-in_err-at.ensures (ended_cut c.args.lent.now c.loop.counter c.loop.at c.loop.invariant more c.in_err-at.ensures)

pub loop-preserved : goal.loop-preserved
loop-preserved c =
    let more : c.loop.counter < get_or c.args.lent.now 0 0 = subst (λ (k : ℕ). c.loop.counter < k) (c.in_ok-parts.ensures.item.3.1 0) c.loop-test.true in
    ended_turn c.args.lent.now c.loop.counter c.loop.at c.loop.invariant more _ c.in_ok-at.ensures.0 c.in_ok-at.ensures.1

pub returns : goal.returns
returns c =
    ended_all c.args.lent.now c.loop.counter c.loop.at c.loop.invariant (subst (λ (k : ℕ). k ≤ c.loop.counter) (c.in_ok-parts.ensures.item.3.1 0) c.loop-test.false)
