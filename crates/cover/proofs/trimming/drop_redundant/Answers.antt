use Rattle.std.proofs.Common.{◌≡◌, ℕ, ◌+◌, ◌-◌, ◌<◌, ◌≤◌, length, sym, ap, subst, arith}
use Rattle.cover.specs.Queued.{queued, spare}
use Rattle.cover.specs.declared.queue.Queue.{Queue}
use Rattle.cover.proofs.Keeping.{Turning, turning_start, turning_drop, turning_keep, turning_end, turning_some}
use Rattle.cover.proofs.trimming.drop_redundant.Goals as goal
use Rattle.cover.proofs.trimming.drop_redundant.Goals.{then-not-is_redundant, else-not-is_redundant}

pub loop-init : goal.loop-init
loop-init g c =
    let q = c.args.queue.now in
    let n : length (queued q) ≡ length c.items-count.result.now - 0 = omega (arith, ap length c.items-count.ensures) in (
      subst (λ (k : ℕ). Turning g.T.Redundancy.redundant g.met.T.Redundancy.laws (queued q) (queued q) k) n
          (turning_start g.T.Redundancy.redundant g.met.T.Redundancy.laws (queued q)),
      omega (arith, n, c.requires),
    )

pub returns-in_default : goal.returns-in_default
returns-in_default g c =
    absurd (turning_some g.T.Redundancy.redundant g.met.T.Redundancy.laws _ _ (length c.items-count.result.now - c.loop.counter) c.loop.invariant.0 (omega arith) c.in_default.ensures.0)

pub loop-preserved : goal.loop-preserved
loop-preserved g c =
    let R = g.T.Redundancy.redundant in
    let L = g.met.T.Redundancy.laws in
    let fs = queued c.args.queue.now in
    let t = c.loop.invariant.0 in
    let left : ℕ = length c.items-count.result.now - c.loop.counter in
    let next : ℕ = length c.items-count.result.now - (c.loop.counter + 1) in
    let e : left - 1 ≡ next = omega arith in
    let h : 0 < left = omega arith in
    let front = c.in-Some.ensures in
    let Goal : Queue g.row.T.Denot → Type 0 = λ q. Turning R L fs (queued q) next × (next ≤ spare q) in
    elim c.if-not-is_redundant.branch [
      | then-not-is_redundant w ↦
          subst Goal (sym w.queue-is) (
            subst (λ (k : ℕ). Turning R L fs (queued w.push.new.self) k) e
                (turning_keep R L fs _ left c.in-Some.item (queued c.take_first.new.self) _ t h front.0
                (λ f. w.if-not-is_redundant.ensures (subst (λ v. R v c.in-Some.item) (sym c.items.ensures) f)) w.push.ensures.0),
            omega (arith, w.push.ensures.1, front.1, c.loop.invariant.1),
          )
      | else-not-is_redundant w ↦
          subst Goal (sym w.queue-is) (
            subst (λ (k : ℕ). Turning R L fs (queued c.take_first.new.self) k) e
                (turning_drop R L fs _ left c.in-Some.item (queued c.take_first.new.self) t h front.0
                (subst (λ v. R v c.in-Some.item) c.items.ensures w.if-not-is_redundant.ensures)),
            omega (arith, front.1, c.loop.invariant.1),
          )
    ]

pub returns : goal.returns
returns g c =
    turning_end g.T.Redundancy.redundant g.met.T.Redundancy.laws _ _ (length c.items-count.result.now - c.loop.counter) c.loop.invariant.0 (omega arith)
