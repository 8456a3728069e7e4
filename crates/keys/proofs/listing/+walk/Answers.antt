use Rattle.dependencies.specs.Rules.{deps}
use Rattle.keys.proofs.Walking.{walked_leaf, walked_dead, walked_both, walked_cut, walked_stop}
use Rattle.keys.proofs.listing.+walk.Goals as goal

pub returns-in-Leaf : goal.returns-in-Leaf
returns-in-Leaf t c =
    walked_leaf (deps c.args.rules.now) c.args.branch c.args.out.now c.bits.result c.put.result c.put.new.out
    c.bits.ensures.0 c.in-Leaf.ensures.0 c.in-Leaf.ensures.1 c.put.ensures

pub returns-in-Dead : goal.returns-in-Dead
returns-in-Dead t c = walked_dead (deps c.args.rules.now) c.args.branch c.args.out.now c.in-Dead.ensures

pub returns-in_err-count-in-Fork : goal.returns-in_err-count-in-Fork
returns-in_err-count-in-Fork t c =
    let h = c.in-Fork.halves in
    rw c.from_residual.ensures
    (walked_stop (deps c.args.rules.now) c.args.branch h.with h.without c.in-Fork.ensures.0 c.in-Fork.ensures.1
    c.args.out.now c.walk.new.out c.in_err-count-in-Fork.ensures)

pub returns-in_err-more-in-Fork : goal.returns-in_err-more-in-Fork
returns-in_err-more-in-Fork t c =
    let h = c.in-Fork.halves in
    rw c.from_residual-in_err-more-in-Fork.ensures
    (walked_cut (deps c.args.rules.now) c.args.branch h.with h.without c.in-Fork.ensures.0 c.in-Fork.ensures.1
    c.args.out.now c.in_ok-count-in-Fork.count c.walk.new.out c.walk-in-Fork.new.out c.in_ok-count-in-Fork.ensures c.in_err-more-in-Fork.ensures)

pub returns-in_ok-more-in-Fork : goal.returns-in_ok-more-in-Fork
returns-in_ok-more-in-Fork t c =
    let h = c.in-Fork.halves in
    walked_both (deps c.args.rules.now) c.args.branch h.with h.without c.in-Fork.ensures.0 c.in-Fork.ensures.1
    c.args.out.now c.in_ok-count-in-Fork.count c.walk.new.out c.walk-in-Fork.new.out c.in_ok-count-in-Fork.ensures
    c.in_ok-more-in-Fork.more c.in_ok-more-in-Fork.ensures
