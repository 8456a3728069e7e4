use Rattle.dependencies.specs.Rules.{deps}
use Rattle.keys.proofs.Forked.{first_leaf, first_with, first_without}
use Rattle.keys.proofs.first.+first_in.Goals as goal

pub returns-in-None : goal.returns-in-None
returns-in-None t c =
    let h = c.in-Fork.halves in
    first_without (deps c.args.rules.now) c.args.branch h.with h.without c.in-Fork.ensures.0 c.first_in-in-None.result c.in-None.ensures c.first_in-in-None.ensures

pub returns-in-Leaf : goal.returns-in-Leaf
returns-in-Leaf t c = first_leaf (deps c.args.rules.now) c.args.branch c.in-Leaf.ensures.0 c.in-Leaf.ensures.1

pub returns-in-Some : goal.returns-in-Some
returns-in-Some t c =
    let h = c.in-Fork.halves in
    first_with (deps c.args.rules.now) c.args.branch h.with h.without c.in-Fork.ensures.0 c.in-Fork.ensures.1 c.in-Some.key c.in-Some.ensures
