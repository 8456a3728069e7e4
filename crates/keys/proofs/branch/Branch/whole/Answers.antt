use Rattle.columns.specs.Sets.{cols}
use Rattle.keys.proofs.Dividing.{apart_none, none_inside, inside_self}
use Rattle.keys.proofs.branch.Branch.whole.Goals as goal

pub invariant_of-result : goal.invariant_of-result
invariant_of-result c =
    let p = cols c.args.target in
    let s = cols c.empty.result in
    record { inside = none_inside s p c.empty.ensures; within = inside_self p; apart = apart_none s p c.empty.ensures }
