use Rattle.columns.specs.Sets.{cols}
use Rattle.columns.proofs.SetNumbers.{cols_rising}
use Rattle.keys.proofs.Dividing.{rest_within, rest_apart, with_inside, with_apart}
use Rattle.keys.proofs.branch.Branch.divide.Goals as goal

pub invariant_of-with : goal.invariant_of-with
invariant_of-with c =
    let b = c.args.self in
    let s = cols b.chosen in
    let l = cols b.free in
    let t = cols c.with.result in
    let m = cols c.take_first.new.self in
    let i = c.in_ok-c.c.index in
    let e = c.in_ok-c.ensures in
    record {
      inside = with_inside s l t m i e (cols b.target) c.with.ensures b.inside b.within;
      within = rest_within s l t m i e (cols b.target) b.within;
      apart = with_apart s l t m i e c.with.ensures (cols_rising b.free) b.apart;
    }

pub invariant_of-without : goal.invariant_of-without
invariant_of-without c =
    let b = c.args.self in
    let s = cols b.chosen in
    let l = cols b.free in
    let m = cols c.take_first.new.self in
    let i = c.in_ok-c.c.index in
    let e = c.in_ok-c.ensures in
    record { inside = b.inside; within = rest_within s l s m i e (cols b.target) b.within; apart = rest_apart s l s m i e b.apart }
