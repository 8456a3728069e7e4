use Rattle.std.proofs.Common.{refl, ap, length, arith, rules}
use Rattle.parts.proofs.Walks.{front_stands, next_stands, parts_turn}
use Rattle.parts.proofs.walking.PartsLeftIterator.next.Goals as goal

pub invariant_of-part : goal.invariant_of-part
invariant_of-part c =
    let left = c.args.self.now in
    record { sound = front_stands left.width.columns left.count left.place left.numbers.now (omega arith) left.sound }

pub invariant_of-self : goal.invariant_of-self
invariant_of-self c =
    let left = c.args.self.now in
    record { sound = next_stands left.width.columns left.count left.place left.numbers.now c.rest-self.result.now (omega arith) left.sound c.rest-self.ensures }

pub returns-clause-steps : goal.returns-clause-steps
returns-clause-steps c =
    let left = c.args.self.now in
    record {
      parts = parts_turn left.width.columns left.count left.place left.numbers.now c.rest-self.result.now (omega arith) left.sound c.rest-self.ensures;
      here = omega arith;
      place = refl;
      next = refl;
      count = refl;
      width = refl;
      same = refl;
    }

pub returns-clause-goes : goal.returns-clause-goes
returns-clause-goes c =
    let left = c.args.self.now in
    let fewer = ap length (parts_turn left.width.columns left.count left.place left.numbers.now c.rest-self.result.now (omega arith) left.sound c.rest-self.ensures) in
    search rules
