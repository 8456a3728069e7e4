use Rattle.std.proofs.Common.{get_or, drop, arith}
use Rattle.columns.specs.Sets.{cols}
use Rattle.parts.proofs.Formed.{whole_says}
use Rattle.parts.proofs.Breaking.{rules_length, rule_here}
use Rattle.parts.proofs.own_part.OwnPart.rule.Goals as goal

pub bounds-self-q : goal.bounds-self-q
bounds-self-q c =
    omega (
      arith,
      rules_length c.args.self.width.columns (get_or c.args.self.numbers.now 1 0) (drop 2 c.args.self.numbers.now),
      (whole_says c.args.self.width.columns c.args.self.numbers.now c.args.self.sound).long,
    )

pub bounds-self-q-2 : goal.bounds-self-q-2
bounds-self-q-2 c =
    omega (
      arith,
      rules_length c.args.self.width.columns (get_or c.args.self.numbers.now 1 0) (drop 2 c.args.self.numbers.now),
      (whole_says c.args.self.width.columns c.args.self.numbers.now c.args.self.sound).long,
    )

pub returns : goal.returns
returns c =
    rule_here c.args.self.width.columns (get_or c.args.self.numbers.now 1 0) c.args.self.numbers.now c.args.q
    (omega (arith, rules_length c.args.self.width.columns (get_or c.args.self.numbers.now 1 0) (drop 2 c.args.self.numbers.now)))
    (cols c.set_of-left.result) (cols c.set_of-right.result) c.set_of-left.ensures c.set_of-right.ensures
