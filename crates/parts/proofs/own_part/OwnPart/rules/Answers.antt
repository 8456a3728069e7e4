use Rattle.std.proofs.Common.{get_or, drop, sym, arith, rules}
use Rattle.parts.proofs.Formed.{whole_says}
use Rattle.parts.proofs.Breaking.{rules_length}
use Rattle.parts.proofs.own_part.OwnPart.rules.Goals as goal

pub bounds-self-1 : goal.bounds-self-1
bounds-self-1 c = omega (arith, (whole_says c.args.self.width.columns c.args.self.numbers.now c.args.self.sound).long)

pub overflow_cast-result : goal.overflow_cast-result
overflow_cast-result c = let f = (whole_says c.args.self.width.columns c.args.self.numbers.now c.args.self.sound).few in search rules

pub returns-clause-all : goal.returns-clause-all
returns-clause-all c = sym (rules_length c.args.self.width.columns (get_or c.args.self.numbers.now 1 0) (drop 2 c.args.self.numbers.now))
