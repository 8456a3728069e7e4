use Rattle.std.proofs.Common.{refl, arith, rules}
use Rattle.parts.proofs.Formed.{readable_says}
use Rattle.parts.proofs.design_parts.DesignParts.count.Goals as goal

pub bounds-self-0 : goal.bounds-self-0
bounds-self-0 c = omega (arith, (readable_says c.args.self.width.columns c.args.self.numbers.now c.args.self.sound).long)

pub overflow_cast-result : goal.overflow_cast-result
overflow_cast-result c = let f = (readable_says c.args.self.width.columns c.args.self.numbers.now c.args.self.sound).few in search rules

pub returns : goal.returns
returns c = record { is = refl; some = (readable_says c.args.self.width.columns c.args.self.numbers.now c.args.self.sound).some }
