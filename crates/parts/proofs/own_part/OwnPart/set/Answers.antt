use Rattle.std.proofs.Common.{arith}
use Rattle.parts.proofs.Formed.{whole_says}
use Rattle.parts.proofs.own_part.OwnPart.set.Goals as goal

pub bounds-self-0 : goal.bounds-self-0
bounds-self-0 c = omega (arith, (whole_says c.args.self.width.columns c.args.self.numbers.now c.args.self.sound).long)
