use Rattle.std.proofs.Common.{arith}
use Rattle.parts.proofs.Formed.{whole_says}
use Rattle.parts.proofs.own_part.OwnPart.rest.Goals as goal

pub slice_bounds-result-count : goal.slice_bounds-result-count
slice_bounds-result-count c = omega (arith, c.rules.ensures.is, (whole_says c.args.self.width.columns c.args.self.numbers.now c.args.self.sound).long)

pub slice_bounds-result-start : goal.slice_bounds-result-start
slice_bounds-result-start c = omega (arith, c.rules.ensures.is, (whole_says c.args.self.width.columns c.args.self.numbers.now c.args.self.sound).long)
