use Rattle.std.proofs.Common.{◌^◌, ◌<◌, refl}
use Rattle.columns.specs.Sets.{cols}
use Rattle.columns.proofs.Within.{shift_some, shift_none, set_wide}
use Rattle.columns.proofs.set.ColumnSet.from_bits.Goals as goal

pub returns-then-bits-width-ne0 : goal.returns-then-bits-width-ne0
returns-then-bits-width-ne0 c = shift_some c.args.bits c.args.width.columns c.if-bits-width-ne0.true

pub returns : goal.returns
unfolding cols
returns c =
    let n = c.args.width.columns in
    let small : c.args.bits < 2 ^ n = shift_none c.args.bits n c.if-bits-width-ne0.false in
    (small, set_wide 0 n 16 c.args.bits small c.args.width.narrow, refl)
