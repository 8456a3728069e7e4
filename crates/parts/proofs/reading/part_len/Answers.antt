use Rattle.std.proofs.Common.{◌≡◌, false, arith, rules}
use Rattle.parts.specs.Store.{whole_part}
use Rattle.parts.proofs.Formed.{too_many, not_there, part_stands}
use Rattle.parts.proofs.reading.part_len.Goals as goal

pub returns-in_err-len : goal.returns-in_err-len
returns-in_err-len c =
    let h : whole_part c.args.width.columns c.args.numbers.now ≡ false = not_there c.args.width.columns c.args.numbers.now c.in_err-len.ensures in
    search rules

pub returns-then-len-gt-LONGEST_PART : goal.returns-then-len-gt-LONGEST_PART
returns-then-len-gt-LONGEST_PART c =
    too_many c.args.width.columns c.args.numbers.now (omega (arith, c.in_ok-len.ensures.1, c.if-len-gt-LONGEST_PART.true))

pub returns : goal.returns
returns c = (
  part_stands c.args.width.columns c.args.numbers.now (omega (arith, c.in_ok-len.ensures.1, c.if-len-gt-LONGEST_PART.false)) c.in_ok-len.ensures.0,
  c.in_ok-len.ensures.1,
  c.in_ok-len.ensures.2,
)
