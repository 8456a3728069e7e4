use Rattle.std.proofs.Common.{ℕ, ap, ◌∙◌}
use Rattle.columns.specs.Cols.{set_in}
use Rattle.parts.proofs.Formed.{low_set, low_mask}
use Rattle.parts.proofs.walking.set_of.Goals as goal

pub returns : goal.returns
returns c =
    let e = low_mask c.args.bits c.columns.result c.args.width.columns c.columns.ensures c.args.width.narrow in
    let w = rw c.unwrap.ensures at c.from_bits.ensures in
    w.1 ∙ ap (λ (k : ℕ). set_in 0 c.args.width.columns k) e ∙ low_set 0 c.args.width.columns c.args.bits
