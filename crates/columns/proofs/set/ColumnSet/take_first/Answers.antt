use Rattle.std.proofs.Common.{ℕ, ◌-◌, ◌∷◌, ap, ◌∙◌, zero-add}
use lib.Bits.{bit_and}
use lib.Count.{count_trailing_zeros}
use Rattle.columns.specs.Cols.{set_in}
use Rattle.columns.specs.Sets.{cols}
use Rattle.columns.proofs.Within.{set_none}
use Rattle.columns.proofs.Lowest.{lowest}
use Rattle.columns.proofs.set.ColumnSet.take_first.Goals as goal

pub returns-then-bits-eq0 : goal.returns-then-bits-eq0
unfolding cols
returns-then-bits-eq0 c =
    let none = ap (λ (m : ℕ). set_in 0 16 m) c.if-bits-eq0.true ∙ set_none 0 16 in
    (none, none)

pub returns : goal.returns
unfolding cols
returns c =
    let m = c.args.self.now.bits in
    lowest 0 16 m c.args.self.now.small c.if-bits-eq0.false
    ∙ ap (λ (i : ℕ). i ∷ set_in 0 16 (bit_and m (m - 1))) (zero-add (count_trailing_zeros 16 m))
