use Rattle.std.proofs.Common.{ℕ, ◌-◌, ap, ◌∙◌, arith}
use Rattle.std.proofs.lemmas.Nat.{one_shl}
use Rattle.columns.specs.Cols.{set_in}
use Rattle.columns.specs.Sets.{cols}
use Rattle.columns.proofs.Within.{set_full}
use Rattle.columns.proofs.set.ColumnSet.all.Goals as goal

pub returns : goal.returns
unfolding cols
returns c =
    let n = c.args.width.columns in
    ap (λ (m : ℕ). set_in 0 16 (m - 1)) (one_shl n 32 (omega arith)) ∙ set_full 0 n 16 c.args.width.narrow
