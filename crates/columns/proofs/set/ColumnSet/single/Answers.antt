use Rattle.std.proofs.Common.{ℕ, [], ◌∷◌, ap, ◌∙◌, zero-add}
use Rattle.std.proofs.lemmas.Nat.{one_shl}
use Rattle.columns.specs.Cols.{set_in}
use Rattle.columns.specs.Sets.{cols}
use Rattle.columns.proofs.Rising.{set_one}
use Rattle.columns.proofs.set.ColumnSet.single.Goals as goal

pub returns : goal.returns
unfolding cols
returns c =
    let i = c.args.c.index in
    let small = c.args.c.small in
    ap (λ (m : ℕ). set_in 0 16 m) (one_shl i 16 small) ∙ set_one 0 16 i small ∙ ap (λ (x : ℕ). x ∷ []) (zero-add i)
