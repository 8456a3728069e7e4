-- Which rules follow is known from the two-row tables. Assumes nothing.
use Rattle.std.proofs.Common.{[], ◌∷◌, refl, inl, inr}
use Rattle.dependencies.specs.Tables.{Implied}
use Rattle.dependencies.specs.Theorems.{TwoRowsSuffice}
use Rattle.dependencies.proofs.Tables.{obeys_pair, pair_obeys, fewer_rows, two_rows_in}

pub two_rows_lem : TwoRowsSuffice
unfolding TwoRowsSuffice Implied
two_rows_lem ds d f t o =
    pair_obeys t d (λ r s hr hs.
    obeys_pair (r ∷ s ∷ []) d (f r s (fewer_rows t (r ∷ s ∷ []) ds (two_rows_in t r s hr hs) o)) r s (inl refl) (inr (inl refl)))
