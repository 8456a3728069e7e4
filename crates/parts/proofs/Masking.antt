-- What a row looks like in some columns, cell by cell.
use Rattle.std.proofs.Common.{◌≡◌, ℕ, zero, suc, ◌+◌, ◌<◌, [], ◌∷◌, length, get_or, refl, ap, ◌∙◌, arith}
use Rattle.dependencies.specs.Tables.{Row}
use Rattle.columns.specs.Cols.{Cols, has, pick}
use Rattle.parts.specs.Day.{masked}

pub masked_length : (p : Cols) (k : ℕ) (r : Row) → length (masked p k r) ≡ length r
unfolding masked
masked_length p k [] = refl
masked_length p k (x ∷ xs) = ap suc (masked_length p (suc k) xs)

masked_from : (p : Cols) (k : ℕ) (r : Row) (c : ℕ) → c < length r → get_or (masked p k r) c 0 ≡ pick (has p (k + c)) (get_or r c 0) 0
unfolding masked
masked_from p k [] c l = absurd (omega arith)
masked_from p k (x ∷ xs) zero l = ap (λ (z : ℕ). pick (has p z) x 0) (omega arith)
masked_from p k (x ∷ xs) (suc c) l = masked_from p (suc k) xs c (omega arith) ∙ ap (λ (z : ℕ). pick (has p z) (get_or xs c 0) 0) (omega arith)

pub masked_cell : (p : Cols) (r : Row) (c : ℕ) → c < length r → get_or (masked p 0 r) c 0 ≡ pick (has p c) (get_or r c 0) 0
masked_cell p r c l = masked_from p 0 r c l ∙ ap (λ (z : ℕ). pick (has p z) (get_or r c 0) 0) (omega arith)
