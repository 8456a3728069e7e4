-- Where rows stand, and cells of lists that were put together.
use Rattle.std.proofs.Common.{◌≡◌, ℕ, suc, ◌+◌, ◌-◌, ◌*◌, ◌<◌, ◌≤◌, List, length, get_or, set, ap, ◌∙◌, inl, inr, add-mul, one-mul, arith}
use Rattle.std.proofs.lemmas.Nat.{mul-le}
use Rattle.std.proofs.lemmas.Bool.{cases_lt}
use Rattle.std.proofs.lemmas.List.{get_or-set_same, get_or_past, length-set}

pub next_row : (i w : ℕ) → (i + 1) * w ≡ i * w + w
next_row i w = add-mul i 1 w ∙ ap (λ (z : ℕ). i * w + z) (one-mul w)

pub row_fits : (i k w : ℕ) → i < k → i * w + w ≤ k * w
row_fits i k w h = omega (arith, mul-le (i + 1) w k w (omega arith) (omega arith), next_row i w)

pub rows_fit : (i k w : ℕ) → i ≤ k → i * w ≤ k * w
rows_fit i k w h = mul-le i w k w h (omega arith)

pub suc_row : (i w : ℕ) → suc i * w ≡ w + i * w
suc_row i w = let a : suc i ≡ i + 1 = omega arith in ap (λ (z : ℕ). z * w) a ∙ next_row i w ∙ omega arith

pub rest_rows : (i k w : ℕ) → i < k → k * w ≡ i * w + (w + (k - i - 1) * w)
rest_rows i k w l =
    let e : k ≡ i + suc (k - i - 1) = omega arith in
    ap (λ (z : ℕ). z * w) e ∙ add-mul i (suc (k - i - 1)) w ∙ ap (λ (z : ℕ). i * w + z) (suc_row (k - i - 1) w)

-- what is written at a place is 0 there, also past the end
pub zero_there : (xs : List ℕ) (n : ℕ) → get_or (set xs n 0) n 0 ≡ 0
zero_there xs n =
    elim (cases_lt n (length xs)) [
      | inl l ↦ get_or-set_same xs n 0 0 l
      | inr l ↦ get_or_past (set xs n 0) n 0 (simp length-set l)
    ]
