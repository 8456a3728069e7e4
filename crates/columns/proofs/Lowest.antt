-- The lowest column of a set, and the set without it, read off the set's number.
use Rattle.std.proofs.Common.{◌≡◌, ℕ, zero, suc, ◌+◌, ◌-◌, ◌/◌, ◌%◌, ◌^◌, ◌<◌, ◌∷◌, ap, ◌∙◌, inl, inr, arith}
use native.Mathlib.Nat.{two-pow-succ}
use lib.Bits.{bit_and, and_mod, and_shr, and_self}
use lib.Count.{count_trailing_zeros}
use Rattle.columns.specs.Cols.{set_in}
use Rattle.columns.proofs.Compared.{odd_or_even}

-- the digit 1 goes when 1 is taken away, and those above it stay; above a digit 0 the same happens
clear_mod : (m : ℕ) → (m ≡ 0 → ⊥) → bit_and m (m - 1) % 2 ≡ 0
clear_mod m f =
    and_mod m (m - 1) 1
    ∙ elim (odd_or_even m) [
      | inl e ↦ let p : (m - 1) % 2 ≡ 1 = omega arith in ap (λ x. bit_and x ((m - 1) % 2)) e ∙ ap (λ x. bit_and 0 x) p
      | inr e ↦ let p : (m - 1) % 2 ≡ 0 = omega arith in ap (λ x. bit_and x ((m - 1) % 2)) e ∙ ap (λ x. bit_and 1 x) p
    ]

clear_odd : (m : ℕ) → m % 2 ≡ 1 → bit_and m (m - 1) / 2 ≡ m / 2
clear_odd m e = let p : (m - 1) / 2 ≡ m / 2 = omega arith in and_shr m (m - 1) 1 ∙ ap (λ x. bit_and (m / 2) x) p ∙ and_self (m / 2)

clear_even : (m : ℕ) → m % 2 ≡ 0 → (m ≡ 0 → ⊥) → bit_and m (m - 1) / 2 ≡ bit_and (m / 2) (m / 2 - 1)
clear_even m e f = let p : (m - 1) / 2 ≡ m / 2 - 1 = omega arith in and_shr m (m - 1) 1 ∙ ap (λ x. bit_and (m / 2) x) p

pub lowest : (b k m : ℕ) → m < 2 ^ k → (m ≡ 0 → ⊥) → set_in b k m ≡ (b + count_trailing_zeros k m) ∷ set_in b k (bit_and m (m - 1))
unfolding set_in count_trailing_zeros
lowest b zero m h f = absurd (f (omega arith))
lowest b (suc k) m h f =
    elim (odd_or_even m) [
      | inl e ↦
          let g : m / 2 ≡ 0 → ⊥ = λ z. f (omega arith) in
          let s : suc b + count_trailing_zeros k (m / 2) ≡ b + suc (count_trailing_zeros k (m / 2)) = omega arith in
          rw (e, clear_mod m f, clear_even m e f) (lowest (suc b) k (m / 2) (omega (arith, two-pow-succ k)) g ∙ ap (λ (x : ℕ). x ∷ set_in (suc b) k (bit_and (m / 2) (m / 2 - 1))) s)
      | inr e ↦ let s : b ≡ b + 0 = omega arith in rw (e, clear_mod m f, clear_odd m e) (ap (λ (x : ℕ). x ∷ set_in (suc b) k (m / 2)) s)
    ]
