-- A set of columns and its number: which columns there are, and when two sets are one.
use Rattle.std.proofs.Common.{◌≡◌, ℕ, zero, suc, ◌/◌, ◌^◌, ◌<◌, ◌≤◌, true, false, ◌⊎◌, sym, refl, ap, ◌∙◌, inl, inr, arith}
use native.Mathlib.Nat.{two-pow-succ}
use Rattle.std.proofs.lemmas.Nat.{pow_pos}
use Rattle.std.proofs.lemmas.Bool.{cases_Bool, cases_lt, both_ways}
use Rattle.columns.specs.Cols.{Rising, has, set_in, Same}
use Rattle.columns.specs.Order.{before}
use Rattle.columns.specs.Sets.{cols}
use Rattle.columns.specs.declared.set.ColumnSet.{ColumnSet}
use Rattle.columns.proofs.Within.{set_wide, within, within_equal, within_none, has_set, has_past, set_equal}
use Rattle.columns.proofs.Rising.{set_rising}
use Rattle.columns.proofs.InOrder.{before_total}

pub cols_rising : (s : ColumnSet) → Rising (cols s)
unfolding cols
cols_rising s = set_rising 0 16 s.bits

pub cols_bits : (s : ColumnSet) → cols s ≡ set_in 0 16 s.bits
unfolding cols
cols_bits s = refl

-- as a number of 64 digits it stands for the same
pub cols_wide : (s : ColumnSet) → cols s ≡ set_in 0 64 s.bits
unfolding cols
cols_wide s = sym (set_wide 0 16 64 s.bits s.small (omega arith))

low_digits : (n k m : ℕ) → m < 2 ^ k → ((j : ℕ) → n ≤ j → within k j m ≡ false) → m < 2 ^ n
unfolding within
low_digits zero k m h f = let e : m ≡ 0 = within_equal k m 0 h (pow_pos k) (λ j. f j (omega arith) ∙ sym (within_none k j)) in omega arith
low_digits (suc n) zero m h f = omega (arith, pow_pos (suc n))
low_digits (suc n) (suc k) m h f =
    let l : m / 2 < 2 ^ n = low_digits n k (m / 2) (omega (arith, two-pow-succ k)) (λ j q. f (suc j) (omega arith)) in
    omega (arith, two-pow-succ n)

-- a set of columns below n is a number below 2 ^ n, and stands for the same there
pub bits_below : (s : ColumnSet) (n : ℕ) → ((c : ℕ) → has (cols s) c ≡ true → c < n) → s.bits < 2 ^ n
unfolding cols
bits_below s n f =
    low_digits n 16 s.bits s.small (λ j h.
    elim (cases_Bool (within 16 j s.bits)) [
      | inl e ↦ let l : j < n = f j (has_set 16 s.bits j ∙ e) in absurd (omega arith)
      | inr e ↦ e
    ])

pub cols_narrow : (s : ColumnSet) (n : ℕ) → n ≤ 16 → s.bits < 2 ^ n → cols s ≡ set_in 0 n s.bits
unfolding cols
cols_narrow s n h l = set_wide 0 n 16 s.bits l h

pub cols_below : (s : ColumnSet) (c : ℕ) → has (cols s) c ≡ true → c < 16
unfolding cols
cols_below s c h = elim (cases_lt c 16) [ inl p ↦ p | inr p ↦ absurd (both_ways (has (cols s) c) (has_past 16 s.bits c p) h) ]

-- sets with the same columns are equal
pub same_bits : (s t : ColumnSet) → Same (cols s) (cols t) → s.bits ≡ t.bits
unfolding cols
same_bits s t f = set_equal 16 s.bits t.bits s.small t.small f

pub same_cols : (s t : ColumnSet) → s.bits ≡ t.bits → Same (cols s) (cols t)
unfolding cols
same_cols s t e c = ap (λ (m : ℕ). has (set_in 0 16 m) c) e

-- of two sets one stands before the other, or they are one number
pub one_before : (s t : ColumnSet) → (before (cols s) (cols t) ≡ true) ⊎ ((s.bits ≡ t.bits) ⊎ (before (cols t) (cols s) ≡ true))
one_before s t =
    elim (before_total (cols s) (cols t)) [
      | inl b ↦ inl b
      | inr r ↦ elim r [ inl e ↦ inr (inl (same_bits s t (λ c. ap (λ v. has v c) e))) | inr b ↦ inr (inr b) ]
    ]
