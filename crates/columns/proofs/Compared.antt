-- The order of two sets of columns, read off their numbers: at the lowest column that only one of them has.
use Rattle.std.proofs.Common.{◌≡◌, ℕ, zero, suc, ◌+◌, ◌/◌, ◌%◌, ◌^◌, ◌<◌, Bool, false, not, eqb, ◌⊎◌, [], ◌∷◌, sym, refl, ap, ◌∙◌, inl, inr, div-one, arith}
use native.Mathlib.Nat.{two-pow-succ}
use lib.Bits.{bit_xor, xor_mod, xor_shr, xor_lt, xor_add_and, and_le_l, and_le_r}
use lib.Count.{count_trailing_zeros, under}
use Rattle.std.proofs.lemmas.Bool.{eq-eqb, ne_eqb, eqb-true, lt-ltb, le-ltb}
use Rattle.std.proofs.lemmas.Nat.{shr-shr, mod_below}
use Rattle.columns.specs.Cols.{Cols, pick, set_in}
use Rattle.columns.specs.Order.{before}
use Rattle.columns.proofs.Lists.{same_test}
use Rattle.columns.proofs.Within.{two}

-- x and y from the lowest column on that they do not share: what is told where x has that column, and where y has it
abbrev pub tell : ℕ → ℕ → Bool
tell x y = pick (eqb (x % 2) 1) (not (eqb y 0)) (eqb x 0)

pub odd_or_even : (m : ℕ) → (m % 2 ≡ 0) ⊎ (m % 2 ≡ 1)
odd_or_even m = two (λ u v. (u ≡ 0) ⊎ (u ≡ 1)) (inl refl) (inl refl) (inr refl) (inr refl) (m % 2) 0 (mod_below m 2 (omega arith)) (omega arith)

eqb_half : (m : ℕ) → m % 2 ≡ 0 → eqb (m / 2) 0 ≡ eqb m 0
eqb_half m e =
    same_test (eqb (m / 2) 0) (eqb m 0) (λ h. eq-eqb m 0 (omega (arith, eqb-true (m / 2) 0 h))) (λ h. eq-eqb (m / 2) 0 (omega (arith, eqb-true m 0 h)))

-- a set whose first column is lower comes first, unless the other is empty
ahead : (b d k m : ℕ) (xs : Cols) → b < d → m < 2 ^ k → before (b ∷ xs) (set_in d k m) ≡ not (eqb m 0)
unfolding before set_in
ahead b d zero m xs h i = ap not (sym (eq-eqb m 0 (omega arith)))
ahead b d (suc k) m xs h i =
    elim (odd_or_even m) [
      | inl e ↦ rw e (ahead b (suc d) k (m / 2) xs (omega arith) (omega (arith, two-pow-succ k)) ∙ ap not (eqb_half m e))
      | inr e ↦ rw (e, lt-ltb b d h) (ap not (sym (ne_eqb m 0 (λ z. omega arith))))
    ]

behind : (b d k m : ℕ) (ys : Cols) → b < d → m < 2 ^ k → before (set_in d k m) (b ∷ ys) ≡ eqb m 0
unfolding before set_in
behind b d zero m ys h i = sym (eq-eqb m 0 (omega arith))
behind b d (suc k) m ys h i =
    elim (odd_or_even m) [
      | inl e ↦ rw e (behind b (suc d) k (m / 2) ys (omega arith) (omega (arith, two-pow-succ k)) ∙ eqb_half m e)
      | inr e ↦ rw (e, le-ltb d b (omega arith), ne_eqb d b (λ z. omega arith)) (sym (ne_eqb m 0 (λ z. omega arith)))
    ]

pub before_self : (xs : Cols) → before xs xs ≡ false
unfolding before
before_self [] = refl
before_self (x ∷ xs) = rw (le-ltb x x (omega arith), eq-eqb x x refl) (before_self xs)

pub xor_none : (x y : ℕ) → bit_xor x y ≡ 0 → x ≡ y
xor_none x y e = omega (arith, xor_add_and x y, and_le_l x y, and_le_r x y)

pub trailing_below : (k x : ℕ) → x < 2 ^ k → (x ≡ 0 → ⊥) → count_trailing_zeros k x < k
unfolding count_trailing_zeros
trailing_below zero x h f = absurd (f (omega arith))
trailing_below (suc k) x h f =
    elim (odd_or_even x) [
      | inl e ↦ rw e (let p = trailing_below k (x / 2) (omega (arith, two-pow-succ k)) (λ z. f (omega arith)) in omega arith)
      | inr e ↦ rw e (omega arith)
    ]

-- THE LINK for the order
pub order : (b k x y : ℕ) → x < 2 ^ k → y < 2 ^ k → (bit_xor x y ≡ 0 → ⊥)
    → before (set_in b k x) (set_in b k y) ≡ tell (x / 2 ^ count_trailing_zeros k (bit_xor x y)) (y / 2 ^ count_trailing_zeros k (bit_xor x y))
unfolding before set_in count_trailing_zeros
order b zero x y h i f = absurd (f (omega (arith, xor_lt 0 x y h i)))
order b (suc k) x y h i f =
    let x' : x / 2 < 2 ^ k = omega (arith, two-pow-succ k) in
    let y' : y / 2 < 2 ^ k = omega (arith, two-pow-succ k) in
    let t : ℕ = count_trailing_zeros k (bit_xor (x / 2) (y / 2)) in
    let s : 1 + t ≡ suc t = omega arith in
    let later : (bit_xor x y % 2 ≡ 0) → before (set_in (suc b) k (x / 2)) (set_in (suc b) k (y / 2)) ≡ tell (x / 2 ^ suc t) (y / 2 ^ suc t)
    = λ z. order (suc b) k (x / 2) (y / 2) x' y' (λ e. f (omega (arith, xor_shr x y 1)))
    ∙ ap (λ (q : ℕ). tell q (y / 2 / 2 ^ t)) (shr-shr x 1 t ∙ ap (λ (q : ℕ). x / 2 ^ q) s)
    ∙ ap (λ (q : ℕ). tell (x / 2 ^ suc t) q) (shr-shr y 1 t ∙ ap (λ (q : ℕ). y / 2 ^ q) s) in
    let at : before (set_in b (suc k) x) (set_in b (suc k) y) ≡ tell (x / 2 ^ under (bit_xor (x % 2) (y % 2)) t) (y / 2 ^ under (bit_xor (x % 2) (y % 2)) t)
    = two (λ u v. x % 2 ≡ u → y % 2 ≡ v → bit_xor x y % 2 ≡ bit_xor u v →
    before (pick (eqb u 1) (b ∷ set_in (suc b) k (x / 2)) (set_in (suc b) k (x / 2))) (pick (eqb v 1) (b ∷ set_in (suc b) k (y / 2)) (set_in (suc b) k (y / 2)))
    ≡ tell (x / 2 ^ under (bit_xor u v) t) (y / 2 ^ under (bit_xor u v) t))
    (λ p q z. later z)
    (λ p q z. behind b (suc b) k (x / 2) _ (omega arith) x' ∙ eqb_half x p ∙ rw (div-one x, p) refl)
    (λ p q z. ahead b (suc b) k (y / 2) _ (omega arith) y' ∙ ap not (eqb_half y q) ∙ rw (div-one x, div-one y, p) refl)
    (λ p q z. rw (le-ltb b b (omega arith), eq-eqb b b refl) (later z))
    (x % 2) (y % 2) (mod_below x 2 (omega arith)) (mod_below y 2 (omega arith)) refl refl (xor_mod x y 1) in
    at ∙ ap (λ (w : ℕ). tell (x / 2 ^ under w t) (y / 2 ^ under w t)) (sym (xor_mod x y 1))
    ∙ ap (λ (w : ℕ). tell (x / 2 ^ under (bit_xor x y % 2) (count_trailing_zeros k w)) (y / 2 ^ under (bit_xor x y % 2) (count_trailing_zeros k w))) (sym (xor_shr x y 1))
