-- A set of columns as a number: which columns it has, by its binary digits.
use Rattle.std.proofs.Common.{◌≡◌, ℕ, zero, suc, ◌+◌, ◌-◌, ◌*◌, ◌/◌, ◌%◌, ◌^◌, ◌<◌, ◌≤◌, Bool, true, false, not, ◌&&◌, ◌||◌, eqb, [], ◌∷◌, sym, refl, ap, ◌∙◌, inl, inr, zero-add, zero-mul, div-one, arith}
use native.Mathlib.Nat.{two-pow-succ, lt-div-mul-add, div-eq_of_lt}
use lib.Bits.{bit_and, bit_or, and_mod, or_mod, and_shr, or_shr, and_mask, and_le_l}
use Rattle.std.proofs.lemmas.Bool.{eq-eqb, ne_eqb, eqb-true, or_left, both_ways, cases_lt, and_parts}
use Rattle.std.proofs.lemmas.Nat.{shr-shr, mod_below, pow_pos}
use Rattle.columns.specs.Cols.{Cols, pick, has, all_in, columns, set_in}
use Rattle.columns.proofs.Lists.{has_cons, same_test, all_from, all_gives}

-- whether column j is among the k lowest of the number m
unfoldable pub within : ℕ → ℕ → ℕ → Bool
within zero j m = false
within (suc k) zero m = eqb (m % 2) 1
within (suc k) (suc j) m = within k j (m / 2)

-- what holds of the digits 0 and 1 holds of two numbers below 2
pub two : (P : ℕ → ℕ → Type 0) → P 0 0 → P 0 1 → P 1 0 → P 1 1 → (x y : ℕ) → x < 2 → y < 2 → P x y
two P a b c d zero zero h k = a
two P a b c d zero (suc zero) h k = b
two P a b c d (suc zero) zero h k = c
two P a b c d (suc zero) (suc zero) h k = d
two P a b c d (suc (suc x)) y h k = absurd (omega arith)
two P a b c d zero (suc (suc y)) h k = absurd (omega arith)
two P a b c d (suc zero) (suc (suc y)) h k = absurd (omega arith)

-- ---- the list of a number's columns, and its digits
or_same : (t x y : Bool) → x ≡ true → y ≡ false → (t && x || y) ≡ t
or_same true x y p q = or_left x y p
or_same false x y p q = q

or_other : (t x y : Bool) → x ≡ false → (t && x || y) ≡ y
or_other true x y p = ap (λ (z : Bool). z || y) p
or_other false x y p = refl

has_pick : (t : Bool) (b : ℕ) (s : Cols) (d : ℕ) → has (pick t (b ∷ s) s) d ≡ (t && eqb b d || has s d)
has_pick true b s d = has_cons b s d
has_pick false b s d = refl

below : (b k m d : ℕ) → d < b → has (set_in b k m) d ≡ false
unfolding has set_in
below b zero m d h = refl
below b (suc k) m d h =
    has_pick (eqb (m % 2) 1) b (set_in (suc b) k (m / 2)) d
    ∙ or_other (eqb (m % 2) 1) (eqb b d) (has (set_in (suc b) k (m / 2)) d) (ne_eqb b d (λ e. omega arith))
    ∙ below (suc b) k (m / 2) d (omega arith)

has_from : (b k j m : ℕ) → has (set_in b k m) (b + j) ≡ within k j m
unfolding has set_in within
has_from b zero j m = refl
has_from b (suc k) zero m =
    has_pick (eqb (m % 2) 1) b (set_in (suc b) k (m / 2)) (b + 0)
    ∙ or_same (eqb (m % 2) 1) (eqb b (b + 0)) (has (set_in (suc b) k (m / 2)) (b + 0)) (eq-eqb b (b + 0) (omega arith)) (below (suc b) k (m / 2) (b + 0) (omega arith))
has_from b (suc k) (suc j) m =
    let e : b + suc j ≡ suc b + j = omega arith in
    has_pick (eqb (m % 2) 1) b (set_in (suc b) k (m / 2)) (b + suc j)
    ∙ or_other (eqb (m % 2) 1) (eqb b (b + suc j)) (has (set_in (suc b) k (m / 2)) (b + suc j)) (ne_eqb b (b + suc j) (λ e. omega arith))
    ∙ ap (λ (d : ℕ). has (set_in (suc b) k (m / 2)) d) e ∙ has_from (suc b) k j (m / 2)

-- THE LINK: the list that a number stands for has exactly the columns of its digits
pub has_set : (k m j : ℕ) → has (set_in 0 k m) j ≡ within k j m
has_set k m j = ap (λ (d : ℕ). has (set_in 0 k m) d) (sym (zero-add j)) ∙ has_from 0 k j m

-- ---- the operations, digit by digit
pub within_or : (k j a b : ℕ) → within k j (bit_or a b) ≡ (within k j a || within k j b)
unfolding within
within_or zero j a b = refl
within_or (suc k) zero a b =
    ap (λ (x : ℕ). eqb x 1) (or_mod a b 1)
    ∙ two (λ x y. eqb (bit_or x y) 1 ≡ (eqb x 1 || eqb y 1)) refl refl refl refl (a % 2) (b % 2) (mod_below a 2 (omega arith)) (mod_below b 2 (omega arith))
within_or (suc k) (suc j) a b = ap (λ (x : ℕ). within k j x) (or_shr a b 1) ∙ within_or k j (a / 2) (b / 2)

pub within_and : (k j a b : ℕ) → within k j (bit_and a b) ≡ (within k j a && within k j b)
unfolding within
within_and zero j a b = refl
within_and (suc k) zero a b =
    ap (λ (x : ℕ). eqb x 1) (and_mod a b 1)
    ∙ two (λ x y. eqb (bit_and x y) 1 ≡ (eqb x 1 && eqb y 1)) refl refl refl refl (a % 2) (b % 2) (mod_below a 2 (omega arith)) (mod_below b 2 (omega arith))
within_and (suc k) (suc j) a b = ap (λ (x : ℕ). within k j x) (and_shr a b 1) ∙ within_and k j (a / 2) (b / 2)

pub within_none : (k j : ℕ) → within k j 0 ≡ false
unfolding within
within_none zero j = refl
within_none (suc k) zero = refl
within_none (suc k) (suc j) = within_none k j

-- past the k lowest there is none
pub within_past : (k j m : ℕ) → k ≤ j → within k j m ≡ false
unfolding within
within_past zero j m h = refl
within_past (suc k) zero m h = absurd (omega arith)
within_past (suc k) (suc j) m h = within_past k j (m / 2) (omega arith)

-- a digit by a shift
pub within_shift : (k j m : ℕ) → j < k → within k j m ≡ eqb (m / 2 ^ j % 2) 1
unfolding within
within_shift zero j m h = absurd (omega arith)
within_shift (suc k) zero m h = ap (λ (x : ℕ). eqb (x % 2) 1) (sym (div-one m))
within_shift (suc k) (suc j) m h =
    let e : 1 + j ≡ suc j = omega arith in
    within_shift k j (m / 2) (omega arith) ∙ ap (λ (x : ℕ). eqb (x % 2) 1) (shr-shr m 1 j ∙ ap (λ (x : ℕ). m / 2 ^ x) e)

-- all but the columns of b
pub within_but : (k j a b : ℕ) → b < 2 ^ k → (within k j a && within k j (2 ^ k - 1 - b)) ≡ (within k j a && not (within k j b))
unfolding within
within_but zero j a b h = refl
within_but (suc k) zero a b h =
    let e : (2 ^ suc k - 1 - b) % 2 ≡ 1 - b % 2 = omega (arith, two-pow-succ k) in
    ap (λ (x : ℕ). eqb (a % 2) 1 && eqb x 1) e
    ∙ two (λ x y. (eqb x 1 && eqb (1 - y) 1) ≡ (eqb x 1 && not (eqb y 1))) refl refl refl refl (a % 2) (b % 2) (mod_below a 2 (omega arith)) (mod_below b 2 (omega arith))
within_but (suc k) (suc j) a b h =
    let e : (2 ^ suc k - 1 - b) / 2 ≡ 2 ^ k - 1 - b / 2 = omega (arith, two-pow-succ k) in
    ap (λ (x : ℕ). within k j (a / 2) && within k j x) e ∙ within_but k j (a / 2) (b / 2) (omega (arith, two-pow-succ k))

-- numbers with the same digits are equal
pub within_equal : (k a b : ℕ) → a < 2 ^ k → b < 2 ^ k → ((j : ℕ) → within k j a ≡ within k j b) → a ≡ b
unfolding within
within_equal zero a b h i f = omega arith
within_equal (suc k) a b h i f =
    let e : a / 2 ≡ b / 2 = within_equal k (a / 2) (b / 2) (omega (arith, two-pow-succ k)) (omega (arith, two-pow-succ k)) (λ j. f (suc j)) in
    let d : a % 2 ≡ b % 2 = two (λ x y. eqb x 1 ≡ eqb y 1 → x ≡ y) (λ _. refl) (λ p. absurd (both_ways false refl p)) (λ p. absurd (both_ways false refl (sym p))) (λ _. refl)
    (a % 2) (b % 2) (mod_below a 2 (omega arith)) (mod_below b 2 (omega arith)) (f 0) in
    omega arith

-- ---- the same of the lists
pub has_or : (k a b j : ℕ) → has (set_in 0 k (bit_or a b)) j ≡ (has (set_in 0 k a) j || has (set_in 0 k b) j)
has_or k a b j = simp has_set (within_or k j a b)

pub has_and : (k a b j : ℕ) → has (set_in 0 k (bit_and a b)) j ≡ (has (set_in 0 k a) j && has (set_in 0 k b) j)
has_and k a b j = simp has_set (within_and k j a b)

pub has_but : (k a b j : ℕ) → b < 2 ^ k → has (set_in 0 k (bit_and a (2 ^ k - 1 - b))) j ≡ (has (set_in 0 k a) j && not (has (set_in 0 k b) j))
has_but k a b j h = simp has_set (within_and k j a (2 ^ k - 1 - b) ∙ within_but k j a b h)

pub has_shift : (k m j : ℕ) → j < k → has (set_in 0 k m) j ≡ eqb (bit_and (m / 2 ^ j) 1) 1
has_shift k m j h = has_set k m j ∙ within_shift k j m h ∙ ap (λ (x : ℕ). eqb x 1) (sym (and_mask (m / 2 ^ j) 1))

pub has_past : (k m j : ℕ) → k ≤ j → has (set_in 0 k m) j ≡ false
has_past k m j h = has_set k m j ∙ within_past k j m h

-- numbers that stand for the same columns are equal
pub set_equal : (k a b : ℕ) → a < 2 ^ k → b < 2 ^ k → ((j : ℕ) → has (set_in 0 k a) j ≡ has (set_in 0 k b) j) → a ≡ b
set_equal k a b h i f = within_equal k a b h i (λ j. sym (has_set k a j) ∙ f j ∙ has_set k b j)

and_absorbs : (x y : Bool) → (x ≡ true → y ≡ true) → (x && y) ≡ x
and_absorbs true y f = f refl
and_absorbs false y f = refl

pub subset_test : (k a b : ℕ) → a < 2 ^ k → eqb (bit_and a b) a ≡ all_in (set_in 0 k a) (set_in 0 k b)
subset_test k a b h =
    same_test (eqb (bit_and a b) a) (all_in (set_in 0 k a) (set_in 0 k b))
    (λ e. all_from (set_in 0 k a) (set_in 0 k b) (λ c p.
    (and_parts (has (set_in 0 k a) c) (has (set_in 0 k b) c)
    (sym (has_and k a b c) ∙ ap (λ (x : ℕ). has (set_in 0 k x) c) (eqb-true (bit_and a b) a e) ∙ p)).1))
    (λ e. eq-eqb (bit_and a b) a (set_equal k (bit_and a b) a (omega (arith, and_le_l a b)) h (λ c.
    has_and k a b c ∙ and_absorbs (has (set_in 0 k a) c) (has (set_in 0 k b) c) (all_gives (set_in 0 k a) (set_in 0 k b) e c))))

-- ---- lists as such
pub set_none : (b k : ℕ) → set_in b k 0 ≡ []
unfolding set_in
set_none b zero = refl
set_none b (suc k) = set_none (suc b) k

-- a table with more columns changes nothing
pub set_wide : (b n k m : ℕ) → m < 2 ^ n → n ≤ k → set_in b k m ≡ set_in b n m
unfolding set_in
set_wide b zero k m h i = let e : m ≡ 0 = omega arith in ap (λ (x : ℕ). set_in b k x) e ∙ set_none b k
set_wide b (suc n) zero m h i = absurd (omega arith)
set_wide b (suc n) (suc k) m h i =
    ap (λ (s : Cols). pick (eqb (m % 2) 1) (b ∷ s) s) (set_wide (suc b) n k (m / 2) (omega (arith, two-pow-succ n)) (omega arith))

pub set_full : (b n k : ℕ) → n ≤ k → set_in b k (2 ^ n - 1) ≡ columns b n
unfolding set_in columns
set_full b zero k i = set_none b k
set_full b (suc n) zero i = absurd (omega arith)
set_full b (suc n) (suc k) i =
    let d : (2 ^ suc n - 1) % 2 ≡ 1 = omega (arith, two-pow-succ n, pow_pos n) in
    let e : (2 ^ suc n - 1) / 2 ≡ 2 ^ n - 1 = omega (arith, two-pow-succ n, pow_pos n) in
    rw (d, e) (ap (λ (s : Cols). b ∷ s) (set_full (suc b) n k (omega arith)))

pub shift_none : (m k : ℕ) → m / 2 ^ k ≡ 0 → m < 2 ^ k
shift_none m k e = omega (arith, lt-div-mul-add {a = m} {b = 2 ^ k} (pow_pos k), ap (λ (q : ℕ). q * 2 ^ k) e, zero-mul (2 ^ k))

pub shift_some : (m k : ℕ) → (m / 2 ^ k ≡ 0 → ⊥) → 2 ^ k ≤ m
shift_some m k f = elim (cases_lt m (2 ^ k)) [ inl h ↦ absurd (f (div-eq_of_lt h)) | inr h ↦ h ]
