-- Each rising list of columns below 64 is the set of a number.
use Rattle.std.proofs.Common.{◌≡◌, ℕ, zero, suc, ◌+◌, ◌*◌, ◌/◌, ◌%◌, ◌<◌, ◌≤◌, List, [], ◌∷◌, ◌++◌, sym, refl, ap, ◌∙◌, subst, inl, inr, arith}
use Rattle.std.proofs.lemmas.Bool.{cases_eq}
use Rattle.columns.specs.Cols.{Cols, Rising, set_in}
use Rattle.columns.specs.Members.{In}
use Rattle.columns.proofs.Rising.{rising_rest, rising_low}
use Rattle.columns.proofs.Within.{set_none}
use Rattle.keys.specs.Listed.{sets}

abbrev Numbered : ℕ → ℕ → Cols → Type 0
Numbered b k cs = (m : ℕ) × (set_in b k m ≡ cs)

put_odd : (b k : ℕ) (cs : Cols) → Numbered (suc b) k cs → Numbered b (suc k) (b ∷ cs)
unfolding set_in
put_odd b k cs n =
    let odd : (1 + 2 * n.0) % 2 ≡ 1 = omega arith in
    let half : (1 + 2 * n.0) / 2 ≡ n.0 = omega arith in
    (1 + 2 * n.0, rw (odd, half) (ap (λ (v : Cols). b ∷ v) n.1))

put_even : (b k : ℕ) (cs : Cols) → Numbered (suc b) k cs → Numbered b (suc k) cs
unfolding set_in
put_even b k cs n =
    let even : (2 * n.0) % 2 ≡ 0 = omega arith in
    let half : (2 * n.0) / 2 ≡ n.0 = omega arith in
    (2 * n.0, rw (even, half) n.1)

-- the columns lie from b on, and there are k of these
abbrev Between : ℕ → ℕ → Cols → Type 0
Between b k cs = (c : ℕ) → In c cs → (b ≤ c) × (c < b + k)

after_first : (b k c : ℕ) (cs : Cols) → Rising (c ∷ cs) → c ≡ b → Between b (suc k) (c ∷ cs) → Between (suc b) k cs
after_first b k c cs r e f d i = let l : c < d = rising_low r d i in let h = f d (inr i) in (omega arith, omega (arith, h.1))

from_next : (b k c : ℕ) (cs : Cols) → Rising (c ∷ cs) → (c ≡ b → ⊥) → Between b (suc k) (c ∷ cs) → Between (suc b) k (c ∷ cs)
from_next b k c cs r ne f d i =
    let h = f d i in
    let g = f c (inl refl) in
    let first : b < c = omega (arith, g.0) in
    elim i [ inl q ↦ (omega arith, omega (arith, h.1)) | inr j ↦ let l : c < d = rising_low r d j in (omega arith, omega (arith, h.1)) ]

number_of : (b k : ℕ) (cs : Cols) → Rising cs → Between b k cs → Numbered b k cs
number_of b k [] r f = (0, set_none b k)
number_of b zero (c ∷ cs) r f = let h = f c (inl refl) in absurd (omega (arith, h.0, h.1))
number_of b (suc k) (c ∷ cs) r f =
    elim (cases_eq c b) [
      | inl e ↦
          subst (λ (v : ℕ). Numbered b (suc k) (v ∷ cs)) (sym e) (put_odd b k cs (number_of (suc b) k cs (rising_rest r) (after_first b k c cs r e f)))
      | inr ne ↦ put_even b k (c ∷ cs) (number_of (suc b) k (c ∷ cs) r (from_next b k c cs r ne f))
    ]

-- a list of such sets is the list of the sets of some numbers
pub numbers_of : (ks : List Cols) → ((k : Cols) → In k ks → Rising k) → ((k : Cols) → In k ks → (c : ℕ) → In c k → c < 64) → (ys : List ℕ) × (sets ys ≡ ks)
numbers_of [] r f = ([], refl)
numbers_of (k ∷ ks) r f =
    let m = number_of 0 64 k (r k (inl refl)) (λ c i. let l : c < 64 = f k (inl refl) c i in (omega arith, omega arith)) in
    let ms = numbers_of ks (λ j i. r j (inr i)) (λ j i. f j (inr i)) in
    (m.0 ∷ ms.0, ap (λ (v : Cols). v ∷ sets ms.0) m.1 ∙ ap (λ (v : List Cols). k ∷ v) ms.1)

pub sets_append : (xs ys : List ℕ) → sets (xs ++ ys) ≡ sets xs ++ sets ys
sets_append [] ys = refl
sets_append (x ∷ xs) ys = ap (λ v. set_in 0 64 x ∷ v) (sets_append xs ys)
