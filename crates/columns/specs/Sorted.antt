-- The laws of the order of sets: it is that in which std compares lists of numbers, and sets of one place in it are one number.
use Rattle.std.proofs.Common.{◌≡◌, ℕ, zero, suc, ◌/◌, ◌%◌, ◌^◌, ◌<◌, Bool, true, false, eqb, ◌∷◌, sym, refl, ap, ◌∙◌, arith}
use Rattle.std.proofs.lemmas.Bool.{eqb-true, eqb-false, eq-eqb}
use native.Mathlib.Nat.{two-pow-succ}
use Rattle.std.specs.Cmp.{IsPartialOrder, po, both_ways}
use Rattle.std.specs.Cmp.Lexicographic.{slice_cmp, on_texts, texts_ties, bytes_decides}
use Rattle.std.specs.Ordering.{nat_cmp, on, as_partial_cmp, eq_by_cmp}
use Rattle.columns.specs.Cols.{Cols, pick, set_in}
use Rattle.columns.specs.Sets.{cols}
use Rattle.columns.specs.declared.set.ColumnSet.{ColumnSet}

-- a set whose columns are all higher does not begin with b
higher : (t : Bool) (b c : ℕ) (xs rest : Cols) → b < c → (b ∷ xs ≡ rest → ⊥) → b ∷ xs ≡ pick t (c ∷ rest) rest → ⊥
higher true b c xs rest h f e = let q : b ≡ c = cc in omega arith
higher false b c xs rest h f e = f e

above : (b c k m : ℕ) (xs : Cols) → b < c → b ∷ xs ≡ set_in c k m → ⊥
unfolding set_in
above b c zero m xs h e = cc
above b c (suc k) m xs h e = higher (eqb (m % 2) 1) b c xs (set_in (suc c) k (m / 2)) h (above b (suc c) k (m / 2) xs (omega arith)) e

one_more : (s t : Bool) (c k m n : ℕ) → eqb (m % 2) 1 ≡ s → eqb (n % 2) 1 ≡ t → (set_in (suc c) k (m / 2) ≡ set_in (suc c) k (n / 2) → m / 2 ≡ n / 2)
    → pick s (c ∷ set_in (suc c) k (m / 2)) (set_in (suc c) k (m / 2)) ≡ pick t (c ∷ set_in (suc c) k (n / 2)) (set_in (suc c) k (n / 2)) → m ≡ n
one_more true true c k m n p q f e = let d = f (cc) in let x = eqb-true (m % 2) 1 p in let y = eqb-true (n % 2) 1 q in omega arith
one_more false false c k m n p q f e = let d = f e in let x = eqb-false (m % 2) 1 p in let y = eqb-false (n % 2) 1 q in omega arith
one_more true false c k m n p q f e = absurd (above c (suc c) k (n / 2) _ (omega arith) e)
one_more false true c k m n p q f e = absurd (above c (suc c) k (m / 2) _ (omega arith) (sym e))

-- numbers of the same columns are equal
one_number : (c k m n : ℕ) → m < 2 ^ k → n < 2 ^ k → set_in c k m ≡ set_in c k n → m ≡ n
unfolding set_in
one_number c zero m n h l e = omega arith
one_number c (suc k) m n h l e =
    one_more (eqb (m % 2) 1) (eqb (n % 2) 1) c k m n refl refl (one_number (suc c) k (m / 2) (n / 2) (omega (arith, two-pow-succ k)) (omega (arith, two-pow-succ k))) e

pub sets_tie : (s t : ColumnSet) → eqb s.bits t.bits ≡ eq_by_cmp (on cols (slice_cmp nat_cmp)) s t
unfolding cols
sets_tie s t =
    both_ways (eqb s.bits t.bits) _
    (λ h. (bytes_decides (cols s) (cols t)).1 (ap (set_in 0 16) (eqb-true s.bits t.bits h)))
    (λ h. eq-eqb s.bits t.bits (one_number 0 16 s.bits t.bits s.small t.small ((bytes_decides (cols s) (cols t)).0 h)))
    ∙ texts_ties (cols s) (cols t)

pub sets_po : IsPartialOrder (λ (s t : ColumnSet). eqb s.bits t.bits) (as_partial_cmp (on cols (slice_cmp nat_cmp)))
sets_po = po (on_texts cols) sets_tie
