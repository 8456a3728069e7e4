-- The order of sets of columns is that in which std compares lists of numbers.
use Rattle.std.proofs.Common.{◌≡◌, ℕ, ◌/◌, ◌%◌, ◌^◌, ◌<◌, Bool, true, false, not, ◌&&◌, eqb, ltb, [], ◌∷◌, sym, refl, ap, ◌∙◌}
use lib.Bits.{bit_and, bit_xor, and_mask, xor_lt, xor_self}
use lib.Count.{count_trailing_zeros}
use Rattle.std.proofs.lemmas.Bool.{eq-eqb, ne_eqb}
use Rattle.std.specs.Cmp.{tied_itself}
use Rattle.std.specs.Cmp.Lexicographic.{slice_cmp, bytes_decides, texts_ties, nat_list_cmp_total}
use Rattle.std.specs.Ordering.{is_lt, is_eq, nat_cmp, ordering_then}
use Rattle.std.specs.declared.cmp.Ordering.{Ordering}
use Rattle.std.specs.declared.cmp.Ordering.TheVariants.{Less, Equal, Greater}
use Rattle.std.specs.Prelude.{cond}
use Rattle.columns.specs.Cols.{Cols, pick, has}
use Rattle.columns.specs.Order.{before}
use Rattle.columns.specs.Sets.{cols}
use Rattle.columns.specs.declared.set.ColumnSet.{ColumnSet}
use Rattle.columns.proofs.Compared.{tell, order, trailing_below}
use Rattle.columns.proofs.SetNumbers.{same_bits}

pub before_lt : (xs ys : Cols) → before xs ys ≡ is_lt (slice_cmp nat_cmp xs ys)
unfolding before
before_lt [] [] = refl
before_lt [] (y ∷ ys) = refl
before_lt (x ∷ xs) [] = refl
before_lt (x ∷ xs) (y ∷ ys) =
    elim (ltb x y) as (λ b. pick b true (eqb x y && before xs ys) ≡ is_lt (ordering_then (cond b Less (cond (eqb x y) Equal Greater)) (slice_cmp nat_cmp xs ys))) [
      | true ↦ refl
      | false ↦ elim (eqb x y) as (λ b. (b && before xs ys) ≡ is_lt (ordering_then (cond b Equal Greater) (slice_cmp nat_cmp xs ys))) [ true ↦ before_lt xs ys | false ↦ refl ]
    ]

less_it : (r : Ordering) → is_lt r ≡ true → r ≡ Less
less_it Less e = refl
less_it Equal e = cc
less_it Greater e = cc

more_it : (r : Ordering) → is_lt r ≡ false → (r ≡ Equal → ⊥) → r ≡ Greater
more_it Less e f = cc
more_it Equal e f = absurd (f refl)
more_it Greater e f = refl

pub cmp_same : (xs ys : Cols) → xs ≡ ys → Equal ≡ slice_cmp nat_cmp xs ys
cmp_same xs ys e = sym (ap (λ (zs : Cols). slice_cmp nat_cmp zs ys) e ∙ tied_itself nat_list_cmp_total ys)

pub cmp_less : (xs ys : Cols) → before xs ys ≡ true → Less ≡ slice_cmp nat_cmp xs ys
cmp_less xs ys h = sym (less_it (slice_cmp nat_cmp xs ys) (sym (before_lt xs ys) ∙ h))

pub cmp_greater : (xs ys : Cols) → before xs ys ≡ false → (xs ≡ ys → ⊥) → Greater ≡ slice_cmp nat_cmp xs ys
cmp_greater xs ys h f =
    sym (more_it (slice_cmp nat_cmp xs ys) (sym (before_lt xs ys) ∙ h) (λ e. f ((bytes_decides xs ys).0 (texts_ties xs ys ∙ ap is_eq e))))

-- sets of two numbers, from the lowest column on that they do not share
module _ (s t : ColumnSet) (differ : bit_xor s.bits t.bits ≡ 0 → ⊥) where
  abbrev low : ℕ
  low = count_trailing_zeros 16 (bit_xor s.bits t.bits)

  decided : before (cols s) (cols t) ≡ tell (s.bits / 2 ^ low) (t.bits / 2 ^ low)
  unfolding cols
  decided = order 0 16 s.bits t.bits s.small t.small differ

  pub low_small : low < 16
  low_small = trailing_below 16 (bit_xor s.bits t.bits) (xor_lt 16 s.bits t.bits s.small t.small) differ

  pub first_here : bit_and (s.bits / 2 ^ low) 1 ≡ 1 → before (cols s) (cols t) ≡ not (eqb (t.bits / 2 ^ low) 0)
  first_here e =
      decided ∙ ap (λ (b : Bool). pick b (not (eqb (t.bits / 2 ^ low) 0)) (eqb (s.bits / 2 ^ low) 0)) (eq-eqb (s.bits / 2 ^ low % 2) 1 (sym (and_mask (s.bits / 2 ^ low) 1) ∙ e))

  pub first_there : (bit_and (s.bits / 2 ^ low) 1 ≡ 1 → ⊥) → before (cols s) (cols t) ≡ eqb (s.bits / 2 ^ low) 0
  first_there f =
      decided ∙ ap (λ (b : Bool). pick b (not (eqb (t.bits / 2 ^ low) 0)) (eqb (s.bits / 2 ^ low) 0)) (ne_eqb (s.bits / 2 ^ low % 2) 1 (λ e. f (and_mask (s.bits / 2 ^ low) 1 ∙ e)))

  pub not_one : cols s ≡ cols t → ⊥
  not_one e = differ (ap (λ (m : ℕ). bit_xor m t.bits) (same_bits s t (λ c. ap (λ (v : Cols). has v c) e)) ∙ xor_self t.bits)
