-- A lent design that can be read: what its parts' numbers are, and the design without its first part.
use Rattle.std.proofs.Common.{◌≡◌, ℕ, zero, suc, ◌+◌, ◌-◌, ◌*◌, ◌/◌, ◌%◌, ◌^◌, ◌<◌, ◌≤◌, Bool, true, false, ◌&&◌, eqb, ltb, leb, List, [], ◌∷◌, length, get_or, drop, sym, refl, ap, ◌∙◌, ap₂, arith}
use lib.Bits.{bit_and}
use Rattle.std.proofs.lemmas.Nat.{and_mask, one_shl, mod-pow-add, mod_low, field_of, mod_below}
use Rattle.std.proofs.lemmas.Bool.{and_parts, and_from, and_left, and_right, leb-true, le-leb, lt-leb}
use Rattle.columns.specs.Cols.{Cols, pick, set_in}
use Rattle.schema.specs.Layout.{all_sets_fit, is_first_whole}
use Rattle.parts.specs.Store.{whole_part, formed, readable}

-- a set of a table of n columns is named by the low digits of a number
pub low_set : (b n m : ℕ) → set_in b n (m % 2 ^ n) ≡ set_in b n m
unfolding set_in
low_set b zero m = refl
low_set b (suc n) m =
    let p : suc n ≡ n + 1 = omega arith in
    let s : m % 2 ^ suc n ≡ (m / 2 ^ 1 % 2 ^ n) * 2 ^ 1 + m % 2 ^ 1 = ap (λ (k : ℕ). m % 2 ^ k) p ∙ mod-pow-add m n 1 in
    let r : m % 2 ^ suc n % 2 ≡ m % 2 = ap (λ (k : ℕ). k % 2) s ∙ mod_low (m / 2 ^ 1 % 2 ^ n) 1 (m % 2 ^ 1) (mod_below m 2 (omega arith)) in
    let q : m % 2 ^ suc n / 2 ≡ m / 2 % 2 ^ n = ap (λ (k : ℕ). m % 2 ^ k / 2) p ∙ field_of m n 1 in
    let e : set_in (suc b) n (m % 2 ^ suc n / 2) ≡ set_in (suc b) n (m / 2) = ap (λ (k : ℕ). set_in (suc b) n k) q ∙ low_set (suc b) n (m / 2) in
    ap₂ (λ (k : ℕ) (z : Cols). pick (eqb k 1) (b ∷ z) z) r e

-- the low digits, as the code takes them
pub low_mask : (bits w n : ℕ) → w ≡ n → n ≤ 16 → bit_and bits (1 * 2 ^ w % 18446744073709551616 - 1) ≡ bits % 2 ^ n
low_mask bits w n e l =
    let s : 1 * 2 ^ n % 2 ^ 64 ≡ 2 ^ n = one_shl n 64 (omega arith) in
    ap (λ (k : ℕ). bit_and bits (1 * 2 ^ k % 18446744073709551616 - 1)) e ∙ ap (λ (k : ℕ). bit_and bits (k - 1)) s ∙ and_mask bits n

pub record WholePart (n : ℕ) (xs : List ℕ) : Type 0 where
  pub long : 2 + 2 * get_or xs 1 0 ≤ length xs
  pub few : get_or xs 1 0 ≤ 4294967295

pub whole_says : (n : ℕ) (xs : List ℕ) → whole_part n xs ≡ true → WholePart n xs
unfolding whole_part
whole_says n xs e =
    let a = and_parts (leb (2 + 2 * get_or xs 1 0) (length xs) && leb (get_or xs 1 0) 4294967295) (ltb (get_or xs 0 0) (2 ^ n) && all_sets_fit n (2 * get_or xs 1 0) (drop 2 xs)) e in
    let b = and_parts (leb (2 + 2 * get_or xs 1 0) (length xs)) (leb (get_or xs 1 0) 4294967295) a.0 in
    record { long = leb-true _ _ b.0; few = leb-true _ _ b.1 }

last_of : (a b c : Bool) → (a && c) ≡ false → ((a && b) && c) ≡ false
last_of true true c e = e
last_of true false c e = refl
last_of false b c e = refl

but_one : (a c : Bool) → ((a && true) && c) ≡ (a && c)
but_one true c = refl
but_one false c = refl

module _ (n : ℕ) (xs : List ℕ) where
  -- a part at the front that is there whole is one of a register, unless it has too many rules
  pub too_many : 4294967295 < get_or xs 1 0 → whole_part n xs ≡ false
  unfolding whole_part
  too_many l = and_left _ _ (and_right (leb (2 + 2 * get_or xs 1 0) (length xs)) _ (lt-leb (get_or xs 1 0) 4294967295 l))

  pub not_there : is_first_whole n xs ≡ false → whole_part n xs ≡ false
  unfolding whole_part
  not_there e = last_of (leb (2 + 2 * get_or xs 1 0) (length xs)) (leb (get_or xs 1 0) 4294967295) (ltb (get_or xs 0 0) (2 ^ n) && all_sets_fit n (2 * get_or xs 1 0) (drop 2 xs)) e

  pub part_stands : get_or xs 1 0 ≤ 4294967295 → is_first_whole n xs ≡ true → whole_part n xs ≡ true
  unfolding whole_part
  part_stands few e =
      ap (λ (b : Bool). (leb (2 + 2 * get_or xs 1 0) (length xs) && b) && (ltb (get_or xs 0 0) (2 ^ n) && all_sets_fit n (2 * get_or xs 1 0) (drop 2 xs))) (le-leb (get_or xs 1 0) 4294967295 few)
      ∙ but_one (leb (2 + 2 * get_or xs 1 0) (length xs)) (ltb (get_or xs 0 0) (2 ^ n) && all_sets_fit n (2 * get_or xs 1 0) (drop 2 xs)) ∙ e

-- one part less
pub formed_more : (n k : ℕ) (xs : List ℕ) → 0 < k → formed n k xs ≡ (whole_part n xs && formed n (k - 1) (drop (2 + 2 * get_or xs 1 0) xs))
unfolding formed
formed_more n zero xs l = absurd (omega arith)
formed_more n (suc k) xs l = let z : k ≡ suc k - 1 = omega arith in ap (λ (m : ℕ). whole_part n xs && formed n m (drop (2 + 2 * get_or xs 1 0) xs)) z

pub formed_none : (n k : ℕ) (xs : List ℕ) → k ≡ 0 → formed n k xs ≡ true
unfolding formed
formed_none n zero xs e = refl
formed_none n (suc k) xs e = absurd (omega arith)

pub record Readable (n : ℕ) (d : List ℕ) : Type 0 where
  pub some : 1 ≤ get_or d 0 0
  pub few : get_or d 0 0 ≤ 4294967295
  pub parts : formed n (get_or d 0 0) (drop 1 d) ≡ true
  pub long : 1 ≤ length d

pub not_empty : (d : List ℕ) → 1 ≤ get_or d 0 0 → 1 ≤ length d
not_empty [] l = absurd (omega arith)
not_empty (x ∷ d) l = omega arith

pub readable_says : (n : ℕ) (d : List ℕ) → readable n d ≡ true → Readable n d
unfolding readable
readable_says n d e =
    let a = and_parts (leb 1 (get_or d 0 0) && leb (get_or d 0 0) 4294967295) (formed n (get_or d 0 0) (drop 1 d)) e in
    let b = and_parts (leb 1 (get_or d 0 0)) (leb (get_or d 0 0) 4294967295) a.0 in
    record { some = leb-true _ _ b.0; few = leb-true _ _ b.1; parts = a.1; long = not_empty d (leb-true _ _ b.0) }

module _ (n : ℕ) (d : List ℕ) where
  pub no_parts : get_or d 0 0 < 1 → false ≡ readable n d
  unfolding readable
  no_parts l = sym (and_left _ _ (and_left _ _ (lt-leb 1 (get_or d 0 0) l)))

  pub too_many_parts : 4294967295 < get_or d 0 0 → false ≡ readable n d
  unfolding readable
  too_many_parts l = sym (and_left _ _ (and_right (leb 1 (get_or d 0 0)) _ (lt-leb (get_or d 0 0) 4294967295 l)))

  pub read_parts : 1 ≤ get_or d 0 0 → get_or d 0 0 ≤ 4294967295 → readable n d ≡ formed n (get_or d 0 0) (drop 1 d)
  unfolding readable
  read_parts a b = ap (λ (t : Bool). t && formed n (get_or d 0 0) (drop 1 d)) (and_from _ _ (le-leb _ _ a) (le-leb _ _ b))

pub nothing_lent : (d : List ℕ) → length d ≤ 0 → get_or d 0 0 < 1
nothing_lent [] l = omega arith
nothing_lent (x ∷ d) l = absurd (omega arith)
