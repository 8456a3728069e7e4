-- A lent design from its front: the first rule, the first part, and what is left behind them. Assumes nothing.
use Rattle.std.proofs.Common.{◌≡◌, ℕ, zero, suc, ◌+◌, ◌-◌, ◌*◌, ◌^◌, ◌<◌, ◌≤◌, true, ◌&&◌, ltb, List, [], ◌∷◌, length, get_or, drop, refl, ap, subst, arith, length-drop}
use Rattle.std.proofs.lemmas.Bool.{and_parts, ltb-true}
use Rattle.columns.specs.Cols.{set_in}
use Rattle.dependencies.specs.Layout.{rules_in}
use Rattle.schema.specs.Layout.{parts_in, extent, all_sets_fit, parts_fit}

second : (xs : List ℕ) → get_or (drop 1 xs) 0 0 ≡ get_or xs 1 0
second [] = refl
second (x ∷ []) = refl
second (x ∷ y ∷ xs) = refl

two_on : (xs : List ℕ) → drop 1 (drop 1 xs) ≡ drop 2 xs
two_on [] = refl
two_on (x ∷ []) = refl
two_on (x ∷ y ∷ xs) = refl

pub no_rule : (n k : ℕ) (xs : List ℕ) → k ≡ 0 → rules_in n k xs ≡ []
unfolding rules_in
no_rule n zero xs e = refl
no_rule n (suc k) xs e = absurd (omega arith)

pub first_rule : (n k : ℕ) (xs : List ℕ) → (k ≡ 0 → ⊥)
    → rules_in n k xs ≡ record { left = set_in 0 n (get_or xs 0 0); right = set_in 0 n (get_or xs 1 0) } ∷ rules_in n (k - 1) (drop 2 xs)
unfolding rules_in
first_rule n zero xs e = absurd (e refl)
first_rule n (suc k) xs e =
    ap (λ (j : ℕ). record { left = set_in 0 n (get_or xs 0 0); right = set_in 0 n (get_or xs 1 0) } ∷ rules_in n j (drop 2 xs)) (omega arith)

abbrev Fits : ℕ → ℕ → List ℕ → Type 0
Fits n k xs = (get_or xs 0 0 < 2 ^ n) × (get_or xs 1 0 < 2 ^ n) × (all_sets_fit n (2 * (k - 1)) (drop 2 xs) ≡ true)

two_fit : (n k : ℕ) (xs : List ℕ) → all_sets_fit n (suc (suc k)) xs ≡ true → (get_or xs 0 0 < 2 ^ n) × (get_or xs 1 0 < 2 ^ n) × (all_sets_fit n k (drop 2 xs) ≡ true)
unfolding all_sets_fit
two_fit n k xs h =
    let a = and_parts (ltb (get_or xs 0 0) (2 ^ n)) (all_sets_fit n (suc k) (drop 1 xs)) h in
    let b = and_parts (ltb (get_or (drop 1 xs) 0 0) (2 ^ n)) (all_sets_fit n k (drop 1 (drop 1 xs))) a.1 in (
      ltb-true (get_or xs 0 0) (2 ^ n) a.0,
      subst (λ (v : ℕ). v < 2 ^ n) (second xs) (ltb-true (get_or (drop 1 xs) 0 0) (2 ^ n) b.0),
      subst (λ (v : List ℕ). all_sets_fit n k v ≡ true) (two_on xs) b.1,
    )

pub rule_fits : (n k : ℕ) (xs : List ℕ) → (k ≡ 0 → ⊥) → all_sets_fit n (2 * k) xs ≡ true → Fits n k xs
rule_fits n zero xs e h = absurd (e refl)
rule_fits n (suc k) xs e h =
    let q : 2 * suc k ≡ suc (suc (2 * (suc k - 1))) = omega arith in
    two_fit n (2 * (suc k - 1)) xs (subst (λ (v : ℕ). all_sets_fit n v xs ≡ true) q h)

pub no_parts : (n k : ℕ) (xs : List ℕ) → k ≡ 0 → parts_in n k xs ≡ []
unfolding parts_in
no_parts n zero xs e = refl
no_parts n (suc k) xs e = absurd (omega arith)

abbrev pub size : List ℕ → ℕ
size xs = 2 + 2 * get_or xs 1 0

pub first_part : (n k : ℕ) (xs : List ℕ) → (k ≡ 0 → ⊥)
    → parts_in n k xs ≡ record { cols = set_in 0 n (get_or xs 0 0); rules = rules_in n (get_or xs 1 0) (drop 2 xs) } ∷ parts_in n (k - 1) (drop (size xs) xs)
unfolding parts_in
first_part n zero xs e = absurd (e refl)
first_part n (suc k) xs e =
    ap (λ (j : ℕ). record { cols = set_in 0 n (get_or xs 0 0); rules = rules_in n (get_or xs 1 0) (drop 2 xs) } ∷ parts_in n j (drop (size xs) xs)) (omega arith)

pub record PartFits (n k : ℕ) (xs : List ℕ) : Type 0 where
  pub set_fits : get_or xs 0 0 < 2 ^ n
  pub rules_fit : all_sets_fit n (2 * get_or xs 1 0) (drop 2 xs) ≡ true
  pub rest_fits : parts_fit n (k - 1) (drop (size xs) xs) ≡ true

part_fits_suc : (n k : ℕ) (xs : List ℕ) → parts_fit n (suc k) xs ≡ true → PartFits n (suc k) xs
unfolding parts_fit
part_fits_suc n k xs h =
    let a = and_parts (ltb (get_or xs 0 0) (2 ^ n) && all_sets_fit n (2 * get_or xs 1 0) (drop 2 xs)) (parts_fit n k (drop (size xs) xs)) h in
    let b = and_parts (ltb (get_or xs 0 0) (2 ^ n)) (all_sets_fit n (2 * get_or xs 1 0) (drop 2 xs)) a.0 in
    record {
      set_fits = ltb-true (get_or xs 0 0) (2 ^ n) b.0;
      rules_fit = b.1;
      rest_fits = subst (λ (j : ℕ). parts_fit n j (drop (size xs) xs) ≡ true) (omega arith) a.1;
    }

pub part_fits : (n k : ℕ) (xs : List ℕ) → (k ≡ 0 → ⊥) → parts_fit n k xs ≡ true → PartFits n k xs
part_fits n zero xs e h = absurd (e refl)
part_fits n (suc k) xs e h = part_fits_suc n k xs h

-- the first part is there whole, and so are the others behind it
pub record PartWhole (k : ℕ) (xs : List ℕ) : Type 0 where
  pub front : size xs ≤ length xs
  pub sets : 2 * get_or xs 1 0 ≤ length (drop 2 xs)
  pub behind : extent (k - 1) (drop (size xs) xs) ≤ length (drop (size xs) xs)

part_whole_suc : (k : ℕ) (xs : List ℕ) → extent (suc k) xs ≤ length xs → PartWhole (suc k) xs
unfolding extent
part_whole_suc k xs h =
    let a = length-drop 2 xs in
    let b = length-drop (size xs) xs in
    let back : k ≡ suc k - 1 = omega arith in
    let left_over : extent k (drop (size xs) xs) ≤ length (drop (size xs) xs) = omega arith in
    record {
      front = omega arith;
      sets = omega arith;
      behind = subst (λ (j : ℕ). extent j (drop (size xs) xs) ≤ length (drop (size xs) xs)) back left_over;
    }

pub part_whole : (k : ℕ) (xs : List ℕ) → (k ≡ 0 → ⊥) → extent k xs ≤ length xs → PartWhole k xs
part_whole zero xs e h = absurd (e refl)
part_whole (suc k) xs e h = part_whole_suc k xs h
