-- Rules as bytes: where each number of the row comes from, that the first 66 numbers are enough to read the rules, and that of those only the rules' sets are left to read.
use Rattle.std.proofs.Common.{◌≡◌, ℕ, zero, suc, ◌+◌, ◌-◌, ◌*◌, ◌/◌, ◌^◌, ◌<◌, ◌≤◌, min, ◌++◌, true, ◌&&◌, ltb, leb, List, [], ◌∷◌, length, get_or, take, drop, Ok, Err, Result, sym, refl, ap, ◌∙◌, inl, inr, arith, length-append, length-drop, length-take}
use Rattle.std.proofs.lemmas.List.{get_or-take, get_or-drop, drop-take, take_all, length-take-le, get_or-append_right}
use Rattle.std.proofs.lemmas.Bool.{le-leb, lt-leb, leb-true, leb-false, cases_Bool, and_parts}
use Rattle.std.specs.Prelude.{map}
use Rattle.std.specs.Simd.{first_chunks}
use Rattle.columns.specs.Cols.{pick, set_in}
use Rattle.dependencies.specs.Tables.{Dep}
use Rattle.dependencies.specs.Layout.{columns_of, count_of, rules_in, rules_of_row, sets_told, width_ok, count_ok, reading}
use Rattle.dependencies.specs.Told.{Told, refused}
use Rattle.dependencies.specs.Reads.{Reads, ReadsSets}
use Rattle.dependencies.specs.Bytes.{sets_in_bytes, row_of_bytes}
use Rattle.dependencies.proofs.Smalls.{few_rules}
use Rattle.dependencies.specs.declared.held.RuleSet.{RuleSet}
use Rattle.dependencies.specs.declared.refusals.Refusal.{Refusal}

-- ---- the numbers of the row
-- the number of two bytes, the low one first
abbrev pub set_of : List ℕ → ℕ
set_of pair = get_or pair 0 0 + 256 * get_or pair 1 0

sets_pairs : (m : ℕ) (bs : List ℕ) → map set_of (take m (first_chunks 2 (length bs / 2) bs)) ≡ take m (sets_in_bytes bs)
unfolding sets_in_bytes
sets_pairs zero bs = refl
sets_pairs (suc m) [] = refl
sets_pairs (suc m) (a ∷ []) = refl
sets_pairs (suc m) (a ∷ (b ∷ bs)) =
    let e : length (a ∷ (b ∷ bs)) / 2 ≡ suc (length bs / 2) = omega arith in
    ap (λ (k : ℕ). map set_of (take (suc m) (first_chunks 2 k (a ∷ (b ∷ bs))))) e ∙ ap (λ (ys : List ℕ). (a + 256 * b) ∷ ys) (sets_pairs m bs)

row_start : (bs : List ℕ) → take 2 bs ++ take 64 (sets_in_bytes (drop 2 bs)) ≡ take 66 (row_of_bytes bs)
unfolding row_of_bytes sets_in_bytes
row_start [] = refl
row_start (a ∷ []) = refl
row_start (a ∷ (b ∷ bs)) = refl

-- the first two bytes, and the numbers of the first 64 pairs
pub row_pairs : (bs : List ℕ) (pairs : List (List ℕ)) → pairs ≡ first_chunks 2 (length (drop 2 bs) / 2) (drop 2 bs)
    → take 2 bs ++ map set_of (take 64 pairs) ≡ take 66 (row_of_bytes bs)
row_pairs bs pairs e =
    ap (λ (ps : List (List ℕ)). take 2 bs ++ map set_of (take 64 ps)) e ∙ ap (λ (ys : List ℕ). take 2 bs ++ ys) (sets_pairs 64 (drop 2 bs)) ∙ row_start bs

pub sets_length : (bs : List ℕ) → length (sets_in_bytes bs) ≡ length bs / 2
unfolding sets_in_bytes
sets_length [] = refl
sets_length (a ∷ []) = refl
sets_length (a ∷ (b ∷ bs)) = omega (arith, sets_length bs)

pub sets_at : (bs : List ℕ) (k : ℕ) → 2 * k + 1 < length bs → get_or (sets_in_bytes bs) k 0 ≡ get_or bs (2 * k) 0 + 256 * get_or bs (2 * k + 1) 0
unfolding sets_in_bytes
sets_at [] k h = absurd (omega arith)
sets_at (a ∷ []) k h = absurd (omega arith)
sets_at (a ∷ (b ∷ bs)) zero h = refl
sets_at (a ∷ (b ∷ bs)) (suc k) h =
    let e : 2 * suc k ≡ suc (suc (2 * k)) = omega arith in
    let f : 2 * suc k + 1 ≡ suc (suc (2 * k + 1)) = omega arith in
    sets_at bs k (omega arith)
    ∙ sym (ap (λ x. get_or (a ∷ (b ∷ bs)) x 0 + 256 * get_or (a ∷ (b ∷ bs)) (2 * suc k + 1) 0) e ∙ ap (λ x. get_or bs (2 * k) 0 + 256 * get_or (a ∷ (b ∷ bs)) x 0) f)

pub row_length : (bs : List ℕ) → 2 ≤ length bs → length (row_of_bytes bs) ≡ length bs / 2 + 1
unfolding row_of_bytes
row_length bs h =
    length-append (take 2 bs) (sets_in_bytes (drop 2 bs)) ∙ omega (arith, length-take-le 2 bs h, sets_length (drop 2 bs), length-drop 2 bs)

pub row_at : (bs : List ℕ) (i : ℕ) → 1 ≤ i → 2 * i + 1 < length bs → get_or (row_of_bytes bs) (i + 1) 0 ≡ get_or bs (2 * i) 0 + 256 * get_or bs (2 * i + 1) 0
unfolding row_of_bytes
row_at bs i h l =
    let k = i + 1 - 2 in
    let even : 2 + 2 * k ≡ 2 * i = omega arith in
    let odd : 2 + (2 * k + 1) ≡ 2 * i + 1 = omega arith in
    get_or-append_right (take 2 bs) (sets_in_bytes (drop 2 bs)) 2 (i + 1) 0 (length-take-le 2 bs (omega arith)) (omega arith)
    ∙ sets_at (drop 2 bs) k (omega (arith, length-drop 2 bs))
    ∙ ap (λ x. x + 256 * get_or (drop 2 bs) (2 * k + 1) 0) (get_or-drop 2 bs (2 * k) 0 ∙ ap (λ x. get_or bs x 0) even)
    ∙ ap (λ x. get_or bs (2 * i) 0 + 256 * x) (get_or-drop 2 bs (2 * k + 1) 0 ∙ ap (λ x. get_or bs x 0) odd)

-- as many numbers as the bytes have, or as 32 rules need
pub row_end : (bs : List ℕ) (end : ℕ) → 2 ≤ length bs → end ≡ min (length bs / 2) 65 → take (end + 1) (row_of_bytes bs) ≡ take 66 (row_of_bytes bs)
row_end bs end h e =
    elim (cases_Bool (leb 65 (length bs / 2))) [
      | inl t ↦ let l = leb-true 65 (length bs / 2) t in let q : end + 1 ≡ 66 = omega arith in ap (λ k. take k (row_of_bytes bs)) q
      | inr t ↦
          let l = leb-false 65 (length bs / 2) t in
          let n = row_length bs h in
          take_all (end + 1) (row_of_bytes bs) (omega arith) ∙ sym (take_all 66 (row_of_bytes bs) (omega arith))
    ]

-- ---- reading needs no more than 66 numbers
drop_take_one : (m : ℕ) (ys : List ℕ) → drop 1 (take (suc m) ys) ≡ take m (drop 1 ys)
drop_take_one m ys = let e : suc m ≡ 1 + m = omega arith in ap (λ k. drop 1 (take k ys)) e ∙ drop-take 1 m ys

told_cut : (n i k m : ℕ) (ys : List ℕ) → k ≤ m → sets_told n i k (take m ys) ≡ sets_told n i k ys
unfolding sets_told
told_cut n i zero m ys h = refl
told_cut n i (suc k) zero ys h = absurd (omega arith)
told_cut n i (suc k) (suc m) ys h =
    ap (λ x. pick (ltb x (2 ^ n)) (sets_told n (suc i) k (drop 1 (take (suc m) ys))) (refused 3 i)) (get_or-take (suc m) ys 0 0 (omega arith))
    ∙ ap (λ zs. pick (ltb (get_or ys 0 0) (2 ^ n)) (sets_told n (suc i) k zs) (refused 3 i)) (drop_take_one m ys)
    ∙ ap (λ t. pick (ltb (get_or ys 0 0) (2 ^ n)) t (refused 3 i)) (told_cut n (suc i) k m (drop 1 ys) (omega arith))

two_less : (m : ℕ) (ys : List ℕ) → 2 ≤ m → drop 2 (take m ys) ≡ take (m - 2) (drop 2 ys)
two_less m ys h = let e : m ≡ 2 + (m - 2) = omega arith in ap (λ k. drop 2 (take k ys)) e ∙ drop-take 2 (m - 2) ys

rules_cut : (n k m : ℕ) (ys : List ℕ) → 2 * k ≤ m → rules_in n k (take m ys) ≡ rules_in n k ys
unfolding rules_in
rules_cut n zero m ys h = refl
rules_cut n (suc k) m ys h =
    let F : ℕ → ℕ → List ℕ → List Dep = λ a b zs. record { left = set_in 0 n a; right = set_in 0 n b } ∷ rules_in n k zs in
    ap (λ a. F a (get_or (take m ys) 1 0) (drop 2 (take m ys))) (get_or-take m ys 0 0 (omega arith))
    ∙ ap (λ b. F (get_or ys 0 0) b (drop 2 (take m ys))) (get_or-take m ys 1 0 (omega arith))
    ∙ ap (λ zs. F (get_or ys 0 0) (get_or ys 1 0) zs) (two_less m ys (omega arith))
    ∙ ap (λ zs. record { left = set_in 0 n (get_or ys 0 0); right = set_in 0 n (get_or ys 1 0) } ∷ zs) (rules_cut n k (m - 2) (drop 2 ys) (omega arith))

-- what is read of the rules' sets alone is read of the whole row
module _ (xs ys : List ℕ) (n k : ℕ) (wide : width_ok xs ≡ true) (p : n ≡ columns_of xs) (whole : count_ok xs ≡ true) (q : k ≡ count_of xs) (e : ys ≡ take (2 * k) (drop 2 xs)) (l : length ys / 2 ≡ k) where
  told_whole : sets_told n 0 (2 * (length ys / 2)) ys ≡ reading xs
  told_whole =
      ap (λ (j : ℕ). sets_told n 0 (2 * j) ys) l
      ∙ ap (sets_told n 0 (2 * k)) e
      ∙ told_cut n 0 (2 * k) (2 * k) (drop 2 xs) (omega arith)
      ∙ ap (λ (m : ℕ). sets_told m 0 (2 * k) (drop 2 xs)) p
      ∙ ap (λ (m : ℕ). sets_told (columns_of xs) 0 (2 * m) (drop 2 xs)) q
      ∙ sym (ap (λ b. pick b (sets_told (columns_of xs) 0 (2 * count_of xs) (drop 2 xs)) (refused 2 (count_of xs))) whole)
      ∙ sym (ap (λ b. pick b (pick (count_ok xs) (sets_told (columns_of xs) 0 (2 * count_of xs) (drop 2 xs)) (refused 2 (count_of xs))) (refused 1 0)) wide)

  rules_whole : rules_in n (length ys / 2) ys ≡ rules_of_row xs
  rules_whole =
      ap (λ (j : ℕ). rules_in n j ys) l
      ∙ ap (rules_in n k) e
      ∙ rules_cut n k (2 * k) (drop 2 xs) (omega arith)
      ∙ ap (λ (m : ℕ). rules_in m k (drop 2 xs)) p
      ∙ ap (λ (m : ℕ). rules_in (columns_of xs) m (drop 2 xs)) q

  pub reads_whole : (r : Result RuleSet Refusal) → ReadsSets n (length ys / 2) ys r → Reads xs r
  reads_whole (Ok t) h = (sym told_whole ∙ h.0, h.1 ∙ p, h.2 ∙ l ∙ q, h.3 ∙ rules_whole)
  reads_whole (Err r) h = sym told_whole ∙ h

module _ (xs : List ℕ) where
  abbrev cut : List ℕ
  cut = take 66 xs

  columns_cut : columns_of cut ≡ columns_of xs
  columns_cut = get_or-take 66 xs 0 0 (omega arith)

  counts_cut : count_of cut ≡ count_of xs
  counts_cut = get_or-take 66 xs 1 0 (omega arith)

  -- 32 rules have 66 numbers
  long_enough : (c : ℕ) → (leb c 32 && leb (2 + 2 * c) (length cut)) ≡ (leb c 32 && leb (2 + 2 * c) (length xs))
  long_enough c =
      elim (cases_Bool (leb c 32)) [
        | inl t ↦ let few = leb-true c 32 t in ap (λ b. leb c 32 && b) (same (2 + 2 * c) (omega arith))
        | inr t ↦ ap (λ b. b && leb (2 + 2 * c) (length cut)) t ∙ sym (ap (λ b. b && leb (2 + 2 * c) (length xs)) t)
      ]
    where
      same : (k : ℕ) → k ≤ 66 → leb k (length cut) ≡ leb k (length xs)
      same k h =
          elim (cases_Bool (leb k (length xs))) [
            | inl t ↦ let l = leb-true k (length xs) t in le-leb k (length cut) (omega (arith, length-take 66 xs)) ∙ sym t
            | inr t ↦ let l = leb-false k (length xs) t in lt-leb k (length cut) (omega (arith, length-take 66 xs)) ∙ sym t
          ]

  count_ok_cut : count_ok cut ≡ count_ok xs
  count_ok_cut = ap (λ c. leb c 32 && leb (2 + 2 * c) (length cut)) counts_cut ∙ long_enough (count_of xs)

  few_rules_lem : count_ok xs ≡ true → count_of xs ≤ 32
  few_rules_lem t = leb-true (count_of xs) 32 (and_parts (leb (count_of xs) 32) (leb (2 + 2 * count_of xs) (length xs)) t).0

  abbrev sets_part : List ℕ → Told
  sets_part ys = sets_told (columns_of ys) 0 (2 * count_of ys) (drop 2 ys)

  sets_cut : count_ok xs ≡ true → sets_part cut ≡ sets_part xs
  sets_cut t =
      let few = few_rules_lem t in
      ap (λ n. sets_told n 0 (2 * count_of cut) (drop 2 cut)) columns_cut
      ∙ ap (λ k. sets_told (columns_of xs) 0 (2 * k) (drop 2 cut)) counts_cut
      ∙ ap (λ ys. sets_told (columns_of xs) 0 (2 * count_of xs) ys) (drop-take 2 64 xs)
      ∙ told_cut (columns_of xs) 0 (2 * count_of xs) 64 (drop 2 xs) (omega arith)

  pub reading_cut : reading cut ≡ reading xs
  reading_cut =
      ap (λ n. pick (leb 1 n && leb n 16) (pick (count_ok cut) (sets_part cut) (refused 2 (count_of cut))) (refused 1 0)) columns_cut
      ∙ ap (λ t. pick (width_ok xs) t (refused 1 0))
      (elim (cases_Bool (count_ok xs)) [
        | inl t ↦
            ap (λ b. pick b (sets_part cut) (refused 2 (count_of cut))) (count_ok_cut ∙ t) ∙ sets_cut t
            ∙ sym (ap (λ b. pick b (sets_part xs) (refused 2 (count_of xs))) t)
        | inr t ↦
            ap (λ b. pick b (sets_part cut) (refused 2 (count_of cut))) (count_ok_cut ∙ t) ∙ ap (refused 2) counts_cut
            ∙ sym (ap (λ b. pick b (sets_part xs) (refused 2 (count_of xs))) t)
      ])

  all_rules_cut : count_of xs ≤ 32 → rules_of_row cut ≡ rules_of_row xs
  all_rules_cut few =
      ap (λ n. rules_in n (count_of cut) (drop 2 cut)) columns_cut
      ∙ ap (λ k. rules_in (columns_of xs) k (drop 2 cut)) counts_cut
      ∙ ap (λ ys. rules_in (columns_of xs) (count_of xs) ys) (drop-take 2 64 xs)
      ∙ rules_cut (columns_of xs) (count_of xs) 64 (drop 2 xs) (omega arith)

  -- what is read from the first 66 numbers is read from all
  pub reads_cut : (r : Result RuleSet Refusal) → Reads cut r → Reads xs r
  reads_cut (Ok t) h =
      let few : count_of xs ≤ 32 = omega (arith, few_rules t, h.2, counts_cut) in
      (sym reading_cut ∙ h.0, h.1 ∙ columns_cut, h.2 ∙ counts_cut, h.3 ∙ all_rules_cut few)
  reads_cut (Err e) h = sym reading_cut ∙ h
