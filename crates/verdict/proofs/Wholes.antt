-- Whether numbers hold parts, from the first part on. Assumes nothing.
use Rattle.std.proofs.Common.{◌≡◌, ℕ, zero, suc, ◌+◌, ◌-◌, ◌*◌, ◌^◌, ◌<◌, true, false, ◌&&◌, ltb, leb, List, length, get_or, drop, sym, refl, ap, ◌∙◌, inl, inr, arith, length-drop}
use Rattle.std.proofs.lemmas.Bool.{and_parts, and_from, leb-true, le-leb, cases_Bool}
use Rattle.columns.proofs.Lists.{same_test}
use Rattle.schema.specs.Layout.{extent, all_sets_fit, parts_fit}
use Rattle.schema.specs.Layout.{is_first_whole}
use Rattle.verdict.specs.Given.{is_readable, is_whole}
use Rattle.verdict.proofs.GivenWalk.{size}

one_fits : (n k : ℕ) (xs : List ℕ) → parts_fit n (suc k) xs ≡ ((ltb (get_or xs 0 0) (2 ^ n) && all_sets_fit n (2 * get_or xs 1 0) (drop 2 xs)) && parts_fit n k (drop (size xs) xs))
unfolding parts_fit
one_fits n k xs = refl

one_long : (k : ℕ) (xs : List ℕ) → extent (suc k) xs ≡ size xs + extent k (drop (size xs) xs)
unfolding extent
one_long k xs = refl

whole_suc : (n k : ℕ) (xs : List ℕ) → is_whole n (suc k) xs ≡ (is_first_whole n xs && is_whole n k (drop (size xs) xs))
whole_suc n k xs =
    let fit = ltb (get_or xs 0 0) (2 ^ n) && all_sets_fit n (2 * get_or xs 1 0) (drop 2 xs) in
    let rest = drop (size xs) xs in
    let long = length-drop (size xs) xs in
    let sum = one_long k xs in
    same_test (is_whole n (suc k) xs) (is_first_whole n xs && is_whole n k rest)
    (λ h.
    let a = and_parts (leb (extent (suc k) xs) (length xs)) (parts_fit n (suc k) xs) h in
    let l = leb-true (extent (suc k) xs) (length xs) a.0 in
    let b = and_parts fit (parts_fit n k rest) (sym (one_fits n k xs) ∙ a.1) in
    and_from (is_first_whole n xs) (is_whole n k rest) (and_from (leb (size xs) (length xs)) fit (le-leb (size xs) (length xs) (omega arith)) b.0)
    (and_from (leb (extent k rest) (length rest)) (parts_fit n k rest) (le-leb (extent k rest) (length rest) (omega arith)) b.1))
    (λ h.
    let a = and_parts (is_first_whole n xs) (is_whole n k rest) h in
    let b = and_parts (leb (size xs) (length xs)) fit a.0 in
    let d = and_parts (leb (extent k rest) (length rest)) (parts_fit n k rest) a.1 in
    let l = leb-true (size xs) (length xs) b.0 in
    let m = leb-true (extent k rest) (length rest) d.0 in
    and_from (leb (extent (suc k) xs) (length xs)) (parts_fit n (suc k) xs) (le-leb (extent (suc k) xs) (length xs) (omega arith))
    (one_fits n k xs ∙ and_from fit (parts_fit n k rest) b.1 d.1))

pub whole_front : (n k : ℕ) (xs : List ℕ) → 0 < k → is_whole n k xs ≡ (is_first_whole n xs && is_whole n (k - 1) (drop (size xs) xs))
whole_front n zero xs l = absurd (omega arith)
whole_front n (suc k) xs l =
    let e : k ≡ suc k - 1 = omega arith in
    whole_suc n k xs ∙ ap (λ (j : ℕ). is_first_whole n xs && is_whole n j (drop (size xs) xs)) e

pub whole_none : (n k : ℕ) (xs : List ℕ) → k ≡ 0 → is_whole n k xs ≡ true
unfolding extent parts_fit
whole_none n zero xs e = and_from (leb 0 (length xs)) true (le-leb 0 (length xs) (omega arith)) refl
whole_none n (suc k) xs e = absurd (omega arith)

pub readable_none : (n : ℕ) (xs : List ℕ) → length xs ≡ 0 → is_readable n xs ≡ false
readable_none n xs e =
    elim (cases_Bool (is_readable n xs)) [
      | inl h ↦
          let a = and_parts (leb (1 + extent (get_or xs 0 0) (drop 1 xs)) (length xs)) (parts_fit n (get_or xs 0 0) (drop 1 xs)) h in
          let l = leb-true (1 + extent (get_or xs 0 0) (drop 1 xs)) (length xs) a.0 in
          absurd (omega arith)
      | inr h ↦ h
    ]

pub readable_whole : (n : ℕ) (xs : List ℕ) → 0 < length xs → is_readable n xs ≡ is_whole n (get_or xs 0 0) (drop 1 xs)
readable_whole n xs l =
    let k = get_or xs 0 0 in
    let ys = drop 1 xs in
    let long = length-drop 1 xs in
    same_test (is_readable n xs) (is_whole n k ys)
    (λ h.
    let a = and_parts (leb (1 + extent k ys) (length xs)) (parts_fit n k ys) h in
    let m = leb-true (1 + extent k ys) (length xs) a.0 in
    and_from (leb (extent k ys) (length ys)) (parts_fit n k ys) (le-leb (extent k ys) (length ys) (omega arith)) a.1)
    (λ h.
    let a = and_parts (leb (extent k ys) (length ys)) (parts_fit n k ys) h in
    let m = leb-true (extent k ys) (length ys) a.0 in
    and_from (leb (1 + extent k ys) (length xs)) (parts_fit n k ys) (le-leb (1 + extent k ys) (length xs) (omega arith)) a.1)
