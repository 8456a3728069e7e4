-- Sets of lent numbers that name columns of the table only: one more, and those of a part of the row.
use Rattle.std.proofs.Common.{◌≡◌, ℕ, zero, suc, ◌+◌, ◌-◌, ◌^◌, ◌<◌, ◌≤◌, Bool, true, ◌&&◌, ltb, List, [], ◌∷◌, length, get_or, take, drop, refl, ap, ◌∙◌, ap₂, arith}
use Rattle.std.proofs.lemmas.List.{get_or-drop, drop-drop, length-drop, length-take-le}
use Rattle.schema.specs.Layout.{all_sets_fit}

pub fit_more : (n : ℕ) (xs : List ℕ) (i : ℕ) → i < length xs → all_sets_fit n (length xs - i) (drop i xs) ≡ (ltb (get_or xs i 0) (2 ^ n) && all_sets_fit n (length xs - (i + 1)) (drop (i + 1) xs))
unfolding all_sets_fit
fit_more n xs i l =
    let z : length xs - i ≡ suc (length xs - (i + 1)) = omega arith in
    let g : get_or (drop i xs) 0 0 ≡ get_or xs i 0 = get_or-drop i xs 0 0 ∙ ap (λ (k : ℕ). get_or xs k 0) (omega arith) in
    ap (λ (k : ℕ). all_sets_fit n k (drop i xs)) z
    ∙ ap₂ (λ (v : ℕ) (w : List ℕ). ltb v (2 ^ n) && all_sets_fit n (length xs - (i + 1)) w) g (drop-drop 1 i xs)

pub fit_end : (n : ℕ) (xs : List ℕ) (i : ℕ) → length xs ≤ i → all_sets_fit n (length xs - i) (drop i xs) ≡ true
unfolding all_sets_fit
fit_end n xs i l = let z : length xs - i ≡ 0 = omega arith in ap (λ (k : ℕ). all_sets_fit n k (drop i xs)) z

-- what stands behind the sets does not matter
pub fit_front : (n k : ℕ) (xs : List ℕ) → all_sets_fit n k (take k xs) ≡ all_sets_fit n k xs
unfolding all_sets_fit
fit_front n zero xs = refl
fit_front n (suc k) [] = refl
fit_front n (suc k) (x ∷ xs) = ap (λ (b : Bool). ltb x (2 ^ n) && b) (fit_front n k xs)

-- the sets of k numbers behind the first two
pub fit_behind : (n k : ℕ) (xs : List ℕ) → 2 + k ≤ length xs → all_sets_fit n (length (take (2 + k - 2) (drop 2 xs))) (take (2 + k - 2) (drop 2 xs)) ≡ all_sets_fit n k (drop 2 xs)
fit_behind n k xs l =
    let z : 2 + k - 2 ≡ k = omega arith in
    let len : length (take k (drop 2 xs)) ≡ k = length-take-le k (drop 2 xs) (simp length-drop (omega arith)) in
    ap (λ (j : ℕ). all_sets_fit n (length (take j (drop 2 xs))) (take j (drop 2 xs))) z ∙ ap (λ (j : ℕ). all_sets_fit n j (take k (drop 2 xs))) len ∙ fit_front n k (drop 2 xs)
