-- Sets that are asked about behind the rules: which of them fit the table.
use Rattle.std.proofs.Common.{◌≡◌, ℕ, suc, ◌*◌, ◌^◌, ◌<◌, ◌≤◌, List, ◌∷◌, length, sym, refl, ap, ◌∙◌}
use Rattle.std.proofs.lemmas.Bool.{lt-ltb, le-ltb}
use Rattle.columns.specs.Cols.{pick}
use Rattle.dependencies.specs.Layout.{columns_of, count_of, sets_told, reading, reading_with}
use Rattle.dependencies.specs.Told.{done, refused, or_else}

-- the first of some sets fits, or is told
pub fits_next : (n i k x : ℕ) (xs : List ℕ) → x < 2 ^ n → sets_told n i (suc k) (x ∷ xs) ≡ sets_told n (suc i) k xs
unfolding sets_told
fits_next n i k x xs h = ap (λ b. pick b (sets_told n (suc i) k xs) (refused 3 i)) (lt-ltb x (2 ^ n) h)

pub fits_not : (n i k x : ℕ) (xs : List ℕ) → 2 ^ n ≤ x → sets_told n i (suc k) (x ∷ xs) ≡ refused 3 i
unfolding sets_told
fits_not n i k x xs h = ap (λ b. pick b (sets_told n (suc i) k xs) (refused 3 i)) (le-ltb x (2 ^ n) h)

pub fits_none : (n i : ℕ) (xs : List ℕ) → sets_told n i 0 xs ≡ done
unfolding sets_told
fits_none n i xs = refl

-- once the rules are read, what is told is told of the sets
pub reading_done : (xs sets : List ℕ) (n k : ℕ) → reading xs ≡ done → n ≡ columns_of xs → k ≡ count_of xs
    → reading_with xs sets ≡ sets_told n (2 * k) (length sets) sets
reading_done xs sets n k r p q =
    ap (λ t. or_else t (sets_told (columns_of xs) (2 * count_of xs) (length sets) sets)) r
    ∙ sym (ap (λ v. sets_told v (2 * k) (length sets) sets) p ∙ ap (λ v. sets_told (columns_of xs) (2 * v) (length sets) sets) q)
