-- Which keys are left to be written.
use Rattle.std.proofs.Common.{◌≡◌, ℕ, ◌+◌, ◌^◌, ◌<◌, ◌≤◌, List, ◌∷◌, length, get_or, drop, sym, ap, ◌∙◌, add-one, drop-cons}
use Rattle.std.proofs.lemmas.Bool.{lt-ltb, le-ltb}
use Rattle.columns.specs.Cols.{pick, set_in}
use Rattle.keys.specs.Shown.{fitting}

module _ (n : ℕ) (xs : List ℕ) (i : ℕ) (l : i < length xs) where
  here : drop i xs ≡ get_or xs i 0 ∷ drop (i + 1) xs
  here = drop-cons xs i 0 l ∙ ap (λ k. get_or xs i 0 ∷ drop k xs) (sym (add-one i))

  pub next_fits : get_or xs i 0 < 2 ^ n → fitting n (drop i xs) ≡ set_in 0 n (get_or xs i 0) ∷ fitting n (drop (i + 1) xs)
  next_fits h =
      ap (fitting n) here
      ∙ ap (λ b. pick b (set_in 0 n (get_or xs i 0) ∷ fitting n (drop (i + 1) xs)) (fitting n (drop (i + 1) xs))) (lt-ltb (get_or xs i 0) (2 ^ n) h)

  pub next_not : 2 ^ n ≤ get_or xs i 0 → fitting n (drop i xs) ≡ fitting n (drop (i + 1) xs)
  next_not h =
      ap (fitting n) here
      ∙ ap (λ b. pick b (set_in 0 n (get_or xs i 0) ∷ fitting n (drop (i + 1) xs)) (fitting n (drop (i + 1) xs))) (le-ltb (get_or xs i 0) (2 ^ n) h)
