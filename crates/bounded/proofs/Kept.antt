-- To keep of a list, cell by cell, what a test holds of: what is kept moves up to the front, in order.
use Rattle.std.proofs.Common.{◌≡◌, ℕ, ◌+◌, ◌<◌, ◌≤◌, Bool, true, false, List, [], ◌∷◌, ◌++◌, length, filter, take, drop, set, get_or, refl, sym, ap, ◌∙◌, arith}
use Rattle.std.proofs.lemmas.List.{take_more, drop_more, take_more_set, drop-set-lt, append-nil, length-drop}
use Rattle.std.proofs.lemmas.List.Elements.{filter-append}

one_kept : {X : Type 0} (test : X → Bool) (x : X) → test x ≡ true → filter test (x ∷ []) ≡ x ∷ []
one_kept test x kept = rw kept refl

one_left : {X : Type 0} (test : X → Bool) (x : X) → test x ≡ false → filter test (x ∷ []) ≡ []
one_left test x left = rw left refl

-- xs are the cells after i places of all of them
module _ {X : Type 0} (all xs : List X) (i : ℕ) (x : X) (ahead : drop i xs ≡ drop i all) (inside : i < length xs) (here : x ≡ get_or xs i x) where
  inside_all : i < length all
  inside_all = omega (arith, ap length ahead, length-drop i xs, length-drop i all)

  fronts : x ∷ drop (i + 1) xs ≡ get_or all i x ∷ drop (i + 1) all
  fronts = ap (λ (y : X). y ∷ drop (i + 1) xs) here ∙ sym (drop_more xs i x inside) ∙ ahead ∙ drop_more all i x inside_all

  pub ahead_more : drop (i + 1) xs ≡ drop (i + 1) all
  ahead_more = let e = fronts in cc

  pub ahead_written : (kept : ℕ) → kept ≤ i → drop (i + 1) (set xs kept x) ≡ drop (i + 1) all
  ahead_written kept low = drop-set-lt (i + 1) xs kept x (omega (arith, low)) ∙ ahead_more

  split : (test : X → Bool) → filter test (take (i + 1) all) ≡ filter test (take i all) ++ filter test (x ∷ [])
  split test =
      let e = fronts in
      let same : get_or all i x ≡ x = cc in
      ap (filter test) (take_more all i x inside_all ∙ ap (λ (y : X). take i all ++ y ∷ []) same) ∙ filter-append test (take i all) (x ∷ [])

  module _ (test : X → Bool) (kept : ℕ) (front : take kept xs ≡ filter test (take i all)) where
    pub kept_more : kept ≤ i → test x ≡ true → take (kept + 1) (set xs kept x) ≡ filter test (take (i + 1) all)
    kept_more low said =
        take_more_set xs kept x (omega (arith, low, inside)) ∙ ap (λ (ys : List X). ys ++ x ∷ []) front
        ∙ sym (split test ∙ ap (λ (ys : List X). filter test (take i all) ++ ys) (one_kept test x said))

    pub left_out : test x ≡ false → take kept xs ≡ filter test (take (i + 1) all)
    left_out said =
        front ∙ sym (split test ∙ ap (λ (ys : List X). filter test (take i all) ++ ys) (one_left test x said) ∙ append-nil (filter test (take i all)))
