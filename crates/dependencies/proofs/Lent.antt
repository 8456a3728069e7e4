-- Lists written into lent rows, one after the other.
use Rattle.std.proofs.Common.{◌≡◌, ℕ, suc, ◌+◌, ◌<◌, ◌≤◌, List, [], ◌∷◌, ◌++◌, length, take, drop, set, refl, ap, ◌∙◌, arith}
use Rattle.std.proofs.lemmas.List.{length-set, set_past}
use Rattle.dependencies.specs.Lent.{put_list}

pub length_put : (xs : List ℕ) (n : ℕ) (ys : List ℕ) → length (put_list xs n ys) ≡ length xs
unfolding put_list
length_put xs n [] = refl
length_put xs n (y ∷ ys) = length_put (set xs n y) (suc n) ys ∙ length-set xs n y

pub put_append : (xs : List ℕ) (n m : ℕ) (ys zs : List ℕ) → m ≡ n + length ys → put_list xs n (ys ++ zs) ≡ put_list (put_list xs n ys) m zs
unfolding put_list
put_append xs n m [] zs e = ap (λ (k : ℕ). put_list xs k zs) (omega arith)
put_append xs n m (y ∷ ys) zs e = put_append (set xs n y) (suc n) m ys zs (omega arith)

pub put_cons : (x : ℕ) (xs : List ℕ) (n : ℕ) (ys : List ℕ) → put_list (x ∷ xs) (suc n) ys ≡ x ∷ put_list xs n ys
unfolding put_list
put_cons x xs n [] = refl
put_cons x xs n (y ∷ ys) = put_cons x (set xs n y) (suc n) ys

pub put_fits : (xs ys : List ℕ) → length ys ≤ length xs → put_list xs 0 ys ≡ ys ++ drop (length ys) xs
unfolding put_list
put_fits xs [] h = refl
put_fits [] (y ∷ ys) h = absurd (omega arith)
put_fits (x ∷ xs) (y ∷ ys) h = put_cons y xs 0 ys ∙ ap (λ v. y ∷ v) (put_fits xs ys (omega arith))

pub put_full : (xs : List ℕ) (n : ℕ) (ys : List ℕ) → length xs ≤ n → put_list xs n ys ≡ xs
unfolding put_list
put_full xs n [] h = refl
put_full xs n (y ∷ ys) h = rw (set_past xs n y h) (put_full xs (suc n) ys (omega arith))

pub put_cut : (xs ys : List ℕ) → length xs < length ys → put_list xs 0 ys ≡ take (length xs) ys
unfolding put_list
put_cut xs [] h = absurd (omega arith)
put_cut [] (y ∷ ys) h = put_full [] 1 ys (omega arith)
put_cut (x ∷ xs) (y ∷ ys) h = put_cons y xs 0 ys ∙ ap (λ v. y ∷ v) (put_cut xs ys (omega arith))
