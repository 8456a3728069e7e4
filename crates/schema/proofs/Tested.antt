-- Tests of all members, in std's words and in those of this repository.
use Rattle.std.proofs.Common.{◌≡◌, Bool, List, [], ◌∷◌, ◌&&◌, ◌||◌, refl, ap}
use Rattle.std.specs.List.{list_all, list_any}
use Rattle.columns.specs.Every.{every, any}

pub all_every : {A : Type 0} (f : A → Bool) (xs : List A) → list_all f xs ≡ every xs f
all_every f [] = refl
all_every f (x ∷ xs) = ap (λ b. f x && b) (all_every f xs)

pub any_any : {A : Type 0} (f : A → Bool) (xs : List A) → list_any f xs ≡ any xs f
any_any f [] = refl
any_any f (x ∷ xs) = ap (λ b. f x || b) (any_any f xs)
