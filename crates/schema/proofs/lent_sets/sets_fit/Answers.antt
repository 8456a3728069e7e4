use Rattle.std.proofs.Common.{◌≡◌, ℕ, ◌^◌, ltb, List, [], ◌∷◌, length, refl, ◌∙◌, rules}
use Rattle.std.specs.List.{list_all}
use Rattle.std.proofs.lemmas.Bool.Decides.{nat_tests}
use Rattle.std.proofs.lemmas.Iterator.{YieldsList-from_slice}
use Rattle.std.proofs.lemmas.Iterator.Search.{all_from_yields_List}
use Rattle.schema.specs.Layout.{all_sets_fit}
use Rattle.schema.proofs.lent_sets.sets_fit.Goals as goal

all_fit : (n : ℕ) (xs : List ℕ) → list_all (λ b. ltb b (2 ^ n)) xs ≡ all_sets_fit n (length xs) xs
unfolding all_sets_fit
all_fit n [] = refl
all_fit n (x ∷ xs) = rw (all_fit n xs)

pub returns : goal.returns
returns c =
    let n = c.args.width.columns in
    let xs = c.args.sets.now in
    all_from_yields_List (λ b. ltb b (2 ^ n)) _ _ _ c.all.ensures.ran (YieldsList-from_slice xs cc) (λ x b q k. search (rules, nat_tests)) ∙ all_fit n xs
