-- Where a rule stands among those that a list means.
use Rattle.std.proofs.Common.{◌≡◌, List, [], ◌∷◌, ◌++◌, refl, ap, ◌∙◌}
use Rattle.dependencies.specs.Tables.{Dep}
use Rattle.dependencies.specs.Rules.{dep, deps}
use Rattle.dependencies.specs.declared.rules.Rule.{Rule}

-- where a meant rule stands, there stands a rule that means it
pub deps_split : (xs : List Rule) (us vs : List Dep) (m : Dep) → deps xs ≡ us ++ m ∷ vs
    → (fore aft : List Rule) × (x : Rule) × (xs ≡ fore ++ x ∷ aft) × (dep x ≡ m) × (deps (fore ++ aft) ≡ us ++ vs)
unfolding deps
deps_split [] [] vs m e = cc
deps_split [] (u ∷ us) vs m e = cc
deps_split (y ∷ xs) [] vs m e = ([], xs, y, refl, (cc), (cc))
deps_split (y ∷ xs) (u ∷ us) vs m e =
    let q : dep y ≡ u = cc in
    let r = deps_split xs us vs m (cc) in
    (y ∷ r.0, r.1, r.2, ap (λ v. y ∷ v) r.3, r.4, ap (λ v. dep y ∷ v) r.5 ∙ ap (λ v. v ∷ (us ++ vs)) q)
