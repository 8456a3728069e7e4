-- Lists of rules as the code has them, and the rules that they mean: what the law of `Redundancy` for rules rests on.
use Rattle.std.specs.Prelude.{◌≡◌, List, [], ◌∷◌, refl}
use Rattle.std.proofs.Common.{ap, subst, inl, inr}
use Rattle.columns.specs.Members.{In}
use Rattle.dependencies.specs.Tables.{Dep, Implied}
use Rattle.dependencies.specs.Rules.{dep, deps}
use Rattle.dependencies.specs.declared.rules.Rule.{Rule}
use Rattle.dependencies.proofs.Consequence.{member_follows, follows_through}
use Rattle.cover.specs.Trimmed.{RedundancyLaws}

pub in_deps : (xs : List Rule) (x : Rule) → In x xs → In (dep x) (deps xs)
unfolding deps
in_deps [] x i = absurd i
in_deps (y ∷ xs) x i = elim i [ inl e ↦ inl (ap dep e) | inr j ↦ inr (in_deps xs x j) ]

pub deps_in : (xs : List Rule) (m : Dep) → In m (deps xs) → (x : Rule) × In x xs × (dep x ≡ m)
unfolding deps
deps_in [] m i = absurd i
deps_in (y ∷ xs) m i = elim i [ inl e ↦ (y, inl refl, e) | inr j ↦ let r = deps_in xs m j in (r.0, inr r.1, r.2) ]

-- what follows is redundant
pub follow_laws : RedundancyLaws {A = Rule} (λ others rule. Implied (deps others) (dep rule))
follow_laws =
    record {
      own = λ xs x i. member_follows (deps xs) (dep x) (in_deps xs x i);
      through = λ us vs f x g.
          follows_through (deps us) (deps vs) (λ m i. let r = deps_in vs m i in subst (λ v. Implied (deps us) v) r.2 (f r.0 r.1)) (dep x) g;
    }
