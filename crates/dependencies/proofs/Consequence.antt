-- What follows from rules, from more rules, and from what follows. Assumes nothing.
use Rattle.std.proofs.Common.{◌≡◌, Bool, true, ◌&&◌, List, [], ◌∷◌, refl, subst, inl, inr}
use Rattle.std.proofs.lemmas.Bool.{and_parts, and_from}
use Rattle.dependencies.specs.Tables.{Dep, Implied}
use Rattle.columns.specs.Cols.{all_in}
use Rattle.dependencies.specs.Closure.{closure}
use Rattle.columns.specs.Members.{In, Sub}
use Rattle.columns.proofs.Columns.{all_in_sub, sub_all_in}
use Rattle.dependencies.proofs.Tables.{obeys_each, each_obeys}
use Rattle.dependencies.proofs.Exact.{closure_implied, implied_closure}

abbrev pub AllFollow : List Dep → List Dep → Type 0
AllFollow ds ms = (m : Dep) → In m ms → Implied ds m

pub member_follows : (ds : List Dep) → AllFollow ds ds
unfolding Implied
member_follows ds d h t o = obeys_each t ds o d h

pub follows_through : (ds ms : List Dep) → AllFollow ds ms → (d : Dep) → Implied ms d → Implied ds d
unfolding Implied
follows_through ds ms f d g t o = g t (each_obeys t ms (λ m h. f m h t o))

pub follows_more : (ms ds : List Dep) → Sub ms ds → (d : Dep) → Implied ms d → Implied ds d
follows_more ms ds f = follows_through ds ms (λ m h. member_follows ds m (f m h))

-- all rules of ms follow from xs, as a test
abbrev pub carries : List Dep → List Dep → Bool
carries [] xs = true
carries (m ∷ ms) xs = all_in m.right (closure xs m.left) && carries ms xs

pub carries_follow : (ms xs : List Dep) → carries ms xs ≡ true → AllFollow xs ms
carries_follow [] xs h d i = absurd i
carries_follow (m ∷ ms) xs h d i =
    let p = and_parts (all_in m.right (closure xs m.left)) (carries ms xs) h in
    elim i [
      | inl e ↦ subst (λ v. Implied xs v) e (closure_implied xs m (all_in_sub m.right (closure xs m.left) p.0))
      | inr k ↦ carries_follow ms xs p.1 d k
    ]

pub follow_carries : (ms xs : List Dep) → AllFollow xs ms → carries ms xs ≡ true
follow_carries [] xs f = refl
follow_carries (m ∷ ms) xs f =
    and_from (all_in m.right (closure xs m.left)) (carries ms xs)
    (sub_all_in m.right (closure xs m.left) (implied_closure xs m (f m (inl refl)))) (follow_carries ms xs (λ d i. f d (inr i)))

pub carries_monotone : (ms us vs : List Dep) → Sub us vs → carries ms us ≡ true → carries ms vs ≡ true
carries_monotone ms us vs f h = follow_carries ms vs (λ m i. follows_more us vs f m (carries_follow ms us h m i))
