-- Fine rules that say the same as given ones, of which none follows from the others, are a least set of them.
use Rattle.std.proofs.Common.{◌≡◌, ℕ, ◌<◌, ◌≤◌, true, List, ◌∷◌, ◌++◌, length, get_or, sym, refl, ap, subst, inl, inr}
use Rattle.std.proofs.lemmas.List.{append-nil}
use Rattle.columns.specs.Cols.{has, all_in, Rising}
use Rattle.columns.specs.Members.{In, Sub}
use Rattle.columns.proofs.Members.{in_right, in_at}
use Rattle.columns.proofs.Columns.{has_in, in_has, all_in_sub, sub_all_in}
use Rattle.columns.proofs.Shrink.{rest_sub}
use Rattle.columns.proofs.Rising.{rising_once}
use Rattle.dependencies.specs.Tables.{Dep, Implied, no_dep}
use Rattle.dependencies.specs.Closure.{closure}
use Rattle.dependencies.specs.Rules.{dep, deps}
use Rattle.dependencies.specs.declared.rules.Rule.{Rule}
use Rattle.dependencies.proofs.Exact.{closure_implied, implied_closure}
use Rattle.dependencies.proofs.Consequence.{AllFollow, follows_through}
use Rattle.cover.specs.Least.{Least}
use Rattle.cover.specs.Ordered.{Part, Narrowed, singles}
use Rattle.cover.specs.Trimmed.{Trimmed}
use Rattle.cover.specs.Fine.{Fine, Fines, AllSplit}
use Rattle.cover.proofs.Orders.{narrowed_part, part_deps, part_sub, part_short}
use Rattle.cover.specs.RuleLists.{in_deps, deps_in}
use Rattle.cover.proofs.RuleLists.{deps_split}

abbrev pub RedundantRule : List Rule → Rule → Type 0
RedundantRule others rule = Implied (deps others) (dep rule)

module _ (ds : List Dep) (fs kept : List Rule) (a : AllSplit ds ds (deps fs)) (t : Trimmed RedundantRule fs kept) where
  abbrev ms : List Dep
  ms = deps kept

  kept_part : Part kept fs
  kept_part = subst (λ v. Part v fs) (append-nil kept) t.ordered

  pub kept_few : length kept ≤ length fs
  kept_few = part_short kept_part

  pub kept_fine : Fines ds ms
  kept_fine m i = let r = deps_in kept m i in a.fine m (subst (λ v. In v (deps fs)) r.2 (in_deps fs r.0 (part_sub kept_part r.0 r.1)))

  -- in the order of the given rules and of their right columns
  pub kept_ordered : Narrowed (singles ds) ms
  kept_ordered = narrowed_part a.ordered (part_deps kept_part)

  at_fine : (i : ℕ) → i < length ms → Fine ds (get_or ms i no_dep)
  at_fine i h = kept_fine (get_or ms i no_dep) (in_at ms i no_dep h)

  down : AllFollow ds ms
  down m i =
      let f = kept_fine m i in
      closure_implied ds m (λ c k.
      elim (subst (λ v. In c v) f.right_is k)
      [ inl e ↦ subst (λ v. In v (closure ds m.left)) e (has_in (closure ds m.left) f.column f.reduced.fixes) | inr z ↦ absurd z ])

  up : AllFollow ms ds
  up d i =
      follows_through ms (deps fs) (λ m k. let r = deps_in fs m k in subst (λ v. Implied ms v) r.2 (t.covers r.0 r.1)) d (a.got d i)

  pub trimmed_least : Least ds ms
  trimmed_least =
      record {
        same = λ d. (follows_through ms ds up d, follows_through ds ms down d);
        single = λ i h. ap length (at_fine i h).right_is;
        no_rule = λ i xs ys e q h f.
            let r = deps_split kept xs ys (get_or ms i no_dep) e in
            t.needed r.0 r.1 r.2 r.3 (subst (λ v. Implied v (dep r.2)) (sym r.5) (subst (λ v. Implied (xs ++ ys) v) (sym r.4) f));
        no_column = λ i xs ys c h e f.
            let m : Dep = get_or ms i no_dep in
            let g = at_fine i h in
            let b = g.column in
            let d : Dep = record { left = xs ++ ys; right = m.right } in
            let fixed : has (closure ds (xs ++ ys)) b ≡ true
            = in_has (closure ds (xs ++ ys)) b (implied_closure ds d (follows_through ds ms down d f) b (subst (λ v. In b v) (sym g.right_is) (inl refl))) in
            let less : all_in (xs ++ ys) m.left ≡ true
            = sub_all_in (xs ++ ys) m.left (subst (λ v. Sub (xs ++ ys) v) (sym e) (rest_sub xs ys c)) in
            let back = all_in_sub m.left (xs ++ ys) (g.reduced.least (xs ++ ys) less fixed) in
            rising_once xs ys c (subst (λ v. Rising v) e g.rises) (back c (subst (λ v. In c v) (sym e) (in_right xs (c ∷ ys) c (inl refl))));
      }
