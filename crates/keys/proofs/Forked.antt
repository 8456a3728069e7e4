-- The keys of a branch and those of its two halves, and the first of them.
use Rattle.std.proofs.Common.{◌≡◌, ℕ, ◌<◌, true, false, ◌⊎◌, List, ◌∷◌, Some, None, Option, sym, subst, inl, inr}
use Rattle.std.proofs.lemmas.Bool.{cases_Bool}
use Rattle.columns.specs.Cols.{Cols}
use Rattle.columns.specs.Members.{In}
use Rattle.columns.specs.Order.{before}
use Rattle.columns.specs.Sets.{cols}
use Rattle.columns.specs.declared.set.ColumnSet.{ColumnSet}
use Rattle.columns.proofs.Compared.{before_self}
use Rattle.columns.proofs.InOrder.{before_trans, before_not_self}
use Rattle.columns.proofs.SetNumbers.{cols_rising}
use Rattle.dependencies.specs.Tables.{Dep}
use Rattle.dependencies.specs.Closure.{does_fix}
use Rattle.keys.specs.Walks.{Found, KeyIn, Divided, First}
use Rattle.keys.specs.declared.branch.Branch.{Branch}
use Rattle.keys.proofs.Branches.{down_with, down_without, up, earlier}
use Rattle.keys.proofs.Dividing.{above, under}

-- of two sets only one stands before the other
pub not_both : (xs ys : Cols) → before xs ys ≡ true → before ys xs ≡ false
not_both xs ys h =
    elim (cases_Bool (before ys xs)) [ inl e ↦ absurd (before_not_self xs (before_trans xs ys xs h e)) | inr e ↦ e ]

pub first_leaf : (ds : List Dep) (b : Branch) → KeyIn ds b (cols b.chosen) → ((k : Cols) → KeyIn ds b k → cols b.chosen ≡ k)
    → First ds b (Some b.chosen)
first_leaf ds b h only = (h, λ k i. subst (λ v. before v (cols b.chosen) ≡ false) (only k i) (before_self (cols b.chosen)))

module _ (ds : List Dep) (b x y : Branch) (d : Divided b x y) where
  abbrev Whole : Cols → Type 0
  Whole k = Found ds (cols b.target) (cols b.chosen) (d.column ∷ cols x.free) k

  abbrev Has : Cols → Type 0
  Has k = Found ds (cols b.target) (cols x.chosen) (cols x.free) k

  abbrev Lacks : Cols → Type 0
  Lacks k = Found ds (cols b.target) (cols b.chosen) (cols x.free) k

  whole : (k : Cols) → KeyIn ds b k → Whole k
  whole k h = subst (λ v. Found ds (cols b.target) (cols b.chosen) v k) d.lowest h

  of_whole : (k : Cols) → Whole k → KeyIn ds b k
  of_whole k h = subst (λ v. Found ds (cols b.target) (cols b.chosen) v k) (sym d.lowest) h

  has_it : (k : Cols) → KeyIn ds x k → Has k
  has_it k h = subst (λ (v : ColumnSet). Found ds (cols v) (cols x.chosen) (cols x.free) k) d.aimed h

  of_has : (k : Cols) → Has k → KeyIn ds x k
  of_has k h = subst (λ (v : ColumnSet). Found ds (cols v) (cols x.chosen) (cols x.free) k) (sym d.aimed) h

  lacks_it : (k : Cols) → KeyIn ds y k → Lacks k
  lacks_it k h =
      subst (λ (v : ColumnSet). Found ds (cols b.target) (cols b.chosen) (cols v) k) d.rest
      (subst (λ (v : ColumnSet). Found ds (cols b.target) (cols v) (cols y.free) k) d.stays
      (subst (λ (v : ColumnSet). Found ds (cols v) (cols y.chosen) (cols y.free) k) d.aims h))

  of_lacks : (k : Cols) → Lacks k → KeyIn ds y k
  of_lacks k h =
      subst (λ (v : ColumnSet). Found ds (cols v) (cols y.chosen) (cols y.free) k) (sym d.aims)
      (subst (λ (v : ColumnSet). Found ds (cols b.target) (cols v) (cols y.free) k) (sym d.stays)
      (subst (λ (v : ColumnSet). Found ds (cols b.target) (cols b.chosen) (cols v) k) (sym d.rest) h))

  low : (e : ℕ) → In e (cols b.chosen) → e < d.column
  low = above (cols b.chosen) (cols b.free) (cols x.chosen) (cols x.free) d.column d.lowest b.apart

  high : (e : ℕ) → In e (cols x.free) → d.column < e
  high = under (cols b.chosen) (cols b.free) (cols x.chosen) (cols x.free) d.column d.lowest (cols_rising b.free)

  pub from_with : (k : Cols) → KeyIn ds x k → KeyIn ds b k
  from_with k h =
      of_whole k (down_with ds (cols b.target) (cols b.chosen) (cols x.chosen) (cols x.free) d.column low high d.chosen k (has_it k h))

  pub from_without : (k : Cols) → KeyIn ds y k → KeyIn ds b k
  from_without k h =
      of_whole k (down_without ds (cols b.target) (cols b.chosen) (cols x.chosen) (cols x.free) d.column low high d.chosen k (lacks_it k h))

  pub in_half : (k : Cols) → KeyIn ds b k → KeyIn ds x k ⊎ KeyIn ds y k
  in_half k h =
      elim (up ds (cols b.target) (cols b.chosen) (cols x.chosen) (cols x.free) d.column low high d.chosen k (whole k h))
      [ inl q ↦ inl (of_has k q) | inr q ↦ inr (of_lacks k q) ]

  module _ (not_yet : does_fix ds (cols b.chosen) (cols b.target) ≡ false) where
    pub with_first : (k j : Cols) → KeyIn ds x k → KeyIn ds y j → before k j ≡ true
    with_first k j h i =
        earlier ds (cols b.target) (cols b.chosen) (cols x.chosen) (cols x.free) d.column low high d.chosen not_yet k j (has_it k h) (lacks_it j i)

    pub first_with : (k : ColumnSet) → First ds x (Some k) → First ds b (Some k)
    first_with k a = (
      from_with (cols k) a.0,
      λ j h. elim (in_half j h) [ inl q ↦ a.1 j q | inr q ↦ not_both (cols k) j (with_first (cols k) j a.0 q) ],
    )

  pub first_without : (r : Option ColumnSet) → First ds x None → First ds y r → First ds b r
  first_without None a e = λ k h. elim (in_half k h) [ inl q ↦ a k q | inr q ↦ e k q ]
  first_without (Some k) a e = (from_without (cols k) e.0, λ j h. elim (in_half j h) [ inl q ↦ absurd (a j q) | inr q ↦ e.1 j q ])
