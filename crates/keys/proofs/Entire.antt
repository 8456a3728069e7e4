-- The branch of all sets inside a target has all its keys.
use Rattle.std.proofs.Common.{◌≡◌, List, [], Some, None, Option, sym, subst, inr, MatchOption}
use Rattle.columns.specs.Cols.{Cols, Rising}
use Rattle.columns.specs.Sets.{cols}
use Rattle.columns.specs.declared.set.ColumnSet.{ColumnSet}
use Rattle.columns.proofs.Columns.{all_in_sub}
use Rattle.columns.proofs.Rising.{keep_rising}
use Rattle.columns.proofs.SetNumbers.{cols_rising}
use Rattle.dependencies.specs.Tables.{Dep}
use Rattle.dependencies.proofs.Fixing.{fixes_all_lem}
use Rattle.keys.specs.Keys.{Key}
use Rattle.keys.specs.Walks.{Found, KeyIn, First, FirstKey}
use Rattle.keys.specs.declared.branch.Branch.{Branch}
use Rattle.keys.proofs.Keys.{key_of, key_of_key}

pub found_whole : (ds : List Dep) (p k : Cols) → Rising k → Key ds p k → Found ds p [] p k
found_whole ds p k r key = record { rises = r; key = key; grown = λ c i. absurd i; only = λ c i. inr (all_in_sub k p key.inside c i) }

module _ (ds : List Dep) (b : Branch) (aim : ColumnSet) (aimed : b.target ≡ aim) (bare : cols b.chosen ≡ []) (all-free : b.free ≡ aim) where
  pub in_entire : (k : Cols) → Rising k → Key ds (cols aim) k → KeyIn ds b k
  in_entire k r key =
      subst (λ (v : ColumnSet). Found ds (cols v) (cols b.chosen) (cols b.free) k) (sym aimed)
      (subst (λ (v : Cols). Found ds (cols aim) v (cols b.free) k) (sym bare)
      (subst (λ (v : ColumnSet). Found ds (cols aim) [] (cols v) k) (sym all-free) (found_whole ds (cols aim) k r key)))

  pub of_entire : (k : Cols) → KeyIn ds b k → Key ds (cols aim) k
  of_entire k h = subst (λ (v : ColumnSet). Key ds (cols v) k) aimed h.key

  pub first_entire : (r : Option ColumnSet) → First ds b r → MatchOption r ⊥ (λ k. FirstKey ds (cols aim) (cols k))
  first_entire (Some k) h = record { key = of_entire (cols k) h.0; first = λ j r q. h.1 j (in_entire j r q) }
  first_entire None h =
      let k = key_of ds (cols aim) in
      h k (in_entire k (keep_rising (fixes_all_lem ds (cols aim)) [] (cols aim) (cols_rising aim)) (key_of_key ds (cols aim)))
