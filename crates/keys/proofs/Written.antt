-- What the request for all keys leaves in the lent row, from what the walk wrote.
use Rattle.std.proofs.Common.{◌≡◌, ℕ, suc, ◌+◌, ◌*◌, ◌^◌, ◌<◌, ◌≤◌, List, [], ◌∷◌, Some, None, Ok, Err, Option, Result, sym, ap, ◌∙◌, subst, inl, arith}
use Rattle.columns.specs.Cols.{Cols, set_in}
use Rattle.columns.specs.Sets.{cols}
use Rattle.columns.specs.declared.set.ColumnSet.{ColumnSet}
use Rattle.dependencies.specs.Tables.{Dep}
use Rattle.dependencies.specs.Layout.{columns_of, count_of, rules_of_row, reading, reading_with}
use Rattle.dependencies.specs.Told.{done, refused, told}
use Rattle.dependencies.specs.declared.refusals.Refusal.{Refusal}
use Rattle.dependencies.proofs.Asking.{reading_done, fits_next, fits_not, fits_none}
use Rattle.keys.specs.Answer.{Filled, KeysWritten, KeysTold}
use Rattle.keys.specs.Keys.{AllKeys}
use Rattle.keys.specs.Listed.{sets, Walked}
use Rattle.keys.specs.Walks.{KeyIn}
use Rattle.keys.specs.declared.branch.Branch.{Branch}
use Rattle.keys.proofs.Entire.{in_entire, of_entire}
use Rattle.keys.proofs.Lists.{all_keys}

module _ (ds : List Dep) (b : Branch) (aim : ColumnSet) (aimed : b.target ≡ aim) (bare : cols b.chosen ≡ []) (all-free : b.free ≡ aim) (row : List ℕ) where
  listed : (r : Option ℕ) (after : List ℕ) (w : Walked ds b row r after) → AllKeys ds (cols aim) (sets w.list)
  listed r after w =
      all_keys (KeyIn ds b) ds (cols aim) (sets w.list) (λ k h. h.rises) (of_entire ds b aim aimed bare all-free) (in_entire ds b aim aimed bare all-free) w.found

  pub filled : (r : Option ℕ) (after : List ℕ) → Walked ds b row r after → Filled ds (cols aim) row r after
  filled (Some k) after w = (w.list, listed (Some k) after w, w.put.0, w.put.1, w.put.2)
  filled None after w = (w.list, listed None after w, w.put.0, w.put.1)

-- one set asked of behind the rules: it fits, or is told
module _ (xs : List ℕ) (bits n k : ℕ) (read : reading xs ≡ done) (n-is : n ≡ columns_of xs) (k-is : k ≡ count_of xs) where
  pub set_fits : bits < 2 ^ n → reading_with xs (bits ∷ []) ≡ done
  set_fits h = reading_done xs (bits ∷ []) n k read n-is k-is ∙ fits_next n (2 * k) 0 bits [] h ∙ fits_none n (suc (2 * k)) []

  pub set_told : (e : Refusal) → 2 ^ n ≤ bits → told e ≡ refused 3 (2 * k + 0) → reading_with xs (bits ∷ []) ≡ told e
  set_told e h t =
      let z : 2 * k + 0 ≡ 2 * k = omega arith in
      reading_done xs (bits ∷ []) n k read n-is k-is ∙ fits_not n (2 * k) 0 bits [] h ∙ sym (t ∙ ap (refused 3) z)

pub told_keys : (xs : List ℕ) (bits : ℕ) (ds : List Dep) (p : Cols) (row : List ℕ) (r : Result ℕ Refusal) (after : List ℕ) → reading_with xs (bits ∷ []) ≡ done
    → ds ≡ rules_of_row xs → p ≡ set_in 0 (columns_of xs) bits → KeysWritten ds p row r after → KeysTold xs bits row r after
told_keys xs bits ds p row r after read ds-is p-is w =
    by r (subst (λ (v : Cols). KeysWritten (rules_of_row xs) v row r after) p-is (subst (λ (v : List Dep). KeysWritten v p row r after) ds-is w))
  where
    by : (q : Result ℕ Refusal) → KeysWritten (rules_of_row xs) (set_in 0 (columns_of xs) bits) row q after → KeysTold xs bits row q after
    by (Ok k) h = (read, h)
    by (Err e) h = inl (read, h)
