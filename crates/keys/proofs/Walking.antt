-- What each way out of the walk has written.
use Rattle.std.proofs.Common.{◌≡◌, ℕ, ◌+◌, ◌-◌, ◌<◌, false, List, [], ◌∷◌, ◌++◌, length, Some, None, Option, sym, subst, arith}
use borrow.Rule.Slice.PartMut.{mid_of, put_mid}
use Rattle.columns.specs.Cols.{Cols, set_in}
use Rattle.columns.specs.Members.{In}
use Rattle.columns.specs.Sets.{cols}
use Rattle.columns.proofs.Columns.{in_has, all_in_sub}
use Rattle.columns.proofs.SetNumbers.{cols_rising, cols_below}
use Rattle.dependencies.specs.Tables.{Dep}
use Rattle.dependencies.specs.Closure.{does_fix}
use Rattle.keys.specs.Listed.{Exactly, sets, Walked}
use Rattle.keys.specs.Room.{Emitted}
use Rattle.keys.specs.Walks.{KeyIn, Divided}
use Rattle.keys.specs.declared.branch.Branch.{Branch}
use Rattle.keys.proofs.Existing.{there_is}
use Rattle.keys.proofs.Forked.{from_with, from_without, in_half, with_first}
use Rattle.keys.proofs.Lists.{exactly_none, exactly_one, exactly_both}
use Rattle.keys.proofs.Numbered.{numbers_of, sets_append}
use Rattle.keys.proofs.Rooms.{nothing_put, both, cut, stop}

pub walked_leaf : (ds : List Dep) (b : Branch) (row : List ℕ) (number : ℕ) (r : Option ℕ) (after : List ℕ) → cols b.chosen ≡ set_in 0 64 number
    → KeyIn ds b (cols b.chosen) → ((k : Cols) → KeyIn ds b k → cols b.chosen ≡ k) → Emitted row (number ∷ []) r after → Walked ds b row r after
walked_leaf ds b row number r after e h only put =
    record {
      list = number ∷ [];
      found = subst (λ (v : Cols). Exactly (KeyIn ds b) (v ∷ [])) e (exactly_one (KeyIn ds b) (cols b.chosen) h only);
      put = put;
    }

pub walked_dead : (ds : List Dep) (b : Branch) (row : List ℕ) → ((k : Cols) → KeyIn ds b k → ⊥) → Walked ds b row (Some 0) row
walked_dead ds b row f = record { list = []; found = exactly_none (KeyIn ds b) f; put = nothing_put row }

-- the keys of a branch, as numbers, whether or not there is room for them
pub there_are : (ds : List Dep) (b : Branch) → (ys : List ℕ) × Exactly (KeyIn ds b) (sets ys)
there_are ds b =
    let p = cols b.target in
    let s = cols b.chosen in
    let l = cols b.free in
    let e = there_is l ds p s (cols_rising b.chosen) b.inside (all_in_sub l p b.within)
    (λ c d i j. b.apart c d (in_has s c i) (in_has l d j)) (cols_rising b.free) in
    let small : (k : Cols) → In k e.0 → (c : ℕ) → In c k → c < 64
    = λ k i c j.
    let h : c < 16 = cols_below b.target c (in_has p c (all_in_sub k p (e.1.only k i).key.inside c j)) in
    omega arith in
    let n = numbers_of e.0 (λ k i. (e.1.only k i).rises) small in
    (n.0, subst (λ (v : List Cols). Exactly (KeyIn ds b) v) (sym n.1) e.1)

module _ (ds : List Dep) (b x y : Branch) (d : Divided b x y) (not_yet : does_fix ds (cols b.chosen) (cols b.target) ≡ false) where
  halves : (xs ys : List ℕ) → Exactly (KeyIn ds x) (sets xs) → Exactly (KeyIn ds y) (sets ys) → Exactly (KeyIn ds b) (sets (xs ++ ys))
  halves xs ys a e =
      subst (λ (v : List Cols). Exactly (KeyIn ds b) v) (sym (sets_append xs ys))
      (exactly_both (KeyIn ds b) (KeyIn ds x) (KeyIn ds y) (from_with ds b x y d) (from_without ds b x y d) (in_half ds b x y d)
      (with_first ds b x y d not_yet) (sets xs) (sets ys) a e)

  pub walked_both : (row : List ℕ) (n : ℕ) (mid rest : List ℕ) → Walked ds x row (Some n) mid → (m : ℕ)
      → Walked ds y (mid_of n (length mid - n) mid) (Some m) rest → Walked ds b row (Some (n + m)) (put_mid n (length mid - n) mid rest)
  walked_both row n mid rest a m e =
      record {
        list = a.list ++ e.list;
        found = halves a.list e.list a.found e.found;
        put = both row a.list n mid a.put e.list rest m e.put;
      }

  -- there was no room for all keys of the second half
  pub walked_cut : (row : List ℕ) (n : ℕ) (mid rest : List ℕ) → Walked ds x row (Some n) mid
      → Walked ds y (mid_of n (length mid - n) mid) None rest → Walked ds b row None (put_mid n (length mid - n) mid rest)
  walked_cut row n mid rest a e =
      record {
        list = a.list ++ e.list;
        found = halves a.list e.list a.found e.found;
        put = cut row a.list n mid a.put e.list rest e.put;
      }

  -- where the first half found no room, the second is not walked
  pub walked_stop : (row after : List ℕ) → Walked ds x row None after → Walked ds b row None after
  walked_stop row after a =
      let e = there_are ds y in
      record { list = a.list ++ e.0; found = halves a.list e.0 a.found e.1; put = stop row a.list after e.0 a.put }
