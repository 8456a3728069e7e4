-- There is always a key, found by leaving out column by column; and the list of all keys is one. Assumes nothing.
use Rattle.std.proofs.Common.{◌≡◌, true, List, [], arith}
use Rattle.columns.specs.Cols.{Cols}
use Rattle.dependencies.specs.Tables.{Dep}
use Rattle.dependencies.specs.Closure.{closure}
use Rattle.keys.specs.Keys.{Key, AllKeys, KeysOne}
use Rattle.columns.specs.Members.{In, Sub}
use Rattle.columns.proofs.Members.{at_in}
use Rattle.columns.proofs.Columns.{all_in_sub, sub_all_in}
use Rattle.dependencies.proofs.Closures.{closure_grows}
use Rattle.columns.proofs.Shrink.{keep_sub, keep_good}
use Rattle.columns.proofs.InOrder.{one_list, listed_in, in_listed}
use Rattle.dependencies.proofs.Fixing.{fixes_all_lem, implied_fixes, fixes_implied}
use Rattle.dependencies.proofs.Reduced.{reduced, reduced_least}
use Rattle.columns.proofs.Rising.{keep_rising}

pub reduced_key : (ds : List Dep) (p k : Cols) → Sub k p → fixes_all_lem ds p k ≡ true → Key ds p (reduced ds p k)
reduced_key ds p k f h =
    record {
      inside = sub_all_in (reduced ds p k) p (λ c i. f c (keep_sub (fixes_all_lem ds p) [] k c i));
      fixes = fixes_implied ds p (reduced ds p k) (keep_good (fixes_all_lem ds p) [] k h);
      least = λ j l e.
          sub_all_in (reduced ds p k) j (reduced_least ds p k j (all_in_sub j (reduced ds p k) l) (implied_fixes ds p j e));
    }

abbrev pub key_of : List Dep → Cols → Cols
key_of ds p = reduced ds p p

pub key_of_key : (ds : List Dep) (p : Cols) → Key ds p (key_of ds p)
key_of_key ds p = reduced_key ds p p (λ c i. i) (sub_all_in p (closure ds p) (closure_grows ds p))

keys_sub : (ds : List Dep) (p : Cols) (ks js : List Cols) → AllKeys ds p ks → AllKeys ds p js → Sub ks js
keys_sub ds p ks js a b k i = listed_in (b.all k (a.rise k (in_listed ks k i)) (a.keys k (in_listed ks k i)))

pub keys_one : KeysOne
unfolding KeysOne
keys_one ds p ks js r a b = (
  one_list ks js a.order b.order (keys_sub ds p ks js a b) (keys_sub ds p js ks b a),
  let h : In (key_of ds p) ks = listed_in (a.all (key_of ds p) (keep_rising (fixes_all_lem ds p) [] p r) (key_of_key ds p)) in
      let i = at_in ks (key_of ds p) [] h in
      omega (arith, i.1),
)
