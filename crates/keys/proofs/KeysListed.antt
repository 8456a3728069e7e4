-- A list that passes the test is the list of all keys. Assumes nothing.
use Rattle.std.proofs.Common.{◌≡◌, Bool, true, not, ◌&&◌, ◌||◌, List, sym, refl, ◌∙◌, subst, inl, inr}
use Rattle.std.proofs.lemmas.Bool.{true≢false, and_parts, and_from, or_cases, not-true, not_from_false, cases_Bool}
use Rattle.columns.specs.Cols.{Cols, all_in, Rising, less}
use Rattle.dependencies.specs.Tables.{Dep}
use Rattle.keys.specs.Keys.{Key, AllKeys, is_key, are_all_keys}
use Rattle.columns.specs.Every.{every, any, subsets}
use Rattle.dependencies.specs.Closure.{does_fix}
use Rattle.columns.specs.Order.{is_rising, is_in_order}
use Rattle.columns.specs.Members.{In, Sub}
use Rattle.columns.proofs.Columns.{in_or_not, all_in_sub, sub_all_in, in_less, less_in}
use Rattle.columns.proofs.InOrder.{listed_in, in_listed, order_told}
use Rattle.dependencies.proofs.Fixing.{fixes_monotone, implied_fixes, fixes_implied}
use Rattle.columns.proofs.Everyone.{every_at, every_from, any_some}
use Rattle.columns.proofs.Subsets.{subset_same}
use Rattle.columns.proofs.Rising.{rising_told, rising_same}

pub key_told : (ds : List Dep) (p k : Cols) → all_in k p ≡ true → is_key ds p k ≡ true → Key ds p k
key_told ds p k l h =
    let w = and_parts (does_fix ds k p) (every k (λ a. not (does_fix ds (less k a) p))) h in
    record {
      inside = l;
      fixes = fixes_implied ds p k w.0;
      least = λ j m f.
          sub_all_in k j (λ c i.
          elim (in_or_not j c) [
            | inl q ↦ q
            | inr q ↦
                absurd (true≢false
                (sym (fixes_monotone ds p j (less k c)
                (λ x z. less_in k c x (all_in_sub j k m x z) (λ e. q (subst (λ v. In v j) e z))) (implied_fixes ds p j f))
                ∙ not-true (does_fix ds (less k c) p) (every_at k (λ a. not (does_fix ds (less k a) p)) w.1 c i)))
          ]);
    }

-- a set with the members of a key passes the test
pub tell_key : (ds : List Dep) (p k y : Cols) → Key ds p k → Sub k y → Sub y k → is_key ds p y ≡ true
tell_key ds p k y key f g =
    and_from (does_fix ds y p) (every y (λ a. not (does_fix ds (less y a) p))) (fixes_monotone ds p k y f (implied_fixes ds p k key.fixes))
    (every_from y (λ a. not (does_fix ds (less y a) p)) (λ a i.
    elim (cases_Bool (does_fix ds (less y a) p)) [
      | inl e ↦
          let l = key.least (less y a) (sub_all_in (less y a) k (λ c j. g c (in_less y a c j).0)) (fixes_implied ds p (less y a) e) in
          absurd ((in_less y a a (all_in_sub k (less y a) l a (g a i))).1 refl)
      | inr e ↦ not_from_false (does_fix ds (less y a) p) e
    ]))

pub all_keys_told : (ds : List Dep) (p : Cols) (ks : List Cols) → are_all_keys ds p ks ≡ true → AllKeys ds p ks
all_keys_told ds p ks h =
    let good : Cols → Bool = λ k. is_rising k && (all_in k p && is_key ds p k) in
    let same : Cols → Cols → Bool = λ y k. all_in k y && all_in y k in
    let a = and_parts (is_in_order ks && every ks good) (every (subsets p) (λ y. not (is_key ds p y) || any ks (same y))) h in
    let b = and_parts (is_in_order ks) (every ks good) a.0 in
    let rises : (k : Cols) → In k ks → Rising k
    = λ k i. rising_told k (and_parts (is_rising k) (all_in k p && is_key ds p k) (every_at ks good b.1 k i)).0 in
    record {
      order = order_told ks b.0;
      rise = λ k i. rises k (listed_in i);
      keys = λ k i.
          let w = and_parts (all_in k p) (is_key ds p k) (and_parts (is_rising k) (all_in k p && is_key ds p k) (every_at ks good b.1 k (listed_in i))).1 in
          key_told ds p k w.0 w.1;
      all = λ k r key.
          let y = subset_same p k (all_in_sub k p key.inside) in
          elim (or_cases (not (is_key ds p y.0)) (any ks (same y.0)) (every_at (subsets p) (λ z. not (is_key ds p z) || any ks (same z)) a.1 y.0 y.1)) [
            | inl e ↦ absurd (true≢false (sym (tell_key ds p k y.0 key y.3 y.2) ∙ not-true (is_key ds p y.0) e))
            | inr e ↦
                let s = any_some ks (same y.0) e in
                let w = and_parts (all_in s.0 y.0) (all_in y.0 s.0) s.2 in
                let one· : s.0 ≡ k
                = rising_same s.0 k (rises s.0 s.1) r (λ c i. y.2 c (all_in_sub s.0 y.0 w.0 c i))
                (λ c i. all_in_sub y.0 s.0 w.1 c (y.3 c i)) in
                in_listed ks k (subst (λ v. In v ks) one· s.1)
          ];
    }
