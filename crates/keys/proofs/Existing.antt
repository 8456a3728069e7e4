-- The list of all keys exists, apart from any code that writes it.
use Rattle.std.proofs.Common.{◌≡◌, ℕ, ◌<◌, Bool, true, ◌||◌, List, [], ◌∷◌, ◌++◌, refl, ap, ◌∙◌, inl, inr, arith}
use Rattle.std.proofs.lemmas.Bool.{cases_Bool}
use Rattle.columns.specs.Cols.{Cols, has, all_in, Rising, none, one}
use Rattle.columns.specs.Members.{In, Sub}
use Rattle.columns.proofs.Columns.{all_in_sub, sub_all_in}
use Rattle.columns.proofs.Lists.{has_append}
use Rattle.columns.proofs.Members.{in_either}
use Rattle.columns.proofs.Rising.{rising_rest, rising_low, rising_put, has_single}
use Rattle.dependencies.specs.Tables.{Dep}
use Rattle.dependencies.specs.Closure.{does_fix}
use Rattle.keys.specs.Keys.{is_all_needed, KeysExist}
use Rattle.keys.specs.Listed.{Exactly}
use Rattle.keys.specs.Walks.{Found, With}
use Rattle.keys.proofs.Branches.{no_larger, found_here, spares_one, none_free, down_with, down_without, up, earlier}
use Rattle.keys.proofs.Entire.{found_whole}
use Rattle.keys.proofs.Lists.{exactly_none, exactly_one, exactly_both, all_keys}

rising_end : (s : Cols) (c : ℕ) → Rising s → ((d : ℕ) → In d s → d < c) → Rising (s ++ c ∷ [])
rising_end [] c r f = one
rising_end (a ∷ s) c r f =
    rising_put a (s ++ c ∷ []) (rising_end s c (rising_rest r) (λ d i. f d (inr i)))
    (λ d i. elim (in_either s (c ∷ []) d i) [ inl h ↦ rising_low r d h | inr h ↦ elim h [ inl e ↦ let l : a < c = f a (inl refl) in omega arith | inr z ↦ absurd z ] ])

with_end : (s : Cols) (c : ℕ) → With s c (s ++ c ∷ [])
with_end s c d = has_append s (c ∷ []) d ∙ ap (λ (v : Bool). has s d || v) (has_single c d)

-- a set that fixes p is the only key, or there is none
settled : (ds : List Dep) (p s l : Cols) → Rising s → all_in s p ≡ true → does_fix ds s p ≡ true → (ks : List Cols) × Exactly (Found ds p s l) ks
settled ds p s l r i f =
    elim (cases_Bool (is_all_needed ds p s)) [
      | inl n ↦ (s ∷ [], exactly_one (Found ds p s l) s (found_here ds p s l r i f n) (no_larger ds p s l r f))
      | inr n ↦ ([], exactly_none (Found ds p s l) (spares_one ds p s l r f n))
    ]

pub there_is : (l : Cols) (ds : List Dep) (p s : Cols) → Rising s → all_in s p ≡ true → Sub l p → ((c d : ℕ) → In c s → In d l → c < d) → Rising l
    → (ks : List Cols) × Exactly (Found ds p s l) ks
there_is [] ds p s r i sub low rl =
    elim (cases_Bool (does_fix ds s p)) [
      | inl f ↦ settled ds p s [] r i f
      | inr f ↦ ([], exactly_none (Found ds p s []) (none_free ds p s [] refl f))
    ]
there_is (c ∷ m) ds p s r i sub low rl =
    let t : Cols = s ++ c ∷ [] in
    let under : (d : ℕ) → In d s → d < c = λ d h. low d c h (inl refl) in
    let over : (d : ℕ) → In d m → c < d = rising_low rl in
    let w : With s c t = with_end s c in
    let inside : all_in t p ≡ true
    = sub_all_in t p (λ d h. elim (in_either s (c ∷ []) d h) [ inl a ↦ all_in_sub s p i d a | inr b ↦ elim b [ inl e ↦ sub d (inl e) | inr z ↦ absurd z ] ]) in
    let apart : (a d : ℕ) → In a t → In d m → a < d
    = λ a d h k.
    elim (in_either s (c ∷ []) a h) [
      | inl q ↦ low a d q (inr k)
      | inr q ↦ elim q [ inl e ↦ let x : c < d = over d k in omega arith | inr z ↦ absurd z ]
    ] in
    elim (cases_Bool (does_fix ds s p)) [
      | inl f ↦ settled ds p s (c ∷ m) r i f
      | inr f ↦
          let a = there_is m ds p t (rising_end s c r under) inside (λ d h. sub d (inr h)) apart (rising_rest rl) in
          let b = there_is m ds p s r i (λ d h. sub d (inr h)) (λ x d h k. low x d h (inr k)) (rising_rest rl) in (
            a.0 ++ b.0,
            exactly_both (Found ds p s (c ∷ m)) (Found ds p t m) (Found ds p s m) (down_with ds p s t m c under over w) (down_without ds p s t m c under over w)
                (up ds p s t m c under over w) (earlier ds p s t m c under over w f) a.0 b.0 a.1 b.1,
          )
    ]

pub keys_exist_lem : KeysExist
unfolding KeysExist
keys_exist_lem ds p r =
    let e = there_is p ds p [] none (sub_all_in [] p (λ c i. absurd i)) (λ c i. i) (λ c d i j. absurd i) r in
    (e.0, all_keys (Found ds p [] p) ds p e.0 (λ k h. h.rises) (λ k h. h.key) (found_whole ds p) e.1)
