-- The keys of a branch: of one that is settled, of one that cannot fix its target, and of the two halves of one that is divided.
use Rattle.std.proofs.Common.{◌≡◌, ℕ, ◌<◌, ◌≤◌, true, false, ◌||◌, eqb, ◌⊎◌, List, [], ◌∷◌, sym, refl, ◌∙◌, subst, inl, inr, arith}
use Rattle.std.proofs.lemmas.Bool.{both_ways, cases_Bool, or_left, or_right, or_cases, and_parts, and_from, eq-eqb, eqb-true}
use Rattle.columns.specs.Cols.{Cols, has, all_in, Rising}
use Rattle.columns.specs.Members.{In, Sub}
use Rattle.columns.specs.Order.{before}
use Rattle.columns.proofs.Columns.{has_in, in_has, all_in_sub, sub_all_in, not_all_in, in_or_not}
use Rattle.columns.proofs.Rising.{rising_same}
use Rattle.dependencies.specs.Tables.{Dep}
use Rattle.dependencies.specs.Closure.{does_fix}
use Rattle.dependencies.proofs.Fixing.{fixes_monotone, implied_fixes, fixes_implied}
use Rattle.keys.specs.Keys.{is_all_needed}
use Rattle.keys.specs.Walks.{Found, With}
use Rattle.keys.proofs.KeysListed.{key_told, tell_key}
use Rattle.keys.proofs.Orderly.{before_split}

module _ (ds : List Dep) (p s l : Cols) where
  -- a key that has all columns of a set that fixes p is that set
  pub no_larger : Rising s → does_fix ds s p ≡ true → (k : Cols) → Found ds p s l k → s ≡ k
  no_larger r f k h =
      rising_same s k r h.rises h.grown (all_in_sub k s (h.key.least s (sub_all_in s k h.grown) (fixes_implied ds p s f)))

  pub found_here : Rising s → all_in s p ≡ true → does_fix ds s p ≡ true → is_all_needed ds p s ≡ true → Found ds p s l s
  found_here r i f n =
      record { rises = r; key = key_told ds p s i (and_from (does_fix ds s p) (is_all_needed ds p s) f n); grown = λ c h. h; only = λ c h. inl h }

  pub spares_one : Rising s → does_fix ds s p ≡ true → is_all_needed ds p s ≡ false → (k : Cols) → Found ds p s l k → ⊥
  spares_one r f n k h =
      let e : s ≡ k = no_larger r f k h in
      let t = tell_key ds p k s h.key (subst (λ v. Sub v s) e (λ c i. i)) h.grown in
      both_ways (is_all_needed ds p s) n (and_parts (does_fix ds s p) (is_all_needed ds p s) t).1

  -- what lies in a set that does not fix p does not either
  none_in : (u : Cols) → does_fix ds u p ≡ false → (k : Cols) → Found ds p s l k → Sub k u → ⊥
  none_in u f k h i = both_ways (does_fix ds u p) f (fixes_monotone ds p k u i (implied_fixes ds p k h.key.fixes))

  pub hopeless : (u : Cols) → ((d : ℕ) → has u d ≡ (has s d || has l d)) → does_fix ds u p ≡ false → (k : Cols) → Found ds p s l k → ⊥
  hopeless u w f k h =
      none_in u f k h (λ d i.
      has_in u d (w d ∙
      elim (h.only d i) [ inl a ↦ or_left (has s d) (has l d) (in_has s d a) | inr b ↦ or_right (has s d) (has l d) (in_has l d b) ]))

  pub none_free : l ≡ [] → does_fix ds s p ≡ false → (k : Cols) → Found ds p s l k → ⊥
  none_free e f k h = none_in s f k h (λ d i. elim (h.only d i) [ inl a ↦ a | inr b ↦ absurd (subst (λ v. In d v) e b) ])

-- t is s with the column c, which lies between the columns of s and those of m
module _ (ds : List Dep) (p s t m : Cols) (c : ℕ) (low : (d : ℕ) → In d s → d < c) (high : (d : ℕ) → In d m → c < d) (w : With s c t) where
  old_in : Sub s t
  old_in d i = has_in t d (w d ∙ or_left (has s d) (eqb c d) (in_has s d i))

  new_in : In c t
  new_in = has_in t c (w c ∙ or_right (has s c) (eqb c c) (eq-eqb c c refl))

  old_or_new : (d : ℕ) → In d t → In d s ⊎ (c ≡ d)
  old_or_new d i =
      elim (or_cases (has s d) (eqb c d) (sym (w d) ∙ in_has t d i)) [ inl a ↦ inl (has_in s d a) | inr b ↦ inr (eqb-true c d b) ]

  pub down_with : (k : Cols) → Found ds p t m k → Found ds p s (c ∷ m) k
  down_with k h =
      record {
        rises = h.rises;
        key = h.key;
        grown = λ d i. h.grown d (old_in d i);
        only = λ d i.
            elim (h.only d i) [
              | inl a ↦ elim (old_or_new d a) [ inl o ↦ inl o | inr e ↦ inr (inl e) ]
              | inr b ↦ inr (inr b)
            ];
      }

  pub down_without : (k : Cols) → Found ds p s m k → Found ds p s (c ∷ m) k
  down_without k h =
      record { rises = h.rises; key = h.key; grown = h.grown; only = λ d i. elim (h.only d i) [ inl a ↦ inl a | inr b ↦ inr (inr b) ] }

  -- each key is in one half
  pub up : (k : Cols) → Found ds p s (c ∷ m) k → Found ds p t m k ⊎ Found ds p s m k
  up k h =
      elim (in_or_not k c) [
        | inl i ↦
            inl (record {
              rises = h.rises;
              key = h.key;
              grown = λ d j. elim (old_or_new d j) [ inl o ↦ h.grown d o | inr e ↦ subst (λ v. In v k) e i ];
              only = λ d j.
                  elim (h.only d j) [
                    | inl a ↦ inl (old_in d a)
                    | inr b ↦ elim b [ inl e ↦ inl (subst (λ v. In v t) e new_in) | inr q ↦ inr q ]
                  ];
            })
        | inr no· ↦
            inr (record {
              rises = h.rises;
              key = h.key;
              grown = h.grown;
              only = λ d j.
                  elim (h.only d j) [
                    | inl a ↦ inl a
                    | inr b ↦ elim b [ inl e ↦ absurd (no· (subst (λ v. In v k) (sym e) j)) | inr q ↦ inr q ]
                  ];
            })
      ]

  -- where s does not fix p, a key without c has a later column, so that those with c come first
  pub earlier : does_fix ds s p ≡ false → (k j : Cols) → Found ds p t m k → Found ds p s m j → before k j ≡ true
  earlier f k j a b =
      let from-j : (e : ℕ) → e < c → In e j → In e s
      = λ e l i. elim (b.only e i) [ inl o ↦ o | inr q ↦ let r : c < e = high e q in absurd (omega arith) ] in
      let from-k : (e : ℕ) → e < c → In e k → In e s
      = λ e l i.
      elim (a.only e i) [
        | inl o ↦ elim (old_or_new e o) [ inl q ↦ q | inr q ↦ absurd (omega arith) ]
        | inr q ↦ let r : c < e = high e q in absurd (omega arith)
      ] in
      let no-c : In c j → ⊥
      = λ i.
      elim (b.only c i) [ inl o ↦ let r : c < c = low c o in omega arith | inr q ↦ let r : c < c = high c q in omega arith ] in
      elim (cases_Bool (all_in j s)) [
        | inl e ↦ absurd (both_ways (does_fix ds s p) f (fixes_monotone ds p j s (all_in_sub j s e) (implied_fixes ds p j b.key.fixes)))
        | inr e ↦
            let o = not_all_in j s e in
            let later : c ≤ o.0
            = elim (b.only o.0 o.1) [ inl q ↦ absurd (o.2 q) | inr q ↦ let r : c < o.0 = high o.0 q in omega arith ] in
            before_split k j c o.0 a.rises b.rises
            (λ x l. ((λ i. b.grown x (from-k x l i)), (λ i. a.grown x (old_in x (from-j x l i)))))
            (a.grown c new_in) no-c o.1 later
      ]
