-- Counting superkeys on both sides of a column tells whether it is in a key, and so third normal form is decided by one walk. Assumes nothing.
use Rattle.std.proofs.Common.{◌≡◌, ℕ, ◌+◌, ◌^◌, ◌<◌, ◌≤◌, Bool, true, false, not, ◌&&◌, ◌||◌, eqb, ◌⊎◌, List, [], ◌∷◌, ◌++◌, length, sym, refl, ap, ◌∙◌, subst, ap₂, inl, inr, append-nil, pow-suc, arith, eq-eqb, ne_eqb}
use Rattle.std.proofs.lemmas.Bool.{true≢false, both_ways, cases_Bool, cases_eq, and_parts, and_from, or_cases, or_left, or_right, not-true, not_from_false, eqb-true, eqb-false}
use Rattle.columns.specs.Cols.{Cols, pick, has, less}
use Rattle.columns.specs.Members.{In, Sub}
use Rattle.columns.proofs.Columns.{has_in, in_has, has_not_in, not_in_has, in_or_not, all_in_sub, sub_all_in, in_less, less_in}
use Rattle.columns.proofs.Lists.{same_test}
use Rattle.columns.proofs.Members.{in_left, in_right, in_either}
use Rattle.dependencies.specs.Closure.{closure, does_fix}
use Rattle.dependencies.specs.Tables.{Dep}
use Rattle.dependencies.proofs.Fixing.{closure_monotone, fixes_monotone, implied_fixes, fixes_implied}
use Rattle.schema.specs.Design.{IsThirdForm}
use Rattle.verdict.specs.Superkeys.{superkeys, is_in_keys, is_loosely, is_loose}
use Rattle.verdict.proofs.ThirdDecided.{key_with}

-- the same members
abbrev Even : Cols → Cols → Type 0
Even x y = Sub x y × Sub y x

more : (c : ℕ) (x y : Cols) → Sub x y → Sub (c ∷ x) (c ∷ y)
more c x y s d i = elim i [ inl e ↦ inl e | inr k ↦ inr (s d k) ]

even_more : (c : ℕ) (x y : Cols) → Even x y → Even (c ∷ x) (c ∷ y)
even_more c x y s = (more c x y s.0, more c y x s.1)

-- a column taken from one set to the other
shifted : (z x : Cols) (c : ℕ) → Even (z ++ c ∷ x) (c ∷ (z ++ x))
shifted z x c = (
  λ d i.
      elim (in_either z (c ∷ x) d i) [
        | inl k ↦ inr (in_left z x d k)
        | inr k ↦ elim k [ inl e ↦ inl e | inr j ↦ inr (in_right z x d j) ]
      ],
  λ d i.
      elim i [
        | inl e ↦ in_right z (c ∷ x) d (inl e)
        | inr k ↦ elim (in_either z x d k) [ inl j ↦ in_left z (c ∷ x) d j | inr j ↦ in_right z (c ∷ x) d (inr j) ]
      ],
)

lifted : (z x : Cols) (c : ℕ) → In c z → Even (less z c ++ c ∷ x) (z ++ x)
lifted z x c h = (
  λ d i.
      elim (in_either (less z c) (c ∷ x) d i) [
        | inl k ↦ in_left z x d (in_less z c d k).0
        | inr k ↦ elim k [ inl e ↦ in_left z x d (subst (λ (v : ℕ). In v z) e h) | inr j ↦ in_right z x d j ]
      ],
  λ d i.
      elim (in_either z x d i) [
        | inl k ↦
            elim (cases_eq d c) [
              | inl e ↦ in_right (less z c) (c ∷ x) d (inl (sym e))
              | inr ne ↦ in_left (less z c) (c ∷ x) d (less_in z c d k ne)
            ]
        | inr k ↦ in_right (less z c) (c ∷ x) d (inr k)
      ],
)

less_inside : (z cs : Cols) (c : ℕ) → Sub z (c ∷ cs) → Sub (less z c) cs
less_inside z cs c s d i = let w = in_less z c d i in elim (s d w.0) [ inl e ↦ absurd (w.1 (sym e)) | inr k ↦ k ]

kept_inside : (z cs : Cols) (c : ℕ) → Sub z (c ∷ cs) → (In c z → ⊥) → Sub z cs
kept_inside z cs c s no· d i = elim (s d i) [ inl e ↦ absurd (no· (subst (λ (v : ℕ). In v z) (sym e) i)) | inr k ↦ k ]

one_le : (a b : Bool) → (a ≡ true → b ≡ true) → pick a 1 0 ≤ pick b 1 0
one_le true true f = omega arith
one_le true false f = absurd (true≢false (sym (f refl)))
one_le false true f = omega arith
one_le false false f = omega arith

one_differ : (a b : Bool) → (a ≡ true → b ≡ true) → (◌≡◌ {A = ℕ} (pick a 1 0) (pick b 1 0) → ⊥) → (b ≡ true) × (a ≡ false)
one_differ true true f n = absurd (n refl)
one_differ true false f n = absurd (true≢false (sym (f refl)))
one_differ false true f n = (refl, refl)
one_differ false false f n = absurd (n refl)

one_less : (a b : Bool) → a ≡ false → b ≡ true → pick a 1 0 < pick b 1 0
one_less true b e f = absurd (true≢false e)
one_less false true e f = omega arith
one_less false false e f = absurd (true≢false (sym f))

one_small : (a : Bool) → pick a 1 0 ≤ 1
one_small true = omega arith
one_small false = omega arith

module _ (ds : List Dep) (p : Cols) where
  -- a set with fewer columns is no superkey if one with more is none
  not_fixes : (x y : Cols) → Sub x y → does_fix ds y p ≡ false → does_fix ds x p ≡ false
  not_fixes x y s e =
      elim (cases_Bool (does_fix ds x p)) [ inl h ↦ absurd (both_ways (does_fix ds y p) e (fixes_monotone ds p x y s h)) | inr h ↦ h ]

  pub superkeys_le : (cs x y : Cols) → Sub x y → superkeys ds p x cs ≤ superkeys ds p y cs
  unfolding superkeys
  superkeys_le [] x y s = one_le (does_fix ds x p) (does_fix ds y p) (fixes_monotone ds p x y s)
  superkeys_le (c ∷ cs) x y s = let a = superkeys_le cs x y s in let b = superkeys_le cs (c ∷ x) (c ∷ y) (more c x y s) in omega arith

  superkeys_even : (cs x y : Cols) → Even x y → superkeys ds p x cs ≡ superkeys ds p y cs
  superkeys_even cs x y s = let a = superkeys_le cs x y s.0 in let b = superkeys_le cs y x s.1 in omega arith

  pub superkeys_few : (cs x : Cols) → superkeys ds p x cs ≤ 2 ^ length cs
  unfolding superkeys
  superkeys_few [] x = one_small (does_fix ds x p)
  superkeys_few (c ∷ cs) x = let a = superkeys_few cs x in let b = superkeys_few cs (c ∷ x) in let e = pow-suc 2 (length cs) in omega arith

  abbrev Makes : Cols → Cols → Cols → Type 0
  Makes z x y = (does_fix ds (z ++ y) p ≡ true) × (does_fix ds (z ++ x) p ≡ false)

  moved_makes : (z x y : Cols) (c : ℕ) → Makes z (c ∷ x) (c ∷ y) → Makes (c ∷ z) x y
  moved_makes z x y c m = (
    fixes_monotone ds p (z ++ c ∷ y) (c ∷ (z ++ y)) (shifted z y c).0 m.0,
    not_fixes (c ∷ (z ++ x)) (z ++ c ∷ x) (shifted z x c).1 m.1,
  )

  superkeys_found : (cs x y : Cols) → Sub x y → (superkeys ds p x cs ≡ superkeys ds p y cs → ⊥) → (z : Cols) × Sub z cs × Makes z x y
  unfolding superkeys
  superkeys_found [] x y s n = ([], λ d i. i, one_differ (does_fix ds x p) (does_fix ds y p) (fixes_monotone ds p x y s) n)
  superkeys_found (c ∷ cs) x y s n =
      elim (cases_eq (superkeys ds p x cs) (superkeys ds p y cs)) [
        | inr ne ↦ let w = superkeys_found cs x y s ne in (w.0, λ d i. inr (w.1 d i), w.2)
        | inl e ↦
            let w = superkeys_found cs (c ∷ x) (c ∷ y) (more c x y s) (λ q. n (ap₂ (λ (a b : ℕ). a + b) e q)) in
            (c ∷ w.0, λ d i. elim i [ inl q ↦ inl q | inr k ↦ inr (w.1 d k) ], moved_makes w.0 x y c w.2)
      ]

  superkeys_less : (cs x y z : Cols) → Sub x y → Sub z cs → Makes z x y → superkeys ds p x cs < superkeys ds p y cs
  unfolding superkeys
  superkeys_less [] x y z s h m =
      one_less (does_fix ds x p) (does_fix ds y p) (not_fixes x (z ++ x) (λ d i. in_right z x d i) m.1)
      (fixes_monotone ds p (z ++ y) y (λ d i. elim (in_either z y d i) [ inl k ↦ absurd (h d k) | inr k ↦ k ]) m.0)
  superkeys_less (c ∷ cs) x y z s h m =
      elim (in_or_not z c) [
        | inl k ↦
            let a = superkeys_le cs x y s in
            let b =
            superkeys_less cs (c ∷ x) (c ∷ y) (less z c) (more c x y s) (less_inside z cs c h) (
              fixes_monotone ds p (z ++ y) (less z c ++ c ∷ y) (lifted z y c k).1 m.0,
              not_fixes (less z c ++ c ∷ x) (z ++ x) (lifted z x c k).0 m.1,
            )
            in
            omega arith
        | inr k ↦
            let a = superkeys_less cs x y z s (kept_inside z cs c h k) m in
            let b = superkeys_le cs (c ∷ x) (c ∷ y) (more c x y s) in
            omega arith
      ]

  -- a column that makes a superkey of a set is found
  keyed : (cs x : Cols) (a : ℕ) (w : Cols) → In a cs → Sub w cs → (In a w → ⊥) → does_fix ds (w ++ x) p ≡ false → does_fix ds (a ∷ (w ++ x)) p ≡ true → is_in_keys ds p x cs a ≡ true
  unfolding is_in_keys
  keyed [] x a w i s no· l m = absurd i
  keyed (c ∷ cs) x a w i s no· l m =
      let L = is_in_keys ds p x cs a in
      let R = is_in_keys ds p (c ∷ x) cs a in
      let D = not (eqb (superkeys ds p x cs) (superkeys ds p (c ∷ x) cs)) in
      elim (cases_eq c a) [
        | inl e ↦
            let out : In c w → ⊥ = λ k. no· (subst (λ (v : ℕ). In v w) e k) in
            let less· =
            superkeys_less cs x (c ∷ x) w (λ d k. inr k) (kept_inside w cs c s out) (
              fixes_monotone ds p (a ∷ (w ++ x)) (w ++ c ∷ x) (λ d k. (shifted w x c).1 d (subst (λ (v : ℕ). In d (v ∷ (w ++ x))) (sym e) k)) m,
              l,
            )
            in
            or_right (L || R) (D && eqb c a)
            (and_from D (eqb c a) (not_from_false (eqb (superkeys ds p x cs) (superkeys ds p (c ∷ x) cs)) (ne_eqb (superkeys ds p x cs) (superkeys ds p (c ∷ x) cs) (λ q. omega arith)))
            (eq-eqb c a e))
        | inr ne ↦
            let there : In a cs = elim i [ inl q ↦ absurd (ne q) | inr k ↦ k ] in
            elim (in_or_not w c) [
              | inl k ↦
                  or_left (L || R) (D && eqb c a)
                  (or_right L R
                  (keyed cs (c ∷ x) a (less w c) there (less_inside w cs c s) (λ j. no· (in_less w c a j).0)
                  (not_fixes (less w c ++ c ∷ x) (w ++ x) (lifted w x c k).0 l)
                  (fixes_monotone ds p (a ∷ (w ++ x)) (a ∷ (less w c ++ c ∷ x)) (more a (w ++ x) (less w c ++ c ∷ x) (lifted w x c k).1) m)))
              | inr k ↦ or_left (L || R) (D && eqb c a) (or_left L R (keyed cs x a w there (kept_inside w cs c s k) no· l m))
            ]
      ]

  -- each member is of x or of cs
  abbrev Drawn : Cols → Cols → Cols → Type 0
  Drawn u x cs = (c : ℕ) → In c u → In c x ⊎ In c cs

  drawn_left : (u x cs : Cols) (c : ℕ) → Drawn u x cs → Drawn u x (c ∷ cs)
  drawn_left u x cs c f d i = elim (f d i) [ inl k ↦ inl k | inr k ↦ inr (inr k) ]

  drawn_right : (u x cs : Cols) (c : ℕ) → Drawn u (c ∷ x) cs → Drawn u x (c ∷ cs)
  drawn_right u x cs c f d i = elim (f d i) [ inl k ↦ elim k [ inl e ↦ inr (inl e) | inr j ↦ inl j ] | inr k ↦ inr (inr k) ]

  abbrev Keyed : Cols → Cols → ℕ → Type 0
  Keyed x cs a = (u : Cols) × Drawn u x cs × In a cs × (does_fix ds (a ∷ u) p ≡ true) × (does_fix ds u p ≡ false)

  keys_from : (cs x : Cols) (a : ℕ) → is_in_keys ds p x cs a ≡ true → Keyed x cs a
  unfolding is_in_keys
  keys_from [] x a h = absurd (true≢false (sym h))
  keys_from (c ∷ cs) x a h =
      let L = is_in_keys ds p x cs a in
      let R = is_in_keys ds p (c ∷ x) cs a in
      let same = eqb (superkeys ds p x cs) (superkeys ds p (c ∷ x) cs) in
      elim (or_cases (L || R) (not same && eqb c a) h) [
        | inl k ↦
            elim (or_cases L R k) [
              | inl j ↦ let w = keys_from cs x a j in (w.0, drawn_left w.0 x cs c w.1, inr w.2, w.3, w.4)
              | inr j ↦ let w = keys_from cs (c ∷ x) a j in (w.0, drawn_right w.0 x cs c w.1, inr w.2, w.3, w.4)
            ]
        | inr k ↦
            let q = and_parts (not same) (eqb c a) k in
            let e = eqb-true c a q.1 in
            let w = superkeys_found cs x (c ∷ x) (λ d i. inr i) (eqb-false (superkeys ds p x cs) (superkeys ds p (c ∷ x) cs) (not-true same q.0)) in (
              w.0 ++ x,
              λ d i. elim (in_either w.0 x d i) [ inl j ↦ inr (inr (w.1 d j)) | inr j ↦ inl j ],
              inl e,
              fixes_monotone ds p (w.0 ++ c ∷ x) (a ∷ (w.0 ++ x)) (λ d i. subst (λ (v : ℕ). In d (v ∷ (w.0 ++ x))) e ((shifted w.0 x c).0 d i)) w.2.0,
              w.2.1,
            )
      ]

  pub record Loosely (u : Cols) (a : ℕ) : Type 0 where
    pub short : does_fix ds u p ≡ false
    pub fixed : has (closure ds u) a ≡ true
    pub member : has p a ≡ true
    pub out : has u a ≡ false

  loosely_parts : (u : Cols) (a : ℕ) → is_loosely ds p u a ≡ true → Loosely u a
  loosely_parts u a h =
      let w = and_parts (not (does_fix ds u p)) ((has (closure ds u) a && has p a) && not (has u a)) h in
      let v = and_parts (has (closure ds u) a && has p a) (not (has u a)) w.1 in
      let q = and_parts (has (closure ds u) a) (has p a) v.0 in
      record { short = not-true (does_fix ds u p) w.0; fixed = q.0; member = q.1; out = not-true (has u a) v.1 }

  loosely_from : (u : Cols) (a : ℕ) → Loosely u a → is_loosely ds p u a ≡ true
  loosely_from u a l =
      and_from (not (does_fix ds u p)) ((has (closure ds u) a && has p a) && not (has u a)) (not_from_false (does_fix ds u p) l.short)
      (and_from (has (closure ds u) a && has p a) (not (has u a)) (and_from (has (closure ds u) a) (has p a) l.fixed l.member) (not_from_false (has u a) l.out))

  loosely_even : (u v : Cols) (a : ℕ) → Even u v → is_loosely ds p u a ≡ true → is_loosely ds p v a ≡ true
  loosely_even u v a s h =
      let l = loosely_parts u a h in
      loosely_from v a
      (record {
        short = not_fixes v u s.1 l.short;
        fixed = in_has (closure ds v) a (closure_monotone ds u v s.0 a (has_in (closure ds u) a l.fixed));
        member = l.member;
        out = not_in_has v a (λ i. has_not_in u a l.out (s.1 a i));
      })

  loose_all : (cs x : Cols) (a : ℕ) (w : Cols) → Sub w cs → is_loosely ds p (w ++ x) a ≡ true → is_loose ds p x cs a ≡ true
  unfolding is_loose
  loose_all [] x a w s h =
      loosely_even (w ++ x) x a (λ d i. elim (in_either w x d i) [ inl k ↦ absurd (s d k) | inr k ↦ k ], λ d i. in_right w x d i) h
  loose_all (c ∷ cs) x a w s h =
      elim (in_or_not w c) [
        | inl k ↦
            or_right (is_loose ds p x cs a) (is_loose ds p (c ∷ x) cs a)
            (loose_all cs (c ∷ x) a (less w c) (less_inside w cs c s) (loosely_even (w ++ x) (less w c ++ c ∷ x) a ((lifted w x c k).1, (lifted w x c k).0) h))
        | inr k ↦ or_left (is_loose ds p x cs a) (is_loose ds p (c ∷ x) cs a) (loose_all cs x a w (kept_inside w cs c s k) h)
      ]

  loose_from : (cs x : Cols) (a : ℕ) → is_loose ds p x cs a ≡ true → (u : Cols) × Drawn u x cs × Loosely u a
  unfolding is_loose
  loose_from [] x a h = (x, λ d i. inl i, loosely_parts x a h)
  loose_from (c ∷ cs) x a h =
      elim (or_cases (is_loose ds p x cs a) (is_loose ds p (c ∷ x) cs a) h) [
        | inl j ↦ let w = loose_from cs x a j in (w.0, drawn_left w.0 x cs c w.1, w.2)
        | inr j ↦ let w = loose_from cs (c ∷ x) a j in (w.0, drawn_right w.0 x cs c w.1, w.2)
      ]

  in_keys_even : (cs x y : Cols) (a : ℕ) → Even x y → is_in_keys ds p x cs a ≡ is_in_keys ds p y cs a
  unfolding is_in_keys
  in_keys_even [] x y a s = refl
  in_keys_even (c ∷ cs) x y a s =
      let L = is_in_keys ds p x cs a in
      let R = is_in_keys ds p (c ∷ x) cs a in
      ap (λ (b : Bool). (b || R) || (not (eqb (superkeys ds p x cs) (superkeys ds p (c ∷ x) cs)) && eqb c a)) (in_keys_even cs x y a s)
      ∙ ap (λ (b : Bool). (is_in_keys ds p y cs a || b) || (not (eqb (superkeys ds p x cs) (superkeys ds p (c ∷ x) cs)) && eqb c a)) (in_keys_even cs (c ∷ x) (c ∷ y) a (even_more c x y s))
      ∙ ap₂ (λ (m n : ℕ). (is_in_keys ds p y cs a || is_in_keys ds p (c ∷ y) cs a) || (not (eqb m n) && eqb c a)) (superkeys_even cs x y s)
      (superkeys_even cs (c ∷ x) (c ∷ y) (even_more c x y s))

  loose_even : (cs x y : Cols) (a : ℕ) → Even x y → is_loose ds p x cs a ≡ is_loose ds p y cs a
  unfolding is_loose
  loose_even [] x y a s = same_test (is_loosely ds p x a) (is_loosely ds p y a) (loosely_even x y a s) (loosely_even y x a (s.1, s.0))
  loose_even (c ∷ cs) x y a s = ap₂ (λ (m n : Bool). m || n) (loose_even cs x y a s) (loose_even cs (c ∷ x) (c ∷ y) a (even_more c x y s))

  pub counts_even : (cs x y : Cols) → Even x y → (superkeys ds p x cs ≡ superkeys ds p y cs) × ((a : ℕ) → is_in_keys ds p x cs a ≡ is_in_keys ds p y cs a)
      × ((a : ℕ) → is_loose ds p x cs a ≡ is_loose ds p y cs a)
  counts_even cs x y s = (superkeys_even cs x y s, λ a. in_keys_even cs x y a s, λ a. loose_even cs x y a s)

  abbrev pub PrimeLoose : Type 0
  PrimeLoose = (a : ℕ) → is_loose ds p [] p a ≡ true → is_in_keys ds p [] p a ≡ true

  pub prime_third : PrimeLoose → IsThirdForm ds p
  unfolding IsThirdForm
  prime_third f x a xp pa xa g =
      elim (cases_Bool (does_fix ds x p)) [
        | inl e ↦ inl (fixes_implied ds p x e)
        | inr e ↦
            let l : is_loosely ds p x a ≡ true
            = loosely_from x a
            (record {
              short = e;
              fixed = in_has (closure ds x) a (all_in_sub (a ∷ []) (closure ds x) (implied_fixes ds (a ∷ []) x g) a (inl refl));
              member = pa;
              out = xa;
            }) in
            let k = keys_from p [] a (f a (loose_all p [] a x (all_in_sub x p xp) (subst (λ v. is_loosely ds p v a ≡ true) (sym (append-nil x)) l))) in
            let u = k.0 in
            inr (key_with ds p (a ∷ u) a (λ d i. elim i [ inl q ↦ subst (λ (v : ℕ). In v p) q k.2 | inr j ↦ elim (k.1 d j) [ inl z ↦ absurd z | inr z ↦ z ] ]) k.3
            (not_fixes (less (a ∷ u) a) u (λ d i. let w = in_less (a ∷ u) a d i in elim w.0 [ inl q ↦ absurd (w.1 (sym q)) | inr j ↦ j ]) k.4))
      ]

  pub third_prime : IsThirdForm ds p → PrimeLoose
  unfolding IsThirdForm
  third_prime t a h =
      let w = loose_from p [] a h in
      let u = w.0 in
      let l = w.2 in
      let inside : Sub u p = λ d i. elim (w.1 d i) [ inl z ↦ absurd z | inr z ↦ z ] in
      elim (t u a (sub_all_in u p inside) l.member l.out
      (fixes_implied ds (a ∷ []) u (sub_all_in (a ∷ []) (closure ds u) (λ d i. elim i [ inl q ↦ subst (λ (v : ℕ). In v (closure ds u)) q (has_in (closure ds u) a l.fixed) | inr z ↦ absurd z ])))) [
        | inl f ↦ absurd (both_ways (does_fix ds u p) l.short (implied_fixes ds p u f))
        | inr k ↦
            let key = k.1 in
            let K = k.0 in
            let in_p : Sub K p = all_in_sub K p key.inside in
            let gone : does_fix ds (less K a) p ≡ false
            = elim (cases_Bool (does_fix ds (less K a) p)) [
              | inl e ↦
                  absurd ((in_less K a a
                  (all_in_sub K (less K a)
                  (key.least (less K a) (sub_all_in (less K a) K (λ d i. (in_less K a d i).0)) (fixes_implied ds p (less K a) e)) a (has_in K a k.2))).1 refl)
              | inr e ↦ e
            ] in
            keyed p [] a (less K a) (in_p a (has_in K a k.2)) (λ d i. in_p d (in_less K a d i).0) (λ i. (in_less K a a i).1 refl)
            (subst (λ v. does_fix ds v p ≡ false) (sym (append-nil (less K a))) gone)
            (fixes_monotone ds p K (a ∷ (less K a ++ []))
            (λ d i. elim (cases_eq d a) [ inl e ↦ inl (sym e) | inr ne ↦ inr (in_left (less K a) [] d (less_in K a d i ne)) ]) (implied_fixes ds p K key.fixes))
      ]
