-- The columns of all rules of a least set with one left side: third form, by what no rule and no column can be left out.
use Rattle.std.proofs.Common.{◌≡◌, ℕ, ◌<◌, ◌⊎◌, List, [], ◌∷◌, ◌++◌, length, get_or, sym, refl, ap, ◌∙◌, subst, inl, inr, arith}
use Rattle.std.proofs.lemmas.Bool.{both_ways, cases_Bool}
use Rattle.columns.specs.Cols.{Cols, all_in}
use Rattle.dependencies.specs.Tables.{Dep, no_dep, Implied}
use Rattle.dependencies.specs.Closure.{closure}
use Rattle.keys.specs.Keys.{Key}
use Rattle.schema.specs.Design.{IsThirdForm}
use Rattle.cover.specs.Least.{Least}
use Rattle.columns.specs.Members.{In, Sub}
use Rattle.columns.proofs.Members.{in_left, in_right, in_either, at_in}
use Rattle.columns.proofs.Columns.{has_in, in_has, has_not_in, in_or_not, all_in_sub, sub_all_in}
use Rattle.dependencies.proofs.Closures.{closure_sound, closure_grows}
use Rattle.dependencies.proofs.Fired.{closure_closed}
use Rattle.dependencies.proofs.Exact.{closure_implied, implied_closure}
use Rattle.dependencies.proofs.Consequence.{member_follows}
use Rattle.columns.proofs.Shrink.{in_split, sub_rest}
use Rattle.schema.proofs.ThirdForms.{closure_through}
use Rattle.schema.specs.Gathers.{Gathered}

one_only : (xs : Cols) → length xs ≡ 1 → (b : ℕ) × (xs ≡ b ∷ [])
one_only [] e = absurd (omega arith)
one_only (x ∷ []) e = (x, refl)
one_only (x ∷ y ∷ xs) e = absurd (omega arith)

module _ (ds ms : List Dep) (least : Least ds ms) where
  pub right_one : (m : Dep) → In m ms → (b : ℕ) × (m.right ≡ b ∷ [])
  right_one m i =
      let r = at_in ms m no_dep i in
      one_only m.right (subst (λ v. length v.right ≡ 1) r.2 (least.single r.0 r.1))

  pub down : (m : Dep) → In m ms → Implied ds m
  down m i = (least.same m).1 (member_follows ms m i)

  to_ms : (x : Cols) → Sub (closure ds x) (closure ms x)
  to_ms x c i =
      let d : Dep = record { left = x; right = c ∷ [] } in
      implied_closure ms d ((least.same d).0 (closure_implied ds d (λ e k. elim k [ inl q ↦ subst (λ v. In v (closure ds x)) q i | inr z ↦ absurd z ]))) c (inl refl)

  to_ds : (x : Cols) → Sub (closure ms x) (closure ds x)
  to_ds x c i =
      let d : Dep = record { left = x; right = c ∷ [] } in
      implied_closure ds d ((least.same d).1 (closure_implied ms d (λ e k. elim k [ inl q ↦ subst (λ v. In v (closure ms x)) q i | inr z ↦ absurd z ]))) c (inl refl)

  -- a left column is not left out
  no_less : (m : Dep) → In m ms → (us vs : Cols) (c : ℕ) → m.left ≡ us ++ c ∷ vs → Sub m.right (closure ds (us ++ vs)) → ⊥
  no_less m i us vs c e f =
      let r = at_in ms m no_dep i in
      let d : Dep = record { left = us ++ vs; right = m.right } in
      let g : Implied ms d = (least.same d).0 (closure_implied ds d f) in
      least.no_column r.0 us vs c r.1 (ap (λ v. v.left) r.2 ∙ e)
      (subst (λ v. Implied ms (record { left = us ++ vs; right = v.right })) (sym r.2) g)

  pub tight : (m : Dep) → In m ms → (j : Cols) → Sub j m.left → Sub m.right (closure ds j) → Sub m.left j
  tight m i j f g c k =
      elim (in_or_not j c) [
        | inl h ↦ h
        | inr no· ↦
            let s = in_split m.left c k in
            let jj : Sub j (s.0 ++ s.1) = sub_rest j s.0 s.1 c (subst (λ v. Sub j v) s.2 f) no· in
            absurd (no_less m i s.0 s.1 c s.2 (λ b h. closure_through ds (s.0 ++ s.1) j (λ x y. closure_grows ds (s.0 ++ s.1) x (jj x y)) b (g b h)))
      ]

  -- a rule is not left out
  no_follow : (m : Dep) → In m ms → (us vs : List Dep) → ms ≡ us ++ m ∷ vs → Implied (us ++ vs) m → ⊥
  no_follow m i us vs e f =
      let at : get_or ms (length us) no_dep ≡ m = ap (λ v. get_or v (length us) no_dep) e ∙ there us in
      let long : length us < length ms = subst (λ v. length us < length v) (sym e) (fits us) in
      least.no_rule (length us) us vs (e ∙ ap (λ v. us ++ v ∷ vs) (sym at)) refl long (subst (λ v. Implied (us ++ vs) v) (sym at) f)
    where
      there : (ws : List Dep) → get_or (ws ++ m ∷ vs) (length ws) no_dep ≡ m
      there [] = refl
      there (w ∷ ws) = there ws

      fits : (ws : List Dep) → length ws < length (ws ++ m ∷ vs)
      fits [] = omega arith
      fits (w ∷ ws) = let h : length ws < length (ws ++ m ∷ vs) = fits ws in omega arith

  module _ (m₀ : Dep) (i₀ : In m₀ ms) (s : Cols) (g : Gathered ms m₀.left s) where
    abbrev l : Cols
    l = m₀.left

    left_fixes : Sub s (closure ds l)
    left_fixes c i =
        elim (g.no_more c i) [
          | inl a ↦ closure_grows ds l c a
          | inr w ↦ subst (λ v. In c (closure ds v)) w.2 (implied_closure ds w.0 (down w.0 w.1) c w.3)
        ]

    left_key : Key ds s l
    left_key =
        record {
          inside = sub_all_in l s g.left_in;
          fixes = closure_implied ds (record { left = l; right = s }) left_fixes;
          least = λ j k f.
              sub_all_in l j
              (tight m₀ i₀ j (all_in_sub j l k) (λ b h. implied_closure ds (record { left = j; right = s }) f b (g.right_in m₀ i₀ refl b h)));
        }

    -- what fixes a right column and not the left side would make its rule follow from the others
    not_without : (x : Cols) (a : ℕ) → Sub x s → (In a x → ⊥) → In a (closure ds x) → (m : Dep) → In m ms → m.left ≡ l → In a m.right
        → (Sub l (closure ds x) → ⊥) → ⊥
    not_without x a xs na fixed m i e h no· =
        let sp = in_split ms m i in
        let us = sp.0 in
        let vs = sp.1 in
        let rest : List Dep = us ++ vs in
        let apart : (d : Dep) → In d ms → In d rest ⊎ (m ≡ d)
        = λ d k.
        elim (in_either us (m ∷ vs) d (subst (λ v. In d v) sp.2 k)) [
          | inl y ↦ inl (in_left us vs d y)
          | inr y ↦ elim y [ inl q ↦ inr q | inr z ↦ inl (in_right us vs d z) ]
        ] in
        let rest-ms : Sub rest ms
        = λ d k.
        subst (λ v. In d v) (sym sp.2)
        (elim (in_either us vs d k) [ inl y ↦ in_left us (m ∷ vs) d y | inr y ↦ in_right us (m ∷ vs) d (inr y) ]) in
        let b = right_one m i in
        let only : (c : ℕ) → In c m.right → a ≡ c
        = λ c k.
        let p : In c (b.0 ∷ []) = subst (λ v. In c v) b.1 k in
        let q : In a (b.0 ∷ []) = subst (λ v. In a v) b.1 h in
        elim p [ inl y ↦ elim q [ inl z ↦ sym z ∙ y | inr z ↦ absurd z ] | inr y ↦ absurd y ] in
        let small : Sub (closure rest x) (closure ds x)
        = λ c k.
        to_ds x c (closure_sound rest (λ v. In v (closure ms x)) (λ d y. closure_closed ms x d (rest-ms d y)) x (closure_grows ms x) c k) in
        let large : Sub (closure ms x) (closure rest x)
        = closure_sound ms (λ v. In v (closure rest x))
        (λ d y f.
        elim (apart d y) [
          | inl z ↦ closure_closed rest x d z f
          | inr z ↦ absurd (no· (λ c k. small c (f c (subst (λ v. In c v.left) z (subst (λ v. In c v) (sym e) k)))))
        ])
        x (closure_grows rest x) in
        let from-left : Sub x (closure rest l)
        = λ c k.
        elim (g.no_more c (xs c k)) [
          | inl y ↦ closure_grows rest l c y
          | inr w ↦
              elim (apart w.0 w.1) [
                | inl z ↦ closure_closed rest l w.0 z (λ v y. closure_grows rest l v (subst (λ u. In v u) w.2 y)) c w.3
                | inr z ↦ absurd (na (subst (λ v. In v x) (sym (only c (subst (λ v. In c v.right) (sym z) w.3))) k))
              ]
        ] in
        let got : In a (closure rest l) = closure_through rest l x from-left a (large a (to_ms x a fixed)) in
        no_follow m i us vs sp.2
        (closure_implied rest m (λ c k. subst (λ v. In c (closure rest v)) (sym e) (subst (λ v. In v (closure rest l)) (only c k) got)))

    third : IsThirdForm ds s
    unfolding IsThirdForm
    third x a xp pa xa f =
        elim (in_or_not l a) [
          | inl k ↦ inr (l, left_key, in_has l a k)
          | inr no· ↦
              elim (cases_Bool (all_in l (closure ds x))) [
                | inl e ↦
                    inl (closure_implied ds (record { left = x; right = s }) (λ c i.
                    closure_through ds x l (all_in_sub l (closure ds x) e) c (left_fixes c i)))
                | inr e ↦
                    elim (g.no_more a (has_in s a pa)) [
                      | inl y ↦ absurd (no· y)
                      | inr w ↦
                          absurd (not_without x a (all_in_sub x s xp) (has_not_in x a xa)
                          (implied_closure ds (record { left = x; right = a ∷ [] }) f a (inl refl)) w.0 w.1 w.2 w.3
                          (λ sub. both_ways (all_in l (closure ds x)) e (sub_all_in l (closure ds x) sub)))
                    ]
              ]
        ]

-- the columns of all rules of a least set that have the same left side are in third form
pub gathered_third : (ds ms : List Dep) (m : Dep) (s : Cols) → Least ds ms → In m ms → Gathered ms m.left s → IsThirdForm ds s
gathered_third ds ms m s least i g = third ds ms least m i s g
