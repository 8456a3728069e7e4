-- One set more, where those that lie inside another go: what was held stays held, and none lies inside another.
use Rattle.std.proofs.Common.{◌≡◌, ℕ, zero, suc, ◌<◌, true, false, ◌⊎◌, List, [], ◌∷◌, ◌++◌, length, get_or, sym, refl, ap, subst, inl, inr, arith}
use Rattle.std.proofs.lemmas.Bool.{both_ways}
use Rattle.columns.specs.Cols.{Cols, all_in}
use Rattle.columns.specs.Members.{In, Sub}
use Rattle.columns.specs.Sets.{cols}
use Rattle.columns.specs.declared.set.ColumnSet.{ColumnSet}
use Rattle.columns.proofs.Members.{pick_both, in_left, in_right, in_either, in_at}
use Rattle.columns.proofs.Columns.{all_in_sub, sub_all_in}
use Rattle.columns.proofs.Everyone.{any_some, any_from}
use Rattle.dependencies.specs.Tables.{Dep}
use Rattle.schema.specs.Sets.{sets_of, is_set_held, outside, with_set}
use Rattle.schema.specs.Gathers.{Held, Apart, Holding}

pub sets_append : (xs ys : List ColumnSet) → sets_of (xs ++ ys) ≡ sets_of xs ++ sets_of ys
unfolding sets_of
sets_append [] ys = refl
sets_append (x ∷ xs) ys = ap (λ v. cols x ∷ v) (sets_append xs ys)

pub in_sets : (ss : List ColumnSet) (s : ColumnSet) → In s ss → In (cols s) (sets_of ss)
unfolding sets_of
in_sets [] s i = absurd i
in_sets (x ∷ ss) s i = elim i [ inl e ↦ inl (ap cols e) | inr k ↦ inr (in_sets ss s k) ]

held_in : (ss : List ColumnSet) (x : ColumnSet) → is_set_held ss x ≡ true → Held (sets_of ss) (cols x)
held_in ss x h =
    let r = any_some ss (λ s. all_in (cols x) (cols s)) h in
    (cols r.0, in_sets ss r.0 r.1, all_in_sub (cols x) (cols r.0) r.2)

sets_in_some : (ss : List ColumnSet) (x : Cols) → In x (sets_of ss) → (s : ColumnSet) × In s ss × (cols s ≡ x)
unfolding sets_of
sets_in_some [] x i = absurd i
sets_in_some (s ∷ ss) x i = elim i [ inl e ↦ (s, inl refl, e) | inr k ↦ let r = sets_in_some ss x k in (r.0, inr r.1, r.2) ]

not_held : (ss : List ColumnSet) (x : ColumnSet) → is_set_held ss x ≡ false → (y : Cols) → In y (sets_of ss) → Sub (cols x) y → ⊥
not_held ss x h y i f =
    let r = sets_in_some ss y i in
    both_ways (is_set_held ss x) h
    (any_from ss (λ s. all_in (cols x) (cols s)) r.0 r.1 (sub_all_in (cols x) (cols r.0) (subst (λ v. Sub (cols x) v) (sym r.2) f)))

-- ---- the sets that do not lie inside one
module _ (k : ColumnSet) where
  -- a set that does not lie inside k stays
  outside_or_inside : (ss : List ColumnSet) (x : Cols) → In x (sets_of ss) → In x (sets_of (outside ss k)) ⊎ Sub x (cols k)
  unfolding sets_of
  outside_or_inside [] x i = absurd i
  outside_or_inside (s ∷ ss) x i =
      pick_both (all_in (cols s) (cols k)) (outside ss k) (s ∷ outside ss k) (λ v. In x (sets_of v) ⊎ Sub x (cols k))
      (λ e. elim i [ inl q ↦ inr (subst (λ v. Sub v (cols k)) q (all_in_sub (cols s) (cols k) e)) | inr j ↦ outside_or_inside ss x j ])
      (λ e.
      elim i [
        | inl q ↦ inl (inl q)
        | inr j ↦ elim (outside_or_inside ss x j) [ inl a ↦ inl (inr a) | inr a ↦ inr a ]
      ])

  outside_sub : (ss : List ColumnSet) (x : Cols) → In x (sets_of (outside ss k)) → In x (sets_of ss) × (Sub x (cols k) → ⊥)
  unfolding sets_of
  outside_sub [] x = λ i. absurd i
  outside_sub (s ∷ ss) x =
      pick_both (all_in (cols s) (cols k)) (outside ss k) (s ∷ outside ss k) (λ v. In x (sets_of v) → In x (sets_of (s ∷ ss)) × (Sub x (cols k) → ⊥))
      (λ e i. let r = outside_sub ss x i in (inr r.0, r.1))
      (λ e i.
      elim i [
        | inl q ↦ (inl q, λ f. both_ways (all_in (cols s) (cols k)) e (sub_all_in (cols s) (cols k) (subst (λ v. Sub v (cols k)) (sym q) f)))
        | inr j ↦ let r = outside_sub ss x j in (inr r.0, r.1)
      ])

  outside_apart : (ss : List ColumnSet) → Apart (sets_of ss) → Apart (sets_of (outside ss k))
  unfolding sets_of
  outside_apart [] a = tt
  outside_apart (s ∷ ss) a =
      pick_both (all_in (cols s) (cols k)) (outside ss k) (s ∷ outside ss k) (λ v. Apart (sets_of v))
      (λ e. outside_apart ss a.1) (λ e. (λ y i. a.0 y (outside_sub ss y i).0, outside_apart ss a.1))

apart_push : (xs : List Cols) (x : Cols) → Apart xs → ((y : Cols) → In y xs → (Sub y x → ⊥) × (Sub x y → ⊥)) → Apart (xs ++ x ∷ [])
apart_push [] x a f = (λ y i. absurd i, tt)
apart_push (z ∷ xs) x a f = (
  λ y i.
      elim (in_either xs (x ∷ []) y i) [
        | inl h ↦ a.0 y h
        | inr h ↦ elim h [ inl e ↦ subst (λ v. (Sub z v → ⊥) × (Sub v z → ⊥)) e (f z (inl refl)) | inr n ↦ absurd n ]
      ],
  apart_push xs x a.1 (λ y i. f y (inr i)),
)

-- none inside another, by their places
pub apart_places : (xs : List Cols) → Apart xs → (i j : ℕ) → i < length xs → j < length xs → Sub (get_or xs i []) (get_or xs j []) → i ≡ j
apart_places [] a i j h k f = absurd (omega arith)
apart_places (x ∷ xs) a zero zero h k f = refl
apart_places (x ∷ xs) a zero (suc j) h k f = absurd ((a.0 (get_or xs j []) (in_at xs j [] (omega arith))).0 f)
apart_places (x ∷ xs) a (suc i) zero h k f = absurd ((a.0 (get_or xs i []) (in_at xs i [] (omega arith))).1 f)
apart_places (x ∷ xs) a (suc i) (suc j) h k f = ap suc (apart_places xs a.1 i j (omega arith) (omega arith) f)

-- ---- one set more
module _ (Kind : Cols → Type 0) (es : List Dep) (ss : List ColumnSet) (k : ColumnSet) where
  abbrev pub More : List ColumnSet → Type 0
  More v = Holding Kind es (sets_of v) × Held (sets_of v) (cols k)

  as_it_was : Holding Kind es (sets_of ss) → is_set_held ss k ≡ true → More ss
  as_it_was h e = (h, held_in ss k e)

  abbrev longer : List ColumnSet
  longer = outside ss k ++ k ∷ []

  in_longer : (x : Cols) → In x (sets_of longer) → In x (sets_of (outside ss k)) ⊎ (cols k ≡ x)
  unfolding sets_of
  in_longer x i =
      elim (in_either (sets_of (outside ss k)) (cols k ∷ []) x (subst (λ v. In x v) (sets_append (outside ss k) (k ∷ [])) i))
      [ inl a ↦ inl a | inr a ↦ elim a [ inl e ↦ inr e | inr z ↦ absurd z ] ]

  left_longer : (x : Cols) → In x (sets_of (outside ss k)) → In x (sets_of longer)
  unfolding sets_of
  left_longer x i = subst (λ v. In x v) (sym (sets_append (outside ss k) (k ∷ []))) (in_left (sets_of (outside ss k)) (cols k ∷ []) x i)

  last_longer : In (cols k) (sets_of longer)
  unfolding sets_of
  last_longer = subst (λ v. In (cols k) v) (sym (sets_append (outside ss k) (k ∷ []))) (in_right (sets_of (outside ss k)) (cols k ∷ []) (cols k) (inl refl))

  with_it : Holding Kind es (sets_of ss) → Kind (cols k) → is_set_held ss k ≡ false → More longer
  unfolding sets_of
  with_it h kind e = (
    record {
      each = λ x i. elim (in_longer x i) [ inl a ↦ h.each x (outside_sub k ss x a).0 | inr q ↦ subst Kind q kind ];
      held = λ m i.
          let r = h.held m i in
          elim (outside_or_inside k ss r.0 r.1) [
            | inl a ↦ (r.0, left_longer r.0 a, r.2)
            | inr f ↦ (cols k, last_longer, λ c j. f c (r.2 c j))
          ];
      apart =
          subst Apart (sym (sets_append (outside ss k) (k ∷ [])))
          (apart_push (sets_of (outside ss k)) (cols k) (outside_apart k ss h.apart) (λ y i.
          let r = outside_sub k ss y i in (r.1, not_held ss k e y r.0)));
    },
    (cols k, last_longer, λ c i. i),
  )

  pub one_more : Holding Kind es (sets_of ss) → Kind (cols k) → More (with_set ss k)
  one_more h kind = pick_both (is_set_held ss k) ss longer More (as_it_was h) (with_it h kind)

-- sets of one kind are of another
pub other_kind : (K L : Cols → Type 0) (es : List Dep) (xs : List Cols) → ((x : Cols) → K x → L x) → Holding K es xs → Holding L es xs
other_kind K L es xs f h = record { each = λ x i. f x (h.each x i); held = h.held; apart = h.apart }
