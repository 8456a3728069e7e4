-- Two lists in order with the same members are one list. Assumes nothing.
use Rattle.std.proofs.Common.{◌≡◌, ℕ, ◌<◌, true, ◌&&◌, eqb, ltb, ◌⊎◌, List, [], ◌∷◌, sym, refl, ap, ◌∙◌, subst, inl, inr, arith}
use Rattle.std.proofs.lemmas.Bool.{false≢true, ltb-true, lt-ltb, eqb-true, eq-eqb, cases_lt, cases_eq, and_parts, and_from}
use Rattle.columns.specs.Cols.{Cols, pick}
use Rattle.columns.specs.Order.{before, IsInOrder, no_set, one_set, and_set, Listed, here, there, is_in_order}
use Rattle.columns.specs.Members.{In, Sub}
use Rattle.columns.proofs.Members.{pick_both}

pub before_cases : (x y : ℕ) (xs ys : Cols) → before (x ∷ xs) (y ∷ ys) ≡ true → (x < y) ⊎ ((x ≡ y) × (before xs ys ≡ true))
unfolding before
before_cases x y xs ys h =
    pick_both (ltb x y) true (eqb x y && before xs ys) (λ v. v ≡ true → (x < y) ⊎ ((x ≡ y) × (before xs ys ≡ true)))
    (λ e k. inl (ltb-true x y e))
    (λ e k. let p = and_parts (eqb x y) (before xs ys) k in inr (eqb-true x y p.0, p.1)) h

pub before_less : (x y : ℕ) (xs ys : Cols) → x < y → before (x ∷ xs) (y ∷ ys) ≡ true
unfolding before
before_less x y xs ys l = ap (λ b. pick b true (eqb x y && before xs ys)) (lt-ltb x y l)

pub before_same : (x y : ℕ) (xs ys : Cols) → x ≡ y → before xs ys ≡ true → before (x ∷ xs) (y ∷ ys) ≡ true
unfolding before
before_same x y xs ys e h =
    pick_both (ltb x y) true (eqb x y && before xs ys) (λ v. v ≡ true) (λ q. refl) (λ q. and_from (eqb x y) (before xs ys) (eq-eqb x y e) h)

pub before_trans : (xs ys zs : Cols) → before xs ys ≡ true → before ys zs ≡ true → before xs zs ≡ true
unfolding before
before_trans [] [] zs h k = absurd (false≢true h)
before_trans [] (y ∷ ys) [] h k = absurd (false≢true k)
before_trans [] (y ∷ ys) (z ∷ zs) h k = refl
before_trans (x ∷ xs) [] zs h k = absurd (false≢true h)
before_trans (x ∷ xs) (y ∷ ys) [] h k = absurd (false≢true k)
before_trans (x ∷ xs) (y ∷ ys) (z ∷ zs) h k =
    elim (before_cases x y xs ys h) [
      | inl a ↦ elim (before_cases y z ys zs k) [ inl b ↦ before_less x z xs zs (omega arith) | inr b ↦ before_less x z xs zs (omega arith) ]
      | inr a ↦
          elim (before_cases y z ys zs k) [
            | inl b ↦ before_less x z xs zs (omega arith)
            | inr b ↦ before_same x z xs zs (a.0 ∙ b.0) (before_trans xs ys zs a.1 b.1)
          ]
    ]

-- of two lists one stands before the other, or they are one
pub before_total : (xs ys : Cols) → (before xs ys ≡ true) ⊎ ((xs ≡ ys) ⊎ (before ys xs ≡ true))
unfolding before
before_total [] [] = inr (inl refl)
before_total [] (y ∷ ys) = inl refl
before_total (x ∷ xs) [] = inr (inr refl)
before_total (x ∷ xs) (y ∷ ys) =
    elim (cases_lt x y) [
      | inl l ↦ inl (before_less x y xs ys l)
      | inr h ↦
          elim (cases_eq x y) [
            | inl e ↦
                elim (before_total xs ys) [
                  | inl b ↦ inl (before_same x y xs ys e b)
                  | inr r ↦ elim r [ inl q ↦ inr (inl (ap (λ v. v ∷ xs) e ∙ ap (λ v. y ∷ v) q)) | inr b ↦ inr (inr (before_same y x ys xs (sym e) b)) ]
                ]
            | inr ne ↦ inr (inr (before_less y x ys xs (omega arith)))
          ]
    ]

pub before_not_self : (xs : Cols) → before xs xs ≡ true → ⊥
unfolding before
before_not_self [] h = false≢true h
before_not_self (x ∷ xs) h = elim (before_cases x x xs xs h) [ inl a ↦ omega arith | inr a ↦ before_not_self xs a.1 ]

abbrev First : List Cols → Type 0
First [] = Unit {0}
First (k ∷ ks) = (j : Cols) → In j ks → before k j ≡ true

pub first_least : {ks : List Cols} → IsInOrder ks → First ks
first_least no_set = tt
first_least one_set = λ j h. absurd h
first_least (and_set {k = k} {j = j} {js = js} b o) =
    let f = first_least o in
    λ i h. elim h [ inl e ↦ subst (λ v. before k v ≡ true) e b | inr m ↦ before_trans k j i b (f i m) ]

rest_order : {k : Cols} {ks : List Cols} → IsInOrder (k ∷ ks) → IsInOrder ks
rest_order one_set = no_set
rest_order (and_set b o) = o

rest_in : (k : Cols) (ks js : List Cols) → IsInOrder (k ∷ ks) → Sub (k ∷ ks) (k ∷ js) → Sub ks js
rest_in k ks js o f x i =
    elim (f x (inr i)) [ inl e ↦ absurd (before_not_self k (subst (λ v. before k v ≡ true) (sym e) (first_least o x i))) | inr h ↦ h ]

same_first : (k j : Cols) (ks js : List Cols) → IsInOrder (k ∷ ks) → IsInOrder (j ∷ js) → In k (j ∷ js) → In j (k ∷ ks) → k ≡ j
same_first k j ks js o p h g =
    elim h [
      | inl e ↦ sym e
      | inr a ↦ elim g [ inl e ↦ e | inr b ↦ absurd (before_not_self k (before_trans k j k (first_least o j b) (first_least p k a))) ]
    ]

pub one_list : (ks js : List Cols) → IsInOrder ks → IsInOrder js → Sub ks js → Sub js ks → ks ≡ js
one_list [] [] o p f g = refl
one_list [] (j ∷ js) o p f g = absurd (g j (inl refl))
one_list (k ∷ ks) [] o p f g = absurd (f k (inl refl))
one_list (k ∷ ks) (j ∷ js) o p f g =
    let e : k ≡ j = same_first k j ks js o p (f k (inl refl)) (g j (inl refl)) in
    let f' : Sub (k ∷ ks) (k ∷ js) = subst (λ v. Sub (k ∷ ks) (v ∷ js)) (sym e) f in
    let g' : Sub (j ∷ js) (j ∷ ks) = subst (λ v. Sub (j ∷ js) (v ∷ ks)) e g in
    let t : ks ≡ js = one_list ks js (rest_order o) (rest_order p) (rest_in k ks js o f') (rest_in j js ks p g') in
    cc

pub listed_in : {k : Cols} {ks : List Cols} → Listed k ks → In k ks
listed_in here = inl refl
listed_in (there h) = inr (listed_in h)

pub in_listed : (ks : List Cols) (k : Cols) → In k ks → Listed k ks
in_listed [] k h = absurd h
in_listed (j ∷ js) k h = elim h [ inl e ↦ subst (λ v. Listed k (v ∷ js)) (sym e) here | inr i ↦ there (in_listed js k i) ]

pub order_told : (ks : List Cols) → is_in_order ks ≡ true → IsInOrder ks
order_told [] h = no_set
order_told (k ∷ []) h = one_set
order_told (k ∷ j ∷ js) h = let w = and_parts (before k j) (is_in_order (j ∷ js)) h in and_set w.0 (order_told (j ∷ js) w.1)
