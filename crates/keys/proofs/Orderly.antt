-- Sets in order: two lists in order, all of the first before all of the second, are one.
use Rattle.std.proofs.Common.{◌≡◌, ℕ, ◌<◌, ◌≤◌, true, List, [], ◌∷◌, ◌++◌, sym, refl, ◌∙◌, inl, inr, arith}
use Rattle.std.proofs.lemmas.Bool.{cases_eq, cases_lt}
use Rattle.columns.specs.Cols.{Cols, Rising}
use Rattle.columns.specs.Order.{before, IsInOrder, no_set, one_set, and_set}
use Rattle.columns.specs.Members.{In}
use Rattle.columns.proofs.Rising.{rising_rest, rising_low}
use Rattle.columns.proofs.InOrder.{before_less, before_same}

abbrev pub Earlier : List Cols → List Cols → Type 0
Earlier ks js = (k j : Cols) → In k ks → In j js → before k j ≡ true

pub order_tail : {k : Cols} {ks : List Cols} → IsInOrder (k ∷ ks) → IsInOrder ks
order_tail one_set = no_set
order_tail (and_set b o) = o

order_put : (k : Cols) (js : List Cols) → IsInOrder js → ((j : Cols) → In j js → before k j ≡ true) → IsInOrder (k ∷ js)
order_put k [] o f = one_set
order_put k (j ∷ js) o f = and_set (f j (inl refl)) o

order_head : {k j : Cols} {ks : List Cols} → IsInOrder (k ∷ j ∷ ks) → before k j ≡ true
order_head (and_set b o) = b

pub order_append : (ks js : List Cols) → IsInOrder ks → IsInOrder js → Earlier ks js → IsInOrder (ks ++ js)
order_append [] js o p f = p
order_append (k ∷ []) js o p f = order_put k js p (λ j i. f k j (inl refl) i)
order_append (k ∷ l ∷ ks) js o p f = and_set (order_head o) (order_append (l ∷ ks) js (order_tail o) p (λ a b i h. f a b (inr i) h))

-- the first set has the column c, where the other, which agrees with it below c, has only later ones
pub before_split : (xs ys : Cols) (c d : ℕ) → Rising xs → Rising ys → ((e : ℕ) → e < c → (In e xs → In e ys) × (In e ys → In e xs)) → In c xs → (In c ys → ⊥) → In d ys → c ≤ d
    → before xs ys ≡ true
before_split [] ys c d r s f x y z h = absurd x
before_split (u ∷ us) [] c d r s f x y z h = absurd z
before_split (u ∷ us) (w ∷ ws) c d r s f x y z h =
    let low : u ≤ c = elim x [ inl e ↦ omega arith | inr i ↦ let l : u < c = rising_low r c i in omega arith ] in
    elim (cases_lt u w) [
      | inl l ↦ before_less u w us ws l
      | inr l ↦
          elim (cases_eq u w) [
            | inl e ↦
                let ne : c ≡ u → ⊥ = λ q. y (inl (sym (q ∙ e))) in
                let x' : In c us = elim x [ inl q ↦ absurd (ne (sym q)) | inr i ↦ i ] in
                let z' : In d ws = elim z [ inl q ↦ absurd (let t : c ≡ u = omega arith in ne t) | inr i ↦ i ] in
                let f' : (a : ℕ) → a < c → (In a us → In a ws) × (In a ws → In a us)
                = λ a m. (
                  (λ i. let p : u < a = rising_low r a i in elim ((f a m).0 (inr i)) [ inl q ↦ absurd (omega arith) | inr j ↦ j ]),
                  (λ i. let p : w < a = rising_low s a i in elim ((f a m).1 (inr i)) [ inl q ↦ absurd (omega arith) | inr j ↦ j ]),
                ) in
                before_same u w us ws e (before_split us ws c d (rising_rest r) (rising_rest s) f' x' (λ i. y (inr i)) z' h)
            | inr ne ↦
                let lt : w < u = omega arith in
                elim ((f w (omega arith)).1 (inl refl)) [ inl q ↦ absurd (omega arith) | inr i ↦ let p : u < w = rising_low r w i in absurd (omega arith) ]
          ]
    ]
