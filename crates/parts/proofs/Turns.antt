-- What each loop and each write of a part keeps, from what its cells hold.
use Rattle.std.proofs.Common.{◌≡◌, ℕ, suc, ◌+◌, ◌-◌, ◌*◌, ◌<◌, ◌≤◌, Bool, true, false, ltb, leb, List, [], ◌∷◌, length, get_or, take, drop, sym, refl, ap, ◌∙◌, ap₂, arith}
use Rattle.std.proofs.lemmas.Bool.{lt-ltb, le-ltb, leb-false}
use Rattle.parts.specs.Answers.{full}
use Rattle.std.proofs.lemmas.List.{get_or-take, take-take, nil_from_length}
use Rattle.dependencies.specs.Tables.{Row, agree}
use Rattle.columns.specs.Cols.{Cols, pick}
use Rattle.parts.specs.Day.{Held}
use Rattle.parts.specs.Store.{held_row, held_in, no_held, place_in}
use Rattle.parts.proofs.Decoded.{held_stop, held_more, held_length, held_at}
use Rattle.parts.proofs.Placed.{holds_place}

-- the row at the front, as the code cuts it
module _ (n m k : ℕ) (cells front : List ℕ) (e : m ≡ n) (f : front ≡ take (m + 1) cells) where
  times_here : get_or cells n 0 ≡ get_or front m 0
  times_here = ap (λ (i : ℕ). get_or cells i 0) (sym e) ∙ sym (get_or-take (m + 1) cells m 0 (omega arith)) ∙ ap (λ (xs : List ℕ). get_or xs m 0) (sym f)

  pub rows_end : get_or front m 0 ≡ 0 → held_in n k cells ≡ []
  rows_end z = held_stop n k cells (times_here ∙ z)

  pub rows_turn : (behind : List ℕ) → behind ≡ drop (m + 1) cells → 0 < k → (get_or front m 0 ≡ 0 → ⊥)
      → held_in n k cells ≡ record { looks = take m front; times = get_or front m 0 } ∷ held_in n (k - 1) behind
  unfolding held_row
  rows_turn behind b l some =
      let looks : take n cells ≡ take m front = ap (λ (i : ℕ). take i cells) (sym e) ∙ sym (take-take m (m + 1) cells (omega arith)) ∙ ap (λ (xs : List ℕ). take m xs) (sym f) in
      held_more n k cells l (λ z. some (sym times_here ∙ z))
      ∙ ap₂ (λ (h : Held) (xs : List ℕ). h ∷ held_in n (k - 1) xs) (ap₂ (λ (u : List ℕ) (t : ℕ). record { looks = u; times = t }) looks times_here)
      (ap (λ (i : ℕ). drop (i + 1) cells) (sym e) ∙ sym b)

pub no_rows : (n k : ℕ) (cells : List ℕ) → k ≡ 0 → held_in n k cells ≡ []
no_rows n k cells e = nil_from_length (held_in n k cells) (omega (arith, held_length n k cells))

-- looking for a look: i rows were passed, and these are left
module _ (p : Cols) (r : Row) (hs : List Held) where
  pub place_found : (h : Held) (left : List Held) (i l : ℕ) → hs ≡ h ∷ left → agree p r h.looks ≡ true → i + place_in p r hs ≡ l → i ≡ l
  unfolding place_in
  place_found h left i l e a inv =
      let z : place_in p r hs ≡ 0 = ap (λ (z : List Held). place_in p r z) e ∙ rw a in
      omega arith

  pub place_next : (h : Held) (left : List Held) (i j l : ℕ) → hs ≡ h ∷ left → agree p r h.looks ≡ false → j ≡ i + 1 → i + place_in p r hs ≡ l → j + place_in p r left ≡ l
  unfolding place_in
  place_next h left i j l e a next inv =
      let z : place_in p r hs ≡ suc (place_in p r left) = ap (λ (z : List Held). place_in p r z) e ∙ rw a in
      omega arith

  pub place_end : (i l : ℕ) → hs ≡ [] → i + place_in p r hs ≡ l → i ≡ l
  unfolding place_in
  place_end i l e inv =
      let z : place_in p r hs ≡ 0 = ap (λ (z : List Held). place_in p r z) e in
      omega arith

-- a part that is full
pub full_test : (k : ℕ) (p : Cols) (r : Row) (hs : List Held) → full k p r hs ≡ pick (ltb (place_in p r hs) (length hs)) (leb 4294967295 (get_or hs (place_in p r hs) no_held).times) (leb k (length hs))
unfolding full
full_test k p r hs = rw (holds_place p r hs)

module _ (n k : ℕ) (p : Cols) (r : Row) (xs : List ℕ) (i : ℕ) (q : i ≡ place_in p r (held_in n k xs)) where
  abbrev HS : List Held
  HS = held_in n k xs

  times_there : (t : ℕ) → i < length HS → t ≡ get_or xs (i * (n + 1) + n) 0 → t ≡ (get_or HS (place_in p r HS) no_held).times
  times_there t l e = e ∙ sym (held_at n i k xs l).1 ∙ ap (λ (z : ℕ). (get_or HS z no_held).times) q

  pub full_there : (t : ℕ) → i < length HS → t ≡ get_or xs (i * (n + 1) + n) 0 → leb 4294967295 t ≡ full k p r HS
  full_there t l e =
      ap (λ (z : ℕ). leb 4294967295 z) (times_there t l e)
      ∙ sym (full_test k p r HS ∙ ap (λ (b : Bool). pick b (leb 4294967295 (get_or HS (place_in p r HS) no_held).times) (leb k (length HS))) (lt-ltb (place_in p r HS) (length HS) (omega arith)))

  pub full_new : (h : ℕ) → h ≡ length HS → h ≤ i → leb k h ≡ full k p r HS
  full_new h e l =
      ap (λ (z : ℕ). leb k z) e
      ∙ sym (full_test k p r HS ∙ ap (λ (b : Bool). pick b (leb 4294967295 (get_or HS (place_in p r HS) no_held).times) (leb k (length HS))) (le-ltb (place_in p r HS) (length HS) (omega arith)))

  -- what is not full has a place for the row, and can count it
  pub times_small : (t : ℕ) → i < length HS → t ≡ get_or xs (i * (n + 1) + n) 0 → full k p r HS ≡ false → t < 4294967295
  times_small t l e f = leb-false 4294967295 t (full_there t l e ∙ f)

  pub room_left : length HS ≤ i → full k p r HS ≡ false → length HS < k
  room_left l f = leb-false k (length HS) (full_new (length HS) refl l ∙ f)
