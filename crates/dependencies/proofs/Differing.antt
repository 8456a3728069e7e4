-- A row made cell by cell: the old cells at first, and then the new one in one column of a set after the other, from the lowest.
use Rattle.std.proofs.Common.{◌≡◌, ℕ, ◌<◌, ◌≤◌, Bool, true, false, List, [], ◌∷◌, length, get_or, take, set, replicate, sym, refl, ap, ◌∙◌, subst, inl, inr, arith, length-set, get_or-set_other, get_or-set_same}
use Rattle.std.proofs.lemmas.Bool.{cases_eq}
use Rattle.std.proofs.lemmas.List.{get_or-replicate, take_all}
use Rattle.columns.specs.Cols.{Cols, pick, has, Rising}
use Rattle.columns.specs.Members.{In, Sub}
use Rattle.columns.proofs.Columns.{has_in, in_has, not_in_has}
use Rattle.columns.proofs.Lists.{same_test}
use Rattle.columns.proofs.Rising.{rising_low}
use Rattle.dependencies.specs.Tables.{draw, zero_row}
use Rattle.dependencies.proofs.Drawn.{cells_drawn}

-- new cells in some columns, and old ones in the others
module _ (new old : ℕ → ℕ) where
  -- the cell in a column that was not taken out yet is the old one
  abbrev cell : Cols → Cols → ℕ → ℕ
  cell rest all i = pick (has rest i) (old i) (pick (has all i) (new i) (old i))

  pub record Half (xs : List ℕ) (rest all : Cols) : Type 0 where
    pub long : length xs ≡ 16
    pub cells : (i : ℕ) → i < 16 → get_or xs i 0 ≡ cell rest all i
    pub inside : Sub rest all

  all_old : (b : Bool) (i : ℕ) → old i ≡ pick b (old i) (pick b (new i) (old i))
  all_old true i = refl
  all_old false i = refl

  pub half_start : (xs : List ℕ) (all : Cols) → length xs ≡ 16 → ((i : ℕ) → i < 16 → get_or xs i 0 ≡ old i) → Half xs all all
  half_start xs all long was = record { long = long; cells = λ i l. was i l ∙ all_old (has all i) i; inside = λ c i. i }

  pub half_turn : (xs : List ℕ) (c : ℕ) (before rest all : Cols) → c < 16 → Rising before → before ≡ c ∷ rest → Half xs before all → Half (set xs c (new c)) rest all
  half_turn xs c before rest all l r e h =
      let r' : Rising (c ∷ rest) = subst Rising e r in
      let inner : (i : ℕ) → In i (c ∷ rest) → In i all = λ i j. h.inside i (subst (λ w. In i w) (sym e) j) in
      record {
        long = length-set xs c (new c) ∙ h.long;
        cells = λ i m.
            elim (cases_eq i c) [
              | inl q ↦
                  let gone : has rest c ≡ false = not_in_has rest c (λ j. let s : c < c = rising_low r' c j in omega arith) in
                  let was : has all c ≡ true = in_has all c (inner c (inl refl)) in
                  let low : c < length xs = omega (arith, h.long) in
                  let here : get_or (set xs c (new c)) c 0 ≡ cell rest all c
                  = rw get_or-set_same (sym (ap (λ b. pick b (old c) (pick (has all c) (new c) (old c))) gone ∙ ap (λ b. pick b (new c) (old c)) was)) in
                  subst (λ w. get_or (set xs c (new c)) w 0 ≡ cell rest all w) (sym q) here
              | inr ne ↦
                  let same : has before i ≡ has rest i = same_test (has before i) (has rest i)
                  (λ t. elim (subst (λ w. In i w) e (has_in before i t)) [ inl q ↦ absurd (ne (sym q)) | inr j ↦ in_has rest i j ])
                  (λ t. in_has before i (subst (λ w. In i w) (sym e) (inr (has_in rest i t)))) in
                  rw get_or-set_other (h.cells i m ∙ ap (λ b. pick b (old i) (pick (has all i) (new i) (old i))) same)
            ];
        inside = λ i j. inner i (inr j);
      }

  pub half_end : (xs : List ℕ) (rest all : Cols) → rest ≡ [] → Half xs rest all → xs ≡ draw (λ c. pick (has all c) (new c) (old c)) 0 16
  half_end xs rest all e h =
      let none : (i : ℕ) → has rest i ≡ false = λ i. not_in_has rest i (λ j. subst (λ w. In i w) e j) in
      sym (take_all 16 xs (omega (arith, h.long)))
      ∙ cells_drawn (λ c. pick (has all c) (new c) (old c)) 16 xs (omega (arith, h.long)) (λ i m. h.cells i m ∙ ap (λ b. pick b (old i) (pick (has all i) (new i) (old i))) (none i))

pub zeros : (n : ℕ) → n ≤ 16 → take n (replicate 16 0) ≡ zero_row n
zeros n l = cells_drawn (λ c. 0) n (replicate 16 0) l (λ i m. get_or-replicate 16 i 0 0 (omega arith))
