-- A day as bytes, deed by deed and cell by cell.
use Rattle.std.proofs.Common.{◌≡◌, ℕ, zero, suc, ◌+◌, ◌-◌, ◌*◌, ◌/◌, ◌<◌, ◌≤◌, min, Bool, ltb, leb, List, [], ◌∷◌, ◌++◌, length, get_or, take, drop, set, sym, refl, ap, ◌∙◌, subst, ap₂, inl, inr, append_assoc, arith}
use borrow.Rule.Slice.PartMut.{put_mid}
use Rattle.std.proofs.lemmas.Nat.{div-add-mod', mod_below, mul-le}
use Rattle.std.proofs.lemmas.Bool.{lt-ltb, le-ltb, le-leb, lt-leb, ne_eqb, eq-eqb, cases_lt}
use Rattle.std.proofs.lemmas.List.{take_all, take_rest, take_more_set, length-drop, length-append, append-nil, drop_all, drop-drop, take-append-drop}
use Rattle.std.proofs.lemmas.Slice.{take-put_mid, drop-put_mid}
use Rattle.columns.specs.Cols.{pick}
use Rattle.register.specs.DayBytes.{deed_bytes, cell_of_bytes, cells_of_bytes, deed_of_bytes, deeds_of_bytes, rest_is}
use Rattle.register.specs.declared.day_bytes.DayRest.{DayRest}
use Rattle.register.specs.declared.day_bytes.DayRest.TheVariants.{Ended, NoDeed, Unanswered, CutShort}
use Rattle.parts.proofs.Spaces.{next_row, row_fits, suc_row}
use Rattle.register.proofs.Daily.{whole_fits, fewer_fit}

-- ---- cells
cells_more : (k : ℕ) (bs : List ℕ) → 0 < k → cells_of_bytes k bs ≡ cell_of_bytes bs ∷ cells_of_bytes (k - 1) (drop 4 bs)
unfolding cells_of_bytes
cells_more zero bs l = absurd (omega arith)
cells_more (suc k) bs l = let z : k ≡ suc k - 1 = omega arith in ap (λ (m : ℕ). cell_of_bytes bs ∷ cells_of_bytes m (drop 4 bs)) z

cells_none : (k : ℕ) (bs : List ℕ) → k ≤ 0 → cells_of_bytes k bs ≡ []
unfolding cells_of_bytes
cells_none zero bs l = refl
cells_none (suc k) bs l = absurd (omega arith)

pub cells_length : (k : ℕ) (bs : List ℕ) → length (cells_of_bytes k bs) ≡ k
unfolding cells_of_bytes
cells_length zero bs = refl
cells_length (suc k) bs = ap suc (cells_length k (drop 4 bs))

-- c cells were written, of m
pub record CellsSoFar (m : ℕ) (bs : List ℕ) (c : ℕ) (left xs : List ℕ) : Type 0 where
  pub long : 4 * (m - c) ≤ length left
  pub wrote : take c xs ++ cells_of_bytes (m - c) left ≡ cells_of_bytes m bs

pub cells_start : (m : ℕ) (bs xs : List ℕ) → 4 * m ≤ length bs → CellsSoFar m bs 0 bs xs
cells_start m bs xs l = let z : m - 0 ≡ m = omega arith in record { long = omega arith; wrote = ap (λ (k : ℕ). cells_of_bytes k bs) z }

pub cells_next : (m : ℕ) (bs : List ℕ) (c : ℕ) (left behind xs : List ℕ) (v : ℕ) → c < m → length xs ≡ m → CellsSoFar m bs c left xs → v ≡ cell_of_bytes left
    → behind ≡ take (length left - 4) (drop 4 left) → CellsSoFar m bs (c + 1) behind (set xs c v)
cells_next m bs c left behind xs v l long w e b =
    let d : behind ≡ drop 4 left = b ∙ take_rest left 4 in
    let z : m - c - 1 ≡ m - (c + 1) = omega arith in
    let more : cells_of_bytes (m - c) left ≡ v ∷ cells_of_bytes (m - (c + 1)) behind
    = cells_more (m - c) left (omega arith) ∙ ap₂ (λ (u : ℕ) (us : List ℕ). u ∷ us) (sym e) (ap₂ (λ (k : ℕ) (y : List ℕ). cells_of_bytes k y) z (sym d)) in
    record {
      long = omega (arith, w.long, ap length d, length-drop 4 left);
      wrote =
          ap (λ (y : List ℕ). y ++ cells_of_bytes (m - (c + 1)) behind) (take_more_set xs c v (omega arith))
          ∙ append_assoc (take c xs) (v ∷ []) (cells_of_bytes (m - (c + 1)) behind) ∙ ap (λ (y : List ℕ). take c xs ++ y) (sym more) ∙ w.wrote;
    }

pub cells_end : (m : ℕ) (bs : List ℕ) (c : ℕ) (left xs : List ℕ) → m ≤ c → length xs ≡ m → CellsSoFar m bs c left xs → xs ≡ cells_of_bytes m bs
cells_end m bs c left xs l long w =
    sym (take_all c xs (omega arith)) ∙ sym (append-nil (take c xs)) ∙ ap (λ (y : List ℕ). take c xs ++ y) (sym (cells_none (m - c) left (omega arith))) ∙ w.wrote

-- a deed: the first number, and the cells behind it
pub deed_written : (n k m : ℕ) (xs bs tail cs : List ℕ) (v : ℕ) → length xs ≡ n + 1 → v ≡ get_or bs 0 0 → cs ≡ cells_of_bytes m tail → m ≡ n → tail ≡ drop 1 bs → k ≡ n
    → put_mid 1 k (set xs 0 v) cs ≡ deed_of_bytes n bs
deed_written n k m [] bs tail cs v l e f a b d = absurd (omega arith)
deed_written n k m (x ∷ xs) bs tail cs v l e f a b d =
    let none : drop k xs ≡ [] = drop_all k xs (omega arith) in
    ap (λ (us : List ℕ). v ∷ (cs ++ us)) none ∙ ap₂ (λ (u : ℕ) (us : List ℕ). u ∷ us) e (append-nil cs ∙ f ∙ ap₂ (λ (i : ℕ) (us : List ℕ). cells_of_bytes i us) a b)

-- ---- deeds
deeds_more : (n k : ℕ) (bs : List ℕ) → 0 < k → deeds_of_bytes n k bs ≡ deed_of_bytes n bs ++ deeds_of_bytes n (k - 1) (drop (deed_bytes n) bs)
unfolding deeds_of_bytes
deeds_more n zero bs l = absurd (omega arith)
deeds_more n (suc k) bs l = let z : k ≡ suc k - 1 = omega arith in ap (λ (m : ℕ). deed_of_bytes n bs ++ deeds_of_bytes n m (drop (deed_bytes n) bs)) z

deeds_none : (n k : ℕ) (bs : List ℕ) → k ≤ 0 → deeds_of_bytes n k bs ≡ []
unfolding deeds_of_bytes
deeds_none n zero bs l = refl
deeds_none n (suc k) bs l = absurd (omega arith)

deed_length : (n : ℕ) (bs : List ℕ) → length (deed_of_bytes n bs) ≡ n + 1
deed_length n bs = ap suc (cells_length n (drop 1 bs)) ∙ omega arith

pub deeds_length : (n k : ℕ) (bs : List ℕ) → length (deeds_of_bytes n k bs) ≡ k * (n + 1)
unfolding deeds_of_bytes
deeds_length n zero bs = omega arith
deeds_length n (suc k) bs =
    length-append (deed_of_bytes n bs) (deeds_of_bytes n k (drop (deed_bytes n) bs))
    ∙ ap₂ (λ (a b : ℕ). a + b) (deed_length n bs) (deeds_length n k (drop (deed_bytes n) bs)) ∙ sym (suc_row k (n + 1))

-- e deeds were written, of k
pub record DeedsSoFar (n k : ℕ) (bs lent : List ℕ) (e : ℕ) (left xs : List ℕ) : Type 0 where
  pub long : (k - e) * deed_bytes n ≤ length left
  pub wrote : take (e * (n + 1)) xs ++ deeds_of_bytes n (k - e) left ≡ deeds_of_bytes n k bs
  pub rest : drop (e * (n + 1)) xs ≡ drop (e * (n + 1)) lent

pub deeds_start : (n k : ℕ) (bs lent : List ℕ) → k * deed_bytes n ≤ length bs → DeedsSoFar n k bs lent 0 bs lent
deeds_start n k bs lent l =
    let z : k - 0 ≡ k = omega arith in
    let y : 0 * (n + 1) ≡ 0 = omega arith in
    record {
      long = subst (λ (m : ℕ). m * deed_bytes n ≤ length bs) (sym z) l;
      wrote = ap₂ (λ (a b : ℕ). take a lent ++ deeds_of_bytes n b bs) y z;
      rest = refl;
    }

module _ (n k : ℕ) (bs lent : List ℕ) (e : ℕ) (left xs : List ℕ) (w : DeedsSoFar n k bs lent e left xs) where
  pub deed_there : e < k → deed_bytes n ≤ length left
  deed_there l =
      let z : k - e ≡ suc (k - e - 1) = omega arith in
      let s : (k - e) * deed_bytes n ≡ deed_bytes n + (k - e - 1) * deed_bytes n = ap (λ (m : ℕ). m * deed_bytes n) z ∙ suc_row (k - e - 1) (deed_bytes n) in
      omega (arith, w.long)

  pub deeds_next : (len size : ℕ) (slot behind : List ℕ) → e < k → len ≡ n + 1 → size ≡ deed_bytes n → e * len + len ≤ length xs → slot ≡ deed_of_bytes n left
      → behind ≡ take (length left - size) (drop size left) → DeedsSoFar n k bs lent (e + 1) behind (put_mid (e * len) (e * len + len - e * len) xs slot)
  deeds_next len size slot behind l q s room f b =
      let at : e * len ≡ e * (n + 1) = ap (λ (m : ℕ). e * m) q in
      let nx : (e + 1) * (n + 1) ≡ e * (n + 1) + (n + 1) = next_row e (n + 1) in
      let d : behind ≡ drop (deed_bytes n) left = b ∙ take_rest left size ∙ ap (λ (m : ℕ). drop m left) s in
      let z : k - e - 1 ≡ k - (e + 1) = omega arith in
      let sl : length slot ≡ n + 1 = ap length f ∙ deed_length n left in
      let more : deeds_of_bytes n (k - e) left ≡ slot ++ deeds_of_bytes n (k - (e + 1)) behind
      = deeds_more n (k - e) left (omega arith) ∙ ap₂ (λ (u us : List ℕ). u ++ us) (sym f) (ap₂ (λ (m : ℕ) (y : List ℕ). deeds_of_bytes n m y) z (sym d)) in
      let fr : take ((e + 1) * (n + 1)) (put_mid (e * len) (e * len + len - e * len) xs slot) ≡ take (e * len) xs ++ slot
      = take-put_mid (e * len) (e * len + len - e * len) xs slot ((e + 1) * (n + 1)) (omega arith) (omega arith) in
      let there : e * (n + 1) + (n + 1) ≤ length xs = omega arith in
      let km : (k - e) * deed_bytes n ≡ deed_bytes n + (k - (e + 1)) * deed_bytes n
      = (let y : k - e ≡ suc (k - (e + 1)) = omega arith in ap (λ (m : ℕ). m * deed_bytes n) y ∙ suc_row (k - (e + 1)) (deed_bytes n)) in
      record {
        long = omega (arith, w.long, ap length d, length-drop (deed_bytes n) left);
        wrote =
            ap (λ (y : List ℕ). y ++ deeds_of_bytes n (k - (e + 1)) behind) fr
            ∙ append_assoc (take (e * len) xs) slot (deeds_of_bytes n (k - (e + 1)) behind)
            ∙ ap (λ (y : List ℕ). take (e * len) xs ++ y) (sym more)
            ∙ ap (λ (m : ℕ). take m xs ++ deeds_of_bytes n (k - e) left) at ∙ w.wrote;
        rest =
            drop-put_mid (e * len) (e * len + len - e * len) xs slot ((e + 1) * (n + 1)) (omega arith) (omega arith) (omega arith)
            ∙ ap (λ (m : ℕ). drop m xs) nx ∙ sym (drop-drop (n + 1) (e * (n + 1)) xs) ∙ ap (λ (y : List ℕ). drop (n + 1) y) w.rest
            ∙ drop-drop (n + 1) (e * (n + 1)) lent ∙ ap (λ (m : ℕ). drop m lent) (sym nx);
      }

  pub deeds_end : k ≤ e → e ≤ k → xs ≡ deeds_of_bytes n k bs ++ drop (k * (n + 1)) lent
  deeds_end a b =
      let q : e ≡ k = omega arith in
      let all : take (e * (n + 1)) xs ≡ deeds_of_bytes n k bs
      = sym (append-nil (take (e * (n + 1)) xs)) ∙ ap (λ (y : List ℕ). take (e * (n + 1)) xs ++ y) (sym (deeds_none n (k - e) left (omega arith))) ∙ w.wrote in
      sym (take-append-drop (e * (n + 1)) xs) ∙ ap₂ (λ (u v : List ℕ). u ++ v) all (w.rest ∙ ap (λ (m : ℕ). drop (m * (n + 1)) lent) q)

-- the place of a deed in the lent row
pub slot_fits : (n len e k m : ℕ) → len ≡ n + 1 → e < k → k * (n + 1) ≤ m → e * len + len ≤ m
slot_fits n len e k m q l h =
    let f = row_fits e k (n + 1) l in
    let z : e * len + len ≡ e * (n + 1) + (n + 1) = ap (λ (w : ℕ). e * w + w) q in
    omega arith

-- the fewer of two counts
-- ---- what stands behind
pub drop_min : (bs : List ℕ) (s m : ℕ) → m ≡ min s (length bs) → drop m bs ≡ drop s bs
drop_min bs s m e =
    elim (cases_lt s (length bs)) [
      | inl l ↦ let q : m ≡ s = omega arith in ap (λ (k : ℕ). drop k bs) q
      | inr l ↦ drop_all m bs (omega arith) ∙ sym (drop_all s bs (omega arith))
    ]

pub answered_fits : (size a : ℕ) (bs : List ℕ) → a ≤ length bs / size → a * size ≤ length bs
answered_fits size a bs l = fewer_fit a (length bs / size) size (length bs) l (whole_fits (length bs) size)

pub nothing_left : (n a : ℕ) (bs : List ℕ) → length bs / deed_bytes n < a → Ended ≡ rest_is n (drop (a * deed_bytes n) bs)
nothing_left n a bs l =
    let w : ℕ = deed_bytes n in
    let d = div-add-mod' (length bs) w in
    let r = mod_below (length bs) w (omega arith) in
    let f = mul-le (length bs / w + 1) w a w (omega arith) (omega arith) in
    let g = next_row (length bs / w) w in
    ap (rest_is n) (sym (drop_all (a * w) bs (omega arith)))

pub left_is : (n size a : ℕ) (bs : List ℕ) → size ≡ deed_bytes n → take (length bs - a * size) (drop (a * size) bs) ≡ drop (a * deed_bytes n) bs
left_is n size a bs q = take_rest bs (a * size) ∙ ap (λ (w : ℕ). drop (a * w) bs) q

module _ (n : ℕ) (left all : List ℕ) (same : left ≡ all) where
  abbrev last : DayRest
  last = CutShort ((length left - 1) / 4)

  abbrev whole : DayRest
  whole = pick (leb (deed_bytes n) (length left)) Unanswered last

  abbrev begun : DayRest
  begun = pick (ltb 1 (get_or left 0 0)) NoDeed whole

  pub rest_ended : length left ≡ 0 → Ended ≡ rest_is n all
  rest_ended e = sym (ap (λ (t : Bool). pick t Ended begun) (eq-eqb (length left) 0 e)) ∙ ap (rest_is n) same

  some_left : (length left ≡ 0 → ⊥) → begun ≡ rest_is n all
  some_left e = sym (ap (λ (t : Bool). pick t Ended begun) (ne_eqb (length left) 0 e)) ∙ ap (rest_is n) same

  pub rest_none : (length left ≡ 0 → ⊥) → 1 < get_or left 0 0 → NoDeed ≡ rest_is n all
  rest_none e l = sym (ap (λ (t : Bool). pick t NoDeed whole) (lt-ltb 1 (get_or left 0 0) l)) ∙ some_left e

  a_deed : (length left ≡ 0 → ⊥) → get_or left 0 0 ≤ 1 → whole ≡ rest_is n all
  a_deed e l = sym (ap (λ (t : Bool). pick t NoDeed whole) (le-ltb 1 (get_or left 0 0) l)) ∙ some_left e

  pub rest_whole : (length left ≡ 0 → ⊥) → get_or left 0 0 ≤ 1 → deed_bytes n ≤ length left → Unanswered ≡ rest_is n all
  rest_whole e l g = sym (ap (λ (t : Bool). pick t Unanswered last) (le-leb (deed_bytes n) (length left) g)) ∙ a_deed e l

  pub rest_cut : (k : ℕ) → k ≡ (length left - 1) / 4 → (length left ≡ 0 → ⊥) → get_or left 0 0 ≤ 1 → length left < deed_bytes n → CutShort k ≡ rest_is n all
  rest_cut k q e l g = ap CutShort q ∙ sym (ap (λ (t : Bool). pick t Unanswered last) (lt-leb (deed_bytes n) (length left) g)) ∙ a_deed e l
