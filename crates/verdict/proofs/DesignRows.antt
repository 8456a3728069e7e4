-- Designs as bytes: one part more, and how many numbers there are.
use Rattle.std.proofs.Common.{map, ◌≡◌, ℕ, zero, suc, ◌+◌, ◌-◌, ◌*◌, ◌/◌, ◌<◌, ◌≤◌, min, leb, List, [], ◌∷◌, ◌++◌, length, get_or, take, drop, set, sym, refl, ap, ◌∙◌, subst, inl, inr, arith, length-append, length-drop}
use Rattle.std.specs.Simd.{first_chunks}
use Rattle.std.proofs.lemmas.List.{map-append, length-map, take_all, drop_all, drop-drop, length-take-le, take_more}
use Rattle.std.proofs.lemmas.Bool.{leb-true, leb-false, cases_Bool}
use Rattle.dependencies.specs.Bytes.{sets_in_bytes}
use Rattle.dependencies.specs.Lent.{put_list}
use Rattle.dependencies.proofs.ByteRows.{set_of, sets_length}
use Rattle.dependencies.proofs.Lent.{put_append}
use Rattle.verdict.specs.DesignBytes.{parts_of_bytes, design_of_bytes}

-- the bytes of a part's own rules, as far as there are any
abbrev pub own_bytes : List ℕ → ℕ
own_bytes bs = min (4 * get_or bs 2 0) (length bs - 3)

take_min : (k : ℕ) (bs : List ℕ) → take (min k (length bs)) bs ≡ take k bs
take_min k bs =
    elim (cases_Bool (leb k (length bs))) [
      | inl t ↦ let l = leb-true k (length bs) t in let e : min k (length bs) ≡ k = omega arith in ap (λ (j : ℕ). take j bs) e
      | inr t ↦
          let l = leb-false k (length bs) t in
          take_all (min k (length bs)) bs (omega arith) ∙ sym (take_all k bs (omega arith))
    ]

drop_min : (k : ℕ) (bs : List ℕ) → drop (min k (length bs)) bs ≡ drop k bs
drop_min k bs =
    elim (cases_Bool (leb k (length bs))) [
      | inl t ↦ let l = leb-true k (length bs) t in let e : min k (length bs) ≡ k = omega arith in ap (λ (j : ℕ). drop j bs) e
      | inr t ↦
          let l = leb-false k (length bs) t in
          drop_all (min k (length bs)) bs (omega arith) ∙ sym (drop_all k bs (omega arith))
    ]

-- a part more: its set, how many rules it owns, and their sets
pub parts_more : (k : ℕ) (bs : List ℕ) → 3 ≤ length bs → parts_of_bytes (suc k) bs
    ≡ (get_or bs 0 0 + 256 * get_or bs 1 0) ∷ (get_or bs 2 0 ∷ (sets_in_bytes (take (own_bytes bs) (drop 3 bs)) ++ parts_of_bytes k (drop (3 + own_bytes bs) bs)))
unfolding parts_of_bytes
parts_more k [] h = absurd (omega arith)
parts_more k (a ∷ []) h = absurd (omega arith)
parts_more k (a ∷ (b ∷ [])) h = absurd (omega arith)
parts_more k (a ∷ (b ∷ (c ∷ bs))) h =
    let all = a ∷ (b ∷ (c ∷ bs)) in
    let size = min (4 * c) (length bs) in
    let same : own_bytes all ≡ size = omega arith in
    ap (λ (v : List ℕ). (a + 256 * b) ∷ (c ∷ (sets_in_bytes v ++ parts_of_bytes k (drop (4 * c) bs)))) (sym (take_min (4 * c) bs))
    ∙ ap (λ (v : List ℕ). (a + 256 * b) ∷ (c ∷ (sets_in_bytes (take size bs) ++ parts_of_bytes k v))) (sym (drop_min (4 * c) bs))
    ∙ ap (λ (v : List ℕ). (a + 256 * b) ∷ (c ∷ (sets_in_bytes (take size bs) ++ parts_of_bytes k v))) (drop-drop size 3 all)
    ∙ ap (λ (j : ℕ). (a + 256 * b) ∷ (c ∷ (sets_in_bytes (take j bs) ++ parts_of_bytes k (drop (3 + j) all)))) (sym same)

-- where the bytes end before a part's count of rules there is no part more
pub parts_ended : (k : ℕ) (bs : List ℕ) → length bs < 3 → parts_of_bytes k bs ≡ []
unfolding parts_of_bytes
parts_ended zero bs h = refl
parts_ended (suc k) [] h = refl
parts_ended (suc k) (a ∷ []) h = refl
parts_ended (suc k) (a ∷ (b ∷ [])) h = refl
parts_ended (suc k) (a ∷ (b ∷ (c ∷ bs))) h = absurd (omega arith)

-- ---- the numbers of pairs of bytes
pub all_pairs : (bs : List ℕ) → map set_of (first_chunks 2 (length bs / 2) bs) ≡ sets_in_bytes bs
unfolding sets_in_bytes
all_pairs [] = refl
all_pairs (a ∷ []) = refl
all_pairs (a ∷ (b ∷ bs)) =
    let e : length (a ∷ (b ∷ bs)) / 2 ≡ suc (length bs / 2) = omega arith in
    ap (λ (k : ℕ). map set_of (first_chunks 2 k (a ∷ (b ∷ bs)))) e ∙ ap (λ (ys : List ℕ). (a + 256 * b) ∷ ys) (all_pairs bs)

-- one pair more is written
pub pair_more : (row : List ℕ) (at : ℕ) (pairs : List (List ℕ)) (i : ℕ) → i < length pairs
    → set (put_list row at (map set_of (take i pairs))) (at + i) (set_of (get_or pairs i [])) ≡ put_list row at (map set_of (take (i + 1) pairs))
unfolding put_list
pair_more row at pairs i h =
    let pair = get_or pairs i [] in
    sym (put_append row at (at + i) (map set_of (take i pairs)) (set_of pair ∷ []) (omega (arith, length-map (take i pairs) set_of, length-take-le i pairs (omega arith))))
    ∙ ap (λ (v : List ℕ). put_list row at v) (sym (ap (map set_of) (take_more pairs i [] h) ∙ map-append set_of (take i pairs) (pair ∷ [])))

-- a design is how many parts it has, and the parts
design_is : (bs : List ℕ) → 1 ≤ length bs → design_of_bytes bs ≡ get_or bs 0 0 ∷ parts_of_bytes (get_or bs 0 0) (drop 1 bs)
unfolding design_of_bytes
design_is [] h = absurd (omega arith)
design_is (k ∷ bs) h = refl

design_put : (bs row : List ℕ) → 1 ≤ length bs
    → put_list row 0 (design_of_bytes bs) ≡ put_list (set row 0 (get_or bs 0 0)) 1 (parts_of_bytes (get_or bs 0 0) (drop 1 bs))
unfolding put_list
design_put bs row h = ap (λ (v : List ℕ). put_list row 0 v) (design_is bs h)

-- no byte, no number
pub none_of_bytes : (bs : List ℕ) → length bs < 1 → design_of_bytes bs ≡ []
unfolding design_of_bytes
none_of_bytes [] h = refl
none_of_bytes (b ∷ bs) h = absurd (omega arith)

-- the bytes of the parts, and how many they should be
abbrev pub parts_given : List ℕ → List ℕ
parts_given bytes = parts_of_bytes (get_or bytes 0 0) (drop 1 bytes)

-- So far: what is to be written behind `at` are the parts that are left, and each number so far took a byte at least. The row began as
-- `first`, with the count of parts.
pub record Reading (bytes first : List ℕ) (i at : ℕ) (left row : List ℕ) : Type 0 where
  pub rest : put_list first 1 (parts_given bytes) ≡ put_list row at (parts_of_bytes (get_or bytes 0 0 - i) left)
  pub many : suc (length (parts_given bytes)) ≡ at + length (parts_of_bytes (get_or bytes 0 0 - i) left)
  pub few : at + length left ≤ length bytes

-- all that the bytes stand for is written
pub record Read (bytes row₀ row : List ℕ) (at : ℕ) : Type 0 where
  pub written : row ≡ put_list row₀ 0 (design_of_bytes bytes)
  pub count : at ≡ length (design_of_bytes bytes)
  pub few : at ≤ length bytes

module _ (bytes first : List ℕ) (i at : ℕ) (left row : List ℕ) (so : Reading bytes first i at left row) where
  abbrev two : List ℕ
  two = set (set row at (get_or left 0 0 + 256 * get_or left 1 0)) (at + 1) (get_or left 2 0)

  abbrev sets : List ℕ
  sets = sets_in_bytes (take (own_bytes left) (drop 3 left))

  abbrev behind : List ℕ
  behind = drop (3 + own_bytes left) left

  own_length : 3 ≤ length left → length sets ≡ own_bytes left / 2
  own_length h =
      sets_length (take (own_bytes left) (drop 3 left))
      ∙ ap (λ (j : ℕ). j / 2) (length-take-le (own_bytes left) (drop 3 left) (omega (arith, length-drop 3 left)))

  reading_turn : i < get_or bytes 0 0 → 3 ≤ length left → Reading bytes first (i + 1) (at + (2 + own_bytes left / 2)) behind (put_list two (at + 2) sets)
  unfolding put_list
  reading_turn l h =
      let k = get_or bytes 0 0 - (i + 1) in
      let e : get_or bytes 0 0 - i ≡ suc k = omega arith in
      let more : parts_of_bytes (get_or bytes 0 0 - i) left ≡ (get_or left 0 0 + 256 * get_or left 1 0) ∷ (get_or left 2 0 ∷ (sets ++ parts_of_bytes k behind))
      = ap (λ (j : ℕ). parts_of_bytes j left) e ∙ parts_more k left h in
      let own = own_length h in
      let a : suc at ≡ at + 1 = omega arith in
      let b : suc (suc at) ≡ at + 2 = omega arith in
      record {
        rest =
            so.rest ∙ ap (λ (v : List ℕ). put_list row at v) more
            ∙ ap (λ (j : ℕ). put_list (set (set row at (get_or left 0 0 + 256 * get_or left 1 0)) j (get_or left 2 0)) (suc (suc at)) (sets ++ parts_of_bytes k behind)) a
            ∙ ap (λ (j : ℕ). put_list two j (sets ++ parts_of_bytes k behind)) b
            ∙ put_append two (at + 2) (at + (2 + own_bytes left / 2)) sets (parts_of_bytes k behind) (omega arith);
        many = so.many ∙ ap (λ (v : List ℕ). at + length v) more ∙ omega (arith, length-append sets (parts_of_bytes k behind));
        few = omega (arith, so.few, length-drop (3 + own_bytes left) left);
      }

  -- the same of a part that is written by other names
  pub reading_on : i < get_or bytes 0 0 → 3 ≤ length left → (size : ℕ) (next next_row : List ℕ) → size ≡ own_bytes left → next ≡ behind → next_row ≡ put_list two (at + 2) sets
      → Reading bytes first (i + 1) (at + (2 + size / 2)) next next_row
  reading_on l h size next next_row e f g =
      subst (λ (j : ℕ). Reading bytes first (i + 1) (at + (2 + j / 2)) next next_row) (sym e)
      (subst (λ (v : List ℕ). Reading bytes first (i + 1) (at + (2 + own_bytes left / 2)) v next_row) (sym f)
      (subst (λ (v : List ℕ). Reading bytes first (i + 1) (at + (2 + own_bytes left / 2)) behind v) (sym g) (reading_turn l h)))

  -- nothing is left
  finished : (row₀ : List ℕ) → first ≡ set row₀ 0 (get_or bytes 0 0) → 1 ≤ length bytes → parts_of_bytes (get_or bytes 0 0 - i) left ≡ [] → Read bytes row₀ row at
  unfolding put_list
  finished row₀ e h none =
      record {
        written =
            sym (so.rest ∙ ap (λ (v : List ℕ). put_list row at v) none)
            ∙ ap (λ (v : List ℕ). put_list v 1 (parts_given bytes)) e ∙ sym (design_put bytes row₀ h);
        count = omega (arith, so.many, ap length none, ap length (design_is bytes h));
        few = omega (arith, so.few);
      }

  pub reading_ends : (row₀ : List ℕ) → first ≡ set row₀ 0 (get_or bytes 0 0) → 1 ≤ length bytes → length left < 3 → Read bytes row₀ row at
  reading_ends row₀ e h short = finished row₀ e h (parts_ended (get_or bytes 0 0 - i) left short)

  pub reading_done : (row₀ : List ℕ) → first ≡ set row₀ 0 (get_or bytes 0 0) → 1 ≤ length bytes → get_or bytes 0 0 ≤ i → Read bytes row₀ row at
  unfolding parts_of_bytes
  reading_done row₀ e h last = let none : get_or bytes 0 0 - i ≡ 0 = omega arith in finished row₀ e h (ap (λ (j : ℕ). parts_of_bytes j left) none)
