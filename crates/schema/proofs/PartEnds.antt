-- Where the parts in a row end, part by part from the front, and how many there are.
use Rattle.std.proofs.Common.{◌≡◌, ℕ, zero, suc, ◌+◌, ◌-◌, ◌*◌, ◌<◌, ◌≤◌, List, length, get_or, take, drop, sym, refl, ap, ◌∙◌, arith}
use Rattle.std.proofs.lemmas.List.{length-drop, take_rest, drop-drop}
use Rattle.schema.specs.Layout.{extent, extent_of_design, parts_in}

extent_step : (k : ℕ) (xs : List ℕ) → 0 < k → extent k xs ≡ 2 + 2 * get_or xs 1 0 + extent (k - 1) (drop (2 + 2 * get_or xs 1 0) xs)
unfolding extent
extent_step zero xs h = absurd (omega arith)
extent_step (suc k) xs h = let e : k ≡ suc k - 1 = omega arith in ap (λ (j : ℕ). 2 + 2 * get_or xs 1 0 + extent j (drop (2 + 2 * get_or xs 1 0) xs)) e

extent_none : (k : ℕ) (xs : List ℕ) → k ≡ 0 → extent k xs ≡ 0
unfolding extent
extent_none k xs e = ap (λ (j : ℕ). extent j xs) e

-- after p parts, which end at `at`
pub record Ended (out : List ℕ) (p at : ℕ) : Type 0 where
  pub within : at ≤ length out
  pub left : at + extent (get_or out 0 0 - p) (drop at out) ≡ extent_of_design out

module _ (out : List ℕ) (p at : ℕ) (so : Ended out p at) (more : p < get_or out 0 0) where
  abbrev row : List ℕ
  row = take (length out - at) (drop at out)

  abbrev size : ℕ
  size = 2 + 2 * get_or row 1 0

  long : length row ≡ length out - at
  long = ap length (take_rest out at) ∙ length-drop at out

  step : at + (size + extent (get_or out 0 0 - p - 1) (drop (at + size) out)) ≡ extent_of_design out
  step =
      let k : ℕ = get_or out 0 0 - p in
      let one : extent k (drop at out) ≡ 2 + 2 * get_or (drop at out) 1 0 + extent (k - 1) (drop (2 + 2 * get_or (drop at out) 1 0) (drop at out))
      = extent_step k (drop at out) (omega arith) in
      let two : 2 + 2 * get_or (drop at out) 1 0 + extent (k - 1) (drop (2 + 2 * get_or (drop at out) 1 0) (drop at out)) ≡ size + extent (k - 1) (drop size (drop at out))
      = ap (λ (v : List ℕ). 2 + 2 * get_or v 1 0 + extent (k - 1) (drop (2 + 2 * get_or v 1 0) (drop at out))) (sym (take_rest out at)) in
      let three : extent (k - 1) (drop size (drop at out)) ≡ extent (k - 1) (drop (at + size) out) = ap (λ (v : List ℕ). extent (k - 1) v) (drop-drop size at out) in
      omega (arith, so.left, one, two, three)

  -- one part more
  pub ended_turn : (n : ℕ) → n ≡ size → n ≤ length row → Ended out (p + 1) (at + n)
  ended_turn n e h =
      let k : get_or out 0 0 - (p + 1) ≡ get_or out 0 0 - p - 1 = omega arith in
      record {
        within = omega (arith, long, so.within);
        left = ap (λ (m : ℕ). at + m + extent (get_or out 0 0 - (p + 1)) (drop (at + m) out)) e
            ∙ ap (λ (j : ℕ). at + size + extent j (drop (at + size) out)) k ∙ omega (arith, step);
      }

  -- the row ends before the part
  pub ended_cut : length row < size → length out < extent_of_design out
  ended_cut h = omega (arith, step, long, so.within)

pub ended_all : (out : List ℕ) (p at : ℕ) → Ended out p at → get_or out 0 0 ≤ p → (at ≡ extent_of_design out) × (at ≤ length out)
ended_all out p at so h = (omega (arith, so.left, extent_none (get_or out 0 0 - p) (drop at out) (omega arith)), so.within)

pub length_parts_in : (n k : ℕ) (xs : List ℕ) → length (parts_in n k xs) ≡ k
unfolding parts_in
length_parts_in n zero xs = refl
length_parts_in n (suc k) xs = ap suc (length_parts_in n k (drop (2 + 2 * get_or xs 1 0) xs))
