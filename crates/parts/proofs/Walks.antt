-- A walk over the parts of a lent design beside the cells of a lent register: what is left of both, part by part.
use Rattle.std.proofs.Common.{◌≡◌, ℕ, zero, suc, ◌+◌, ◌-◌, ◌*◌, ◌/◌, ◌<◌, ◌≤◌, Bool, true, false, ◌&&◌, List, [], ◌∷◌, length, get_or, take, drop, Some, None, Option, sym, refl, ap, ◌∙◌, ap₂, mul_assoc, mul_comm, arith}
use Rattle.std.specs.List.{list_all}
use Rattle.std.proofs.lemmas.Iterator.{YieldsList}
use Rattle.std.proofs.lemmas.Iterator.Consumers.{YieldsList-from_shown}
use Rattle.std.proofs.lemmas.Nat.{div-add-mod'}
use Rattle.std.proofs.lemmas.Bool.{and_parts}
use Rattle.columns.specs.Cols.{pick, set_in}
use Rattle.dependencies.specs.Tables.{Row}
use Rattle.dependencies.specs.Layout.{rules_in}
use Rattle.schema.specs.Design.{Part}
use Rattle.schema.specs.Layout.{parts_in}
use Rattle.parts.specs.Day.{Held, holds, looks_of, all_hold}
use Rattle.parts.specs.Store.{held_in, all_held, whole_part, formed}
use Rattle.parts.specs.Answers.{full, broken_in, first_of, first_broken, first_full_part}
use Rattle.parts.specs.Left.{own, rows_in, walk_parts, held_left, GivesRows, RowsGiven}
use Rattle.parts.specs.declared.own_part.OwnPart.{OwnPart}
use Rattle.parts.specs.declared.part_rows.PartRows.{PartRows}
use Rattle.parts.specs.declared.parts_left.PartWalk.{PartWalk}
use Rattle.parts.proofs.Formed.{formed_more}

-- equal shares of the cells are no more than there are
pub shares_fit : (g k w : ℕ) → k * (g / (k * w) * w) ≤ g
shares_fit g k w =
    let q : ℕ = g / (k * w) in
    let e : k * (q * w) ≡ q * (k * w) = sym (mul_assoc k q w) ∙ ap (λ (z : ℕ). z * w) (mul_comm k q) ∙ mul_assoc q k w in
    omega (arith, div-add-mod' g (k * w))

abbrev pub part_in : ℕ → List ℕ → Part
part_in n xs = record { cols = set_in 0 n (get_or xs 0 0); rules = rules_in n (get_or xs 1 0) (drop 2 xs) }

pub parts_more : (n m : ℕ) (xs : List ℕ) → 0 < m → parts_in n m xs ≡ part_in n xs ∷ parts_in n (m - 1) (drop (2 + 2 * get_or xs 1 0) xs)
unfolding parts_in
parts_more n zero xs l = absurd (omega arith)
parts_more n (suc m) xs l = let z : m ≡ suc m - 1 = omega arith in ap (λ (k : ℕ). part_in n xs ∷ parts_in n k (drop (2 + 2 * get_or xs 1 0) xs)) z

pub cells_more : (n room m : ℕ) (xs : List ℕ) → 0 < m
    → all_held n room m xs ≡ held_in n room (take (room * (n + 1)) xs) ∷ all_held n room (m - 1) (drop (room * (n + 1)) xs)
unfolding all_held
cells_more n room zero xs l = absurd (omega arith)
cells_more n room (suc m) xs l =
    let z : m ≡ suc m - 1 = omega arith in
    ap (λ (k : ℕ). held_in n room (take (room * (n + 1)) xs) ∷ all_held n room k (drop (room * (n + 1)) xs)) z

-- the part at the front, and the parts behind it
module _ (n k p : ℕ) (rest next : List ℕ) (l : p < k) (sound : formed n (k - p) rest ≡ true) (e : next ≡ drop (2 + 2 * get_or rest 1 0) rest) where
  one_less : k - p - 1 ≡ k - (p + 1)
  one_less = omega arith

  behind_stands : formed n (k - p - 1) (drop (2 + 2 * get_or rest 1 0) rest) ≡ true
  behind_stands = (and_parts (whole_part n rest) _ (sym (formed_more n (k - p) rest (omega arith)) ∙ sound)).1

  pub next_stands : formed n (k - (p + 1)) next ≡ true
  next_stands = ap₂ (λ (a : ℕ) (z : List ℕ). formed n a z) (sym one_less) e ∙ behind_stands

  pub parts_turn : parts_in n (k - p) rest ≡ part_in n rest ∷ parts_in n (k - (p + 1)) next
  parts_turn = parts_more n (k - p) rest (omega arith) ∙ ap₂ (λ (a : ℕ) (z : List ℕ). part_in n rest ∷ parts_in n a z) one_less (sym e)

pub front_stands : (n k p : ℕ) (rest : List ℕ) → p < k → formed n (k - p) rest ≡ true → whole_part n rest ≡ true
front_stands n k p rest l sound = (and_parts (whole_part n rest) _ (sym (formed_more n (k - p) rest (omega arith)) ∙ sound)).0

-- no part is left
pub none_left : (n k p : ℕ) (rest : List ℕ) → k ≤ p → parts_in n (k - p) rest ≡ []
unfolding parts_in
none_left n k p rest l = let z : k - p ≡ 0 = omega arith in ap (λ (m : ℕ). parts_in n m rest) z

-- the cells of the part at the front, and those behind them
module _ (n room k p size : ℕ) (cells : List ℕ) (l : p < k) (is : size ≡ room * (n + 1)) where
  pub cells_turn : all_held n room (k - p) cells ≡ held_in n room (take size cells) ∷ all_held n room (k - (p + 1)) (drop size cells)
  cells_turn =
      let m : k - p - 1 ≡ k - (p + 1) = omega arith in
      cells_more n room (k - p) cells (omega arith)
      ∙ ap₂ (λ (s a : ℕ). held_in n room (take s cells) ∷ all_held n room a (drop s cells)) (sym is) m

-- the same, as the code cuts them
pub held_turn : (n room k p size : ℕ) (cells front back : List ℕ) (n₁ n₂ k₂ p₂ : ℕ) → p < k → size ≡ room * (n + 1) → front ≡ take size cells → back ≡ drop size cells
    → n₁ ≡ n → n₂ ≡ n → k₂ ≡ k → p₂ ≡ p + 1 → all_held n room (k - p) cells ≡ held_in n₁ room front ∷ all_held n₂ room (k₂ - p₂) back
held_turn n room k p size cells front back n₁ n₂ k₂ p₂ l is f b a c d e = let t = cells_turn n room k p size cells l is in cc

-- each part beside what it holds
pub pairs : List Part → List (List Held) → List (Part × List Held)
pairs [] hs = []
pairs (p ∷ ps) [] = (p, []) ∷ pairs ps []
pairs (p ∷ ps) (h ∷ hs) = (p, h) ∷ pairs ps hs

-- every part is asked for itself
pub pairs_hold : (r : Row) (ps : List Part) (hs : List (List Held)) → list_all (λ it. holds it.0.cols r it.1) (pairs ps hs) ≡ all_hold ps hs r
unfolding pairs all_hold holds
pairs_hold r [] hs = refl
pairs_hold r (p ∷ ps) [] = refl
pairs_hold r (p ∷ ps) (h ∷ hs) = ap (λ (z : Bool). holds p.cols r h && z) (pairs_hold r ps hs)

-- what a step of the walk leaves to the parts behind
module _ (old : PartWalk) (part : OwnPart) (rows : PartRows) (new : PartWalk) (w : RowsGiven old part rows new) (r : Row) where
  pub pairs_turn : pairs (walk_parts old) (held_left old) ≡ (own part, rows_in rows) ∷ pairs (walk_parts new) (held_left new)
  unfolding pairs
  pairs_turn = ap₂ pairs w.given.parts w.held

  full_turn : first_full_part old.parts.place old.room (walk_parts old) (held_left old) r
      ≡ pick (full rows.room (own part).cols r (rows_in rows)) (Some part.place) (first_full_part new.parts.place new.room (walk_parts new) (held_left new) r)
  unfolding first_full_part
  full_turn =
      ap₂ (λ (a : List Part) (b : List (List Held)). first_full_part old.parts.place old.room a b r) w.given.parts w.held
      ∙ ap₂ (λ (k p : ℕ). pick (full k (own part).cols r (rows_in rows)) (Some p) (first_full_part (old.parts.place + 1) old.room (walk_parts new) (held_left new) r)) (sym w.room) (sym w.given.place)
      ∙ ap₂ (λ (p k : ℕ). pick (full rows.room (own part).cols r (rows_in rows)) (Some part.place) (first_full_part p k (walk_parts new) (held_left new) r)) (sym w.given.next) (sym w.same)

  pub full_next : (b : Option ℕ) → first_full_part old.parts.place old.room (walk_parts old) (held_left old) r ≡ b
      → full rows.room (own part).cols r (rows_in rows) ≡ false → first_full_part new.parts.place new.room (walk_parts new) (held_left new) r ≡ b
  full_next b inv h = sym (full_turn ∙ ap (λ (z : Bool). pick z (Some part.place) (first_full_part new.parts.place new.room (walk_parts new) (held_left new) r)) h) ∙ inv

  pub full_stop : (b : Option ℕ) → first_full_part old.parts.place old.room (walk_parts old) (held_left old) r ≡ b
      → full rows.room (own part).cols r (rows_in rows) ≡ true → Some part.place ≡ b
  full_stop b inv h = sym (sym inv ∙ full_turn ∙ ap (λ (z : Bool). pick z (Some part.place) (first_full_part new.parts.place new.room (walk_parts new) (held_left new) r)) h)

  broken_turn : first_broken old.parts.place (walk_parts old) (held_left old) r
      ≡ first_of part.place (broken_in 0 (own part).rules r (looks_of (rows_in rows))) (first_broken new.parts.place (walk_parts new) (held_left new) r)
  unfolding first_broken
  broken_turn =
      ap₂ (λ (a : List Part) (b : List (List Held)). first_broken old.parts.place a b r) w.given.parts w.held
      ∙ ap₂ (λ (p q : ℕ). first_of p (broken_in 0 (own part).rules r (looks_of (rows_in rows))) (first_broken q (walk_parts new) (held_left new) r)) (sym w.given.place) (sym w.given.next)

  pub broken_next : (b : Option (ℕ × ℕ)) → first_broken old.parts.place (walk_parts old) (held_left old) r ≡ b
      → broken_in 0 (own part).rules r (looks_of (rows_in rows)) ≡ None → first_broken new.parts.place (walk_parts new) (held_left new) r ≡ b
  broken_next b inv h = sym (broken_turn ∙ ap (λ (z : Option ℕ). first_of part.place z (first_broken new.parts.place (walk_parts new) (held_left new) r)) h) ∙ inv

  pub broken_stop : (b : Option (ℕ × ℕ)) (q : ℕ) → first_broken old.parts.place (walk_parts old) (held_left old) r ≡ b
      → broken_in 0 (own part).rules r (looks_of (rows_in rows)) ≡ Some q → Some (part.place, q) ≡ b
  broken_stop b q inv h =
      sym (sym inv ∙ broken_turn ∙ ap (λ (z : Option ℕ). first_of part.place z (first_broken new.parts.place (walk_parts new) (held_left new) r)) h)

-- the walk is over
module _ (walk : PartWalk) (r : Row) (l : walk.parts.count ≤ walk.parts.place) where
  over : walk_parts walk ≡ []
  over = none_left walk.parts.width.columns walk.parts.count walk.parts.place walk.parts.numbers.now l

  pub pairs_end : pairs (walk_parts walk) (held_left walk) ≡ []
  unfolding pairs
  pairs_end = ap (λ (z : List Part). pairs z (held_left walk)) over

  pub full_end : (b : Option ℕ) → first_full_part walk.parts.place walk.room (walk_parts walk) (held_left walk) r ≡ b → None ≡ b
  unfolding first_full_part
  full_end b inv = sym (ap (λ (z : List Part). first_full_part walk.parts.place walk.room z (held_left walk) r) over) ∙ inv

  pub broken_end : (b : Option (ℕ × ℕ)) → first_broken walk.parts.place (walk_parts walk) (held_left walk) r ≡ b → None ≡ b
  unfolding first_broken
  broken_end b inv = sym (ap (λ (z : List Part). first_broken walk.parts.place z (held_left walk) r) over) ∙ inv

-- how many cells a part takes, by its room
pub size_is : (size room q w : ℕ) → size ≡ q * w → room ≡ q → size ≡ room * w
size_is size room q w e f = e ∙ ap (λ (z : ℕ). z * w) (sym f)

-- the walk gives each part beside what it holds
pub walks_pairs : (walk : PartWalk) → YieldsList GivesRows (λ it. (own it.0, rows_in it.1)) walk (pairs (walk_parts walk) (held_left walk))
walks_pairs walk =
    YieldsList-from_shown GivesRows (λ it. (own it.0, rows_in it.1)) (λ s. pairs (walk_parts s) (held_left s)) (λ s t step. ap length (pairs_end s [] step.0))
    (λ s it t step. pairs_turn s it.0 it.1 t step []) walk
