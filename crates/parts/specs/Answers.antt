-- What is told of a row that comes, goes or is asked for, and what lent memory holds afterwards.
use Rattle.std.specs.Prelude.{◌≡◌, ℕ, ◌+◌, ◌*◌, Bool, true, false, not, ◌&&◌, List, [], ◌∷◌, length, drop, replicate, Some, None, Ok, Err, Option, Result, ◌==◌, nat_le, slice_index, slice_index_or}
use Rattle.columns.specs.Cols.{Cols, pick}
use Rattle.columns.specs.declared.table_width.Width.{Width}
use Rattle.dependencies.specs.Tables.{Row, Dep, agree}
use Rattle.dependencies.specs.Told.{Told, done, refused, told, or_else}
use Rattle.dependencies.specs.Layout.{reading, columns_of}
use Rattle.dependencies.specs.declared.refusals.Refusal.{Refusal}
use Rattle.schema.specs.Design.{Part}
use Rattle.parts.specs.Day.{Held, holds, looks_of, rule_with, all_hold}
use Rattle.parts.specs.Store.{no_held, place_in, readable, room_of, held_of, CleanCells}

-- what an answer tells
abbrev pub outcome : {A : Type 0} → Result A Refusal → Told
outcome (Ok a) = done
outcome (Err e) = told e

-- two rows break a rule together
abbrev pub clash : Dep → Row → Row → Bool
clash d r s = pick (agree d.left r s) (not (agree d.right r s)) false

-- the first of these rules, counted from q, that some row of the table breaks together with the new one
unfoldable pub broken_in : ℕ → List Dep → Row → List Row → Option ℕ
broken_in q [] r t = None
broken_in q (d ∷ ds) r t = pick (rule_with d r t) (broken_in (q + 1) ds r t) (Some q)

abbrev pub first_of : ℕ → Option ℕ → Option (ℕ × ℕ) → Option (ℕ × ℕ)
first_of p None o = o
first_of p (Some q) o = Some (p, q)

-- the parts in order, counted from k, each its own rules in order: the first that is broken
unfoldable pub first_broken : ℕ → List Part → List (List Held) → Row → Option (ℕ × ℕ)
first_broken k [] hs r = None
first_broken k (p ∷ ps) [] r = None
first_broken k (p ∷ ps) (h ∷ hs) r = first_of k (broken_in 0 p.rules r (looks_of h)) (first_broken (k + 1) ps hs r)

-- a part with this room cannot count the row: the count of its look has reached 2^32 − 1, or there is no room for a new look
unfoldable pub full : ℕ → Cols → Row → List Held → Bool
full room p r hs = pick (holds p r hs) (nat_le 4294967295 (slice_index_or hs (place_in p r hs) no_held).times) (nat_le room (length hs))

-- the first part, counted from k, that cannot count the row
unfoldable pub first_full_part : ℕ → ℕ → List Part → List (List Held) → Row → Option ℕ
first_full_part k room [] hs r = None
first_full_part k room (p ∷ ps) [] r = None
first_full_part k room (p ∷ ps) (h ∷ hs) r = pick (full room p.cols r h) (Some k) (first_full_part (k + 1) room ps hs r)

abbrev pub or_broken : Option (ℕ × ℕ) → Told → Told
or_broken None t = t
or_broken (Some at) t = refused 9 (at.0 * 64 + at.1)

abbrev pub or_full : Option ℕ → Told
or_full None = done
or_full (Some p) = refused 11 p

-- a row of another length is refused first
abbrev pub cells_told : ℕ → Row → Told → Told
cells_told n r t = pick (length r == n) t (refused 7 (length r))

-- put in, over the parts and what they hold
abbrev pub put_told : ℕ → ℕ → List Part → List (List Held) → Row → Told
put_told n room ps hs r =
    cells_told n r (pick (all_hold ps hs r) (refused 8 0) (or_broken (first_broken 0 ps hs r) (or_full (first_full_part 0 room ps hs r))))

-- taken out
abbrev pub take_told : ℕ → List Part → List (List Held) → Row → Told
take_told n ps hs r = cells_told n r (pick (all_hold ps hs r) done (refused 10 0))

-- asked for
abbrev pub asked_told : ℕ → Row → Told
asked_told n r = cells_told n r done

-- a register is opened for rules that can be read and a design that can be read
abbrev pub design_told : ℕ → List ℕ → Told
design_told n d = pick (readable n d) done (refused 6 1)

abbrev pub opening : (rules design : List ℕ) → Told
opening rules d = or_else (reading rules) (design_told (columns_of rules) d)

-- what reading both gives: how many columns the table has, or the first refusal that applies
abbrev pub Opens : (rules design : List ℕ) → Result Width Refusal → Type 0
Opens rules d (Ok w) = (opening rules d ≡ done) × (w.columns ≡ columns_of rules) × (readable w.columns d ≡ true)
Opens rules d (Err e) = opening rules d ≡ told e

-- a request to a register that was not opened is refused as the opening would be
abbrev pub opened_told : ℕ → List ℕ → Told
opened_told n d = pick (nat_le 1 n && nat_le n 16) (design_told n d) (refused 6 1)

-- the cells after an answer: where it is done, the parts hold this, nothing but 0 stands behind what they hold if it was so before,
-- and past the parts the cells are as they were; else no cell has changed
pub record NowHolds (n : ℕ) (d g g₁ : List ℕ) (hs : List (List Held)) : Type 0 where
  pub held : held_of n d g₁ ≡ hs
  pub clean : CleanCells n d g → CleanCells n d g₁
  pub past : drop (slice_index d 0 * (room_of n d g * (n + 1))) g₁ ≡ drop (slice_index d 0 * (room_of n d g * (n + 1))) g

abbrev pub After : {A : Type 0} → ℕ → (d g g₁ : List ℕ) → List (List Held) → Result A Refusal → Type 0
After n d g g₁ hs (Ok a) = NowHolds n d g g₁ hs
After n d g g₁ hs (Err e) = g₁ ≡ g

-- the answer to whether a row is present
abbrev pub Asks : ℕ → List Part → List (List Held) → Row → Result Bool Refusal → Type 0
Asks n ps hs r (Ok b) = b ≡ all_hold ps hs r
Asks n ps hs r (Err e) = Unit {0}

-- after an opening the register has the table's columns and all cells are 0; a refusal leaves both
abbrev pub Opened : {A : Type 0} → (n was columns : ℕ) → (g g₁ : List ℕ) → Result A Refusal → Type 0
Opened n was columns g g₁ (Ok a) = (columns ≡ n) × (g₁ ≡ replicate (length g) 0)
Opened n was columns g g₁ (Err e) = (columns ≡ was) × (g₁ ≡ g)

-- the columns that the register has afterwards: a refusal leaves them
abbrev pub columns_after : {A : Type 0} → (n was : ℕ) → Result A Refusal → ℕ
columns_after n was (Ok a) = n
columns_after n was (Err e) = was
