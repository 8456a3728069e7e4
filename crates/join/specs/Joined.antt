-- The parts of a register joined to one table again.
use Rattle.std.specs.Prelude.{◌≡◌, ℕ, Bool, true, false, ◌||◌, List, [], ◌∷◌, slice_index}
use Rattle.columns.specs.Cols.{has}
use Rattle.columns.specs.Members.{In}
use Rattle.columns.specs.Order.{before}
use Rattle.dependencies.specs.Tables.{Row}
use Rattle.schema.specs.Design.{Part}
use Rattle.parts.specs.Day.{Held, all_hold}
use Rattle.parts.specs.Store.{place_in}

-- some part has the column
unfoldable pub covered : List Part → ℕ → Bool
covered [] c = false
covered (p ∷ ps) c = has p.cols c || covered ps c

-- where the looks of a row stand in each part, first part first
unfoldable pub places : List Part → List (List Held) → Row → List ℕ
places [] hs r = []
places (p ∷ ps) [] r = []
places (p ∷ ps) (h ∷ hs) r = place_in p.cols r h ∷ places ps hs r

-- each row stands before all that follow it, in the lexicographic order of the places of its looks; so no row stands there twice
abbrev pub InTurn : List Part → List (List Held) → List Row → Type 0
InTurn ps hs [] = Unit {0}
InTurn ps hs (r ∷ rs) = ((s : Row) → In s rs → before (places ps hs r) (places ps hs s) ≡ true) × InTurn ps hs rs

-- exactly the rows that all parts hold, in turn: each is held, each row that is held is there in all columns that some part has,
-- and in the others stands 0
pub record Joined (ps : List Part) (hs : List (List Held)) (rows : List Row) : Type 0 where
  pub sound : (r : Row) → In r rows → all_hold ps hs r ≡ true
  pub complete : (q : Row) → all_hold ps hs q ≡ true → (r : Row) × In r rows × ((c : ℕ) → covered ps c ≡ true → slice_index r c ≡ slice_index q c)
  pub outside : (r : Row) → In r rows → (c : ℕ) → covered ps c ≡ false → slice_index r c ≡ 0
  pub in_turn : InTurn ps hs rows
