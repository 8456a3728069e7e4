-- Rows that were put in, taken out again.
use Rattle.std.specs.Prelude.{◌≡◌, ℕ, ◌+◌, ◌*◌, ◌<◌, List, [], ◌∷◌, length, drop, slice_index}
use Rattle.dependencies.specs.Tables.{Row}
use Rattle.dependencies.specs.Told.{done}
use Rattle.schema.specs.Design.{Part}
use Rattle.schema.specs.Layout.{design_in}
use Rattle.parts.specs.Answers.{opened_told}
use Rattle.parts.specs.Day.{Held, all_more}
use Rattle.parts.specs.Store.{room_of, held_of, CleanCells}
use Rattle.join.specs.Laid.{rows_cut}

-- what the parts hold when all these rows were taken
unfoldable pub put_all : List Part → List (List Held) → List Row → List (List Held)
put_all ps hs [] = hs
put_all ps hs (r ∷ rs) = put_all ps (all_more ps hs r) rs

-- every look that is held has a row
abbrev pub Positive : List Held → Type 0
Positive [] = Unit {0}
Positive (h ∷ hs) = (0 < h.times) × Positive hs

-- as many lists as parts, and no look without a row
abbrev pub SoundLists : List Part → List (List Held) → Type 0
SoundLists [] [] = Unit {0}
SoundLists [] (h ∷ hs) = ⊥
SoundLists (p ∷ ps) [] = ⊥
SoundLists (p ∷ ps) (h ∷ hs) = Positive h × SoundLists ps hs

-- of the first rows of a table, count were put in and k are left: whatever the parts held before them, they hold with the k rows now
pub record TakenBack (n : ℕ) (d xs : List ℕ) (count k : ℕ) (g g₁ : List ℕ) : Type 0 where
  pub long : length g₁ ≡ length g
  pub held : (hs : List (List Held)) → opened_told n d ≡ done → SoundLists (design_in n d) hs
      → held_of n d g ≡ put_all (design_in n d) hs (rows_cut n count xs) → held_of n d g₁ ≡ put_all (design_in n d) hs (rows_cut n k xs)
  pub clean : CleanCells n d g → CleanCells n d g₁
  pub past : drop (slice_index d 0 * (room_of n d g * (n + 1))) g₁ ≡ drop (slice_index d 0 * (room_of n d g * (n + 1))) g
