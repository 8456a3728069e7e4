-- A change of what one part holds, and of what all parts hold.
use Rattle.std.specs.Prelude.{◌≡◌, ℕ, ◌<◌, List, [], length, slice_index_or}
use Rattle.columns.specs.Cols.{Cols}
use Rattle.dependencies.specs.Tables.{Row}
use Rattle.schema.specs.Design.{Part, no_part}
use Rattle.parts.specs.Day.{Held}

-- all parts change each by itself
pub record Apart (all : List Part → List (List Held) → Row → List (List Held)) (one : Cols → Row → List Held → List Held) : Type 0 where
  pub lists : (ps : List Part) (hs : List (List Held)) (r : Row) → length hs ≡ length ps → length (all ps hs r) ≡ length ps
  pub list : (ps : List Part) (hs : List (List Held)) (r : Row) (p : ℕ) → p < length ps → length hs ≡ length ps → slice_index_or (all ps hs r) p [] ≡ one (slice_index_or ps p no_part).cols r (slice_index_or hs p [])

-- where all parts may change, with room for so many rows, each may
abbrev pub EachMay : (all_may : ℕ → List Part → List (List Held) → Row → Type 0) → (may : ℕ → Cols → Row → List Held → Type 0) → Type 0
EachMay all_may may =
    (room : ℕ) (ps : List Part) (hs : List (List Held)) (r : Row) → all_may room ps hs r → (p : ℕ) → p < length ps → length hs ≡ length ps → may room (slice_index_or ps p no_part).cols r (slice_index_or hs p [])
