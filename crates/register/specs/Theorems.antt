-- What is shown of a register that is kept in the parts of a design. Each is a statement, a type whose proof is owed.
use Rattle.std.specs.Prelude.{◌≡◌, ℕ, ◌+◌, ◌*◌, ◌<◌, ◌≤◌, Bool, true, false, List, [], ◌∷◌, ◌++◌, length, take, slice_index, slice_index_or}
use Rattle.columns.specs.Cols.{columns}
use Rattle.dependencies.specs.Tables.{Row, Dep, Proper}
use Rattle.schema.specs.Design.{Part, Design}
use Rattle.parts.specs.Store.{room_of, held_of, CleanCells, cells_written}
use Rattle.parts.specs.Day.{Deed, insert, remove, present, whole_day, whole_end, all_hold, parts_day, parts_end, bare}

-- Take any rules, any design for them, and any day of rows that come and go. The parts, each asking its own rules alone, take exactly
-- the deeds that the one table with all rules takes; and at the end of the day a row is in the table exactly if every part holds what
-- it looks like there.
unfoldable pub PartsAsWhole : Type 0
PartsAsWhole =
    (n : ℕ) (ds : List Dep) (ps : List Part) (es : List Deed) → Design n ds ps →
    (parts_day ps (bare ps) es ≡ whole_day n ds [] es)
    × ((r : Row) → all_hold ps (parts_end ps (bare ps) es) r ≡ present (columns 0 n) r (whole_end n ds [] es))

-- After any day no part holds more rows than the one table has.
unfoldable pub NeverMore : Type 0
NeverMore =
    (n : ℕ) (ds : List Dep) (ps : List Part) (es : List Deed) → Design n ds ps →
    (i : ℕ) → i < length ps → length (slice_index_or (parts_end ps (bare ps) es) i []) ≤ length (whole_end n ds [] es)

-- the deeds undone, the last first
unfoldable pub backwards : List Deed → List Deed
backwards [] = []
backwards (insert r ∷ es) = backwards es ++ remove r ∷ []
backwards (remove r ∷ es) = backwards es ++ insert r ∷ []

unfoldable pub AllTaken : List Bool → Type 0
AllTaken bs = (i : ℕ) → i < length bs → slice_index_or bs i false ≡ true

-- A day of deeds that were all taken, undone deed by deed, the last first, leaves the parts bare.
unfoldable pub Undone : Type 0
Undone =
    (n : ℕ) (ds : List Dep) (ps : List Part) (es : List Deed) → Proper n ds → Design n ds ps →
    AllTaken (parts_day ps (bare ps) es) → parts_end ps (bare ps) (es ++ backwards es) ≡ bare ps

-- What the parts hold says to the letter what stands in clean cells.
unfoldable pub ToTheLetter : Type 0
ToTheLetter =
    (n : ℕ) (d g : List ℕ) → CleanCells n d g →
    take (slice_index d 0 * (room_of n d g * (n + 1))) g ≡ cells_written n (room_of n d g) (held_of n d g)
