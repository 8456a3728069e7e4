-- Where a part holds what a row looks like.
use Rattle.std.specs.Prelude.{◌≡◌, ℕ, ◌<◌, List, length, Ok, Err, Result}
use Rattle.columns.specs.Cols.{Cols}
use Rattle.dependencies.specs.Tables.{Row}
use Rattle.parts.specs.Day.{Held}
use Rattle.parts.specs.Store.{place_in}

-- the place of the first look that the row has in these columns; or there is none, and the place is behind all
abbrev pub Found : Cols → Row → List Held → Result ℕ ℕ → Type 0
Found p r hs (Ok i) = (i ≡ place_in p r hs) × (i < length hs)
Found p r hs (Err i) = (i ≡ place_in p r hs) × (i ≡ length hs)
