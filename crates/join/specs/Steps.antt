-- One part more is joined to rows that were joined so far.
use Rattle.std.specs.Prelude.{ℕ, zero, suc, List, [], ◌++◌, length, Some, None, Option, ◌==◌, nat_lt, slice_index, slice_index_or}
use Rattle.std.specs.Option.{option_to_list}
use Rattle.columns.specs.Cols.{Cols, has, pick}
use Rattle.columns.specs.Every.{each}
use Rattle.dependencies.specs.Tables.{Row, agree, draw}
use Rattle.parts.specs.Day.{Held}
use Rattle.parts.specs.Store.{no_held, place_in}

-- the row with the look's cells in the columns p
unfoldable pub merged : Cols → Row → Row → Row
merged p look r = draw (λ c. pick (has p c) (slice_index look c) (slice_index r c)) 0 16

abbrev pub look_at : List Held → ℕ → Row
look_at hs i = (slice_index_or hs i no_held).looks

-- the row joined with the look of place i: they agree in the shared columns, and no look before is the same
unfoldable pub join_with : (shared p : Cols) → List Held → Row → ℕ → Option Row
join_with shared p hs r i =
    pick (nat_lt i (length hs))
    (pick (agree shared r (look_at hs i)) (pick (place_in p (look_at hs i) hs == i) (Some (merged p (look_at hs i) r)) None) None) None

-- the row joined with the first k looks, in their order
unfoldable pub join_first : (shared p : Cols) → List Held → Row → ℕ → List Row
join_first shared p hs r zero = []
join_first shared p hs r (suc k) = join_first shared p hs r k ++ option_to_list (join_with shared p hs r k)

-- each row joined with all looks
abbrev pub join_all : (shared p : Cols) → List Held → List Row → List Row
join_all shared p hs rows = each rows (λ r. join_first shared p hs r (length hs))
