use Rattle.std.proofs.Common.{◌≡◌, ◌+◌, length}
use Rattle.columns.specs.Sets.{cols}
use Rattle.parts.specs.Left.{rows_in, rows_left}
use Rattle.parts.specs.Store.{place_in}
use Rattle.parts.proofs.part_rows.PartRows.find.Given as goal

-- the rows passed and those that are left; the looks passed and the place among those that are left
abbrev pub invariant-loop-held : goal.invariant-loop-held
invariant-loop-held l =
    (l.rows.place + length (rows_left l.rows) ≡ length (rows_in l.self)) × (l.rows.place + place_in (cols l.set) l.row (rows_left l.rows) ≡ place_in (cols l.set) l.row (rows_in l.self))

abbrev pub decreases-loop-held : goal.decreases-loop-held
decreases-loop-held l = length (rows_left l.rows)
