use Rattle.std.proofs.Common.{◌≡◌, ◌-◌, ◌≤◌, length, get_or, drop}
use Rattle.parts.specs.Store.{formed}
use Rattle.parts.proofs.reading.is_readable.Given as goal

-- the parts that are left decide; there are no more numbers than were lent
abbrev pub invariant-loop : goal.invariant-loop
invariant-loop l =
    (length l.rest ≤ length l.design)
    × (formed l.width.columns (get_or l.design 0 0 - l.counter) l.rest ≡ formed l.width.columns (get_or l.design 0 0) (drop 1 l.design))
