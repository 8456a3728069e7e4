use Rattle.std.proofs.Common.{◌≡◌}
use Rattle.join.proofs.TableLaid.{LaidSoFar}
use Rattle.join.proofs.laying.lay_rows.Given as goal

-- i rows are laid
abbrev pub invariant-loop-i : goal.invariant-loop-i
invariant-loop-i l =
    (l.register.columns ≡ l.initial.register.columns) × (l.register.design.now ≡ l.initial.register.design.now)
    × LaidSoFar l.rows.width.columns l.initial.register.design.now l.rows.cells.now l.initial.register.cells.now l.i l.register.cells.now
