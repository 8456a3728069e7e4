use Rattle.std.proofs.Common.{◌≡◌}
use Rattle.join.specs.Undoing.{TakenBack}
use Rattle.join.proofs.laying.take_back.Given as goal

-- i rows are left to be taken back
abbrev pub invariant-loop-i : goal.invariant-loop-i
invariant-loop-i l = record {
  columns : l.register.columns ≡ l.initial.register.columns;
  design : l.register.design.now ≡ l.initial.register.design.now;
  back : TakenBack l.rows.width.columns l.initial.register.design.now l.rows.cells.now l.count l.i l.initial.register.cells.now l.register.cells.now;
}
