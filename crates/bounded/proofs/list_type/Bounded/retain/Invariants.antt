use Rattle.std.proofs.Common.{◌≡◌, ◌≤◌, Bool, filter, take, drop}
use Rattle.std.specs.Fn.{FnReturnsAt}
use Rattle.bounded.proofs.list_type.Bounded.retain.Given as goal

-- of the cells so far those are kept, in front, of which the closure said yes; the cells from here on are as they were
abbrev pub invariant-loop-i : goal.invariant-loop-i
invariant-loop-i g l = record {
  front : (test : _ → Bool) → ((x : _) (b : Bool) → FnReturnsAt g.F.Fn l.keep x b → b ≡ test x) → take l.kept l.self.cells ≡ filter test (take l.i l.initial.self.cells);
  low : l.kept ≤ l.i;
  ahead : drop l.i l.self.cells ≡ drop l.i l.initial.self.cells;
  same : l.self.count ≡ l.initial.self.count;
}
