use Rattle.std.proofs.Common.{◌≡◌, ◌-◌}
use Rattle.verdict.specs.Given.{is_readable, is_whole}
use Rattle.verdict.proofs.opening.readable.Given as goal

abbrev pub invariant-loop : goal.invariant-loop
invariant-loop l = is_readable l.width.columns l.lent ≡ is_whole l.width.columns (l.end - l.counter) l.numbers
