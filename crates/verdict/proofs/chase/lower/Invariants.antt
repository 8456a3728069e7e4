use Rattle.std.proofs.Common.{◌≡◌, ◌++◌, take, drop}
use Rattle.verdict.specs.Chase.{mend}
use Rattle.verdict.specs.Sweeps.{fault}
use Rattle.verdict.proofs.chase.lower.Given as goal

-- the rows behind are still to be lowered
abbrev pub invariant-loop-row : goal.invariant-loop-row
invariant-loop-row l = take l.row-index l.rows ++ mend (fault l.merge) (drop l.row-index l.rows) ≡ mend (fault l.merge) l.initial.rows
