use Rattle.std.proofs.Common.{◌≡◌, take}
use Rattle.dependencies.specs.Lent.{put_list}
use Rattle.cover.specs.Answer.{coded}
use Rattle.cover.proofs.lent.write_rules.Given as goal

-- behind the count stand the rules so far
abbrev pub invariant-loop-i : goal.invariant-loop-i
invariant-loop-i l = l.row ≡ put_list l.initial.row 1 (coded (take l.i l.rules))
