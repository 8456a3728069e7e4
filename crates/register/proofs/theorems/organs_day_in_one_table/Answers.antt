use Rattle.std.proofs.Common.{refl}
use Rattle.columns.specs.Cols.{columns}
use Rattle.dependencies.specs.Tables.{agree}
use Rattle.parts.specs.Day.{present, rule_with, rules_with, without, whole_takes, whole_after, whole_day}
use Rattle.register.specs.Organs.{OrgansDay}
use Rattle.register.proofs.theorems.organs_day_in_one_table.Goals as goal

pub returns : goal.returns
unfolding columns agree present rule_with rules_with without whole_takes whole_after whole_day OrgansDay
returns c = refl
