use Rattle.std.proofs.Common.{drop}
use Rattle.schema.specs.Plans.{plan_parts, plan_sets}
use Rattle.schema.specs.Writing.{left_in}
use Rattle.schema.proofs.PlanText.{LinesBut, parts_left}
use Rattle.schema.proofs.plan_text.PlanDisplay.fmt.Given as goal

-- all lines were written but those of the sets that are left, which own the rules that are left
abbrev pub invariant-loop-set : goal.invariant-loop-set
invariant-loop-set g l = LinesBut g.W.Write.write_str_gives l.initial.f l.f (parts_left (left_in l.rest) (drop l.set-index (plan_sets l.self))) (plan_parts l.self)
