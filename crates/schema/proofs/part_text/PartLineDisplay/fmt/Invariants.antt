use Rattle.std.proofs.Common.{codes}
use Rattle.columns.proofs.Printed.{LedBut}
use Rattle.dependencies.specs.Rules.{deps}
use Rattle.dependencies.specs.Shown.{rule_text}
use Rattle.schema.specs.Shown.{lead_text}
use Rattle.schema.specs.Writing.{own}
use Rattle.schema.proofs.PartText.{own_from}
use Rattle.schema.proofs.part_text.PartLineDisplay.fmt.Given as goal

-- all own rules were written that are not left
abbrev pub invariant-loop-rule : goal.invariant-loop-rule
invariant-loop-rule g l =
    LedBut g.W.Write.write_str_gives rule_text (codes " ") l.initial.f l.f (lead_text l.lead) (deps (own_from l.self.rules.now l.set l.rule-index))
    (codes " by ") (deps (own l.self.rules.now l.set))
