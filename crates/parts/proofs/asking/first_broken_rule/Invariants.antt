use Rattle.std.proofs.Common.{◌≡◌, drop, None}
use Rattle.dependencies.specs.Rules.{dep}
use Rattle.parts.specs.Day.{looks_of, rule_with}
use Rattle.parts.specs.Answers.{broken_in, first_broken}
use Rattle.parts.specs.Left.{design_of, held_parts, own, rows_in, rows_left, walk_parts, held_left}
use Rattle.parts.proofs.asking.first_broken_rule.Given as goal

-- nothing was found, and the parts that are left decide
abbrev pub invariant-parts : goal.invariant-parts
invariant-parts l =
    (l.found ≡ None)
    × (first_broken l.part-iterator.parts.place (walk_parts l.part-iterator) (held_left l.part-iterator) l.row
    ≡ first_broken 0 (design_of l.parts) (held_parts l.parts l.cells) l.row)

-- the rules of the part that are left decide
abbrev pub invariant-loop-q : goal.invariant-loop-q
invariant-loop-q l =
    (l.found ≡ None)
    × (broken_in l.q (drop l.q (own l.part).rules) l.row (looks_of (rows_in l.rows)) ≡ broken_in 0 (own l.part).rules l.row (looks_of (rows_in l.rows)))

-- the rows that are left decide
abbrev pub invariant-loop-held : goal.invariant-loop-held
invariant-loop-held l =
    (l.found ≡ None)
    × (rule_with (dep l.rule) l.row (looks_of (rows_left l.held-iterator)) ≡ rule_with (dep l.rule) l.row (looks_of (rows_in l.rows)))
