use Rattle.std.proofs.Common.{List, get_or, ap, ◌∙◌, rules, tests}
use Rattle.parts.specs.Day.{Held}
use Rattle.parts.specs.Left.{rows_left, held_here, GivesRow}
use Rattle.parts.specs.Store.{no_held}
use Rattle.parts.proofs.Passing.{told_there}
use Rattle.parts.proofs.held_part.HeldPart.times.Goals as goal

pub returns : goal.returns
returns c =
    told_there held_here rows_left GivesRow (λ s a t step. step.0) (λ s t step. step.0) (λ h. h.times) c.rows.result c.nth.new.self c.args.i c.nth.result no_held _ c.nth.ensures.ran c.map_or.ensures (λ a q. search (rules, tests))
    ∙ ap (λ (hs : List Held). (get_or hs c.args.i no_held).times) c.rows.ensures.all
