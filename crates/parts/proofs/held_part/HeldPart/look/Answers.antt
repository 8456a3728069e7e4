use Rattle.std.proofs.Common.{◌≤◌, List, length, get_or, sym, ap, ◌∙◌, arith, rules}
use Rattle.parts.specs.Day.{Held}
use Rattle.parts.specs.Left.{rows_in, rows_left, held_here, GivesRow}
use Rattle.parts.specs.Store.{no_held}
use Rattle.parts.proofs.Passing.{one_there, none_there}
use Rattle.parts.proofs.held_part.HeldPart.look.Goals as goal

pub returns-in_err-nth : goal.returns-in_err-nth
returns-in_err-nth c =
    let few = none_there held_here rows_left GivesRow (λ s a t step. step.0) (λ s t step. step.0) c.rows.result c.nth.new.self c.args.i c.in_err-nth.ensures.ran in
    let all = ap length c.rows.ensures.all in
    let past : length (rows_in c.args.self.rows) ≤ c.args.i = omega arith in
    search rules

pub returns : goal.returns
returns c =
    let there = one_there held_here rows_left GivesRow (λ s a t step. step.0) c.rows.result c.nth.new.self c.args.i c.in_ok-nth.field-0 no_held c.in_ok-nth.ensures.ran in
    let all = ap length c.rows.ensures.all in (
      omega (arith, there.0),
      ap (λ (h : Held). h.looks) (sym there.1 ∙ ap (λ (hs : List Held). get_or hs c.args.i no_held) c.rows.ensures.all),
    )
