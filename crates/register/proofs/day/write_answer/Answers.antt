use Rattle.std.proofs.Common.{ℕ, List, [], ◌∷◌, Result, sym, ap, ◌∙◌, ap₂}
use Rattle.dependencies.specs.Told.{number, place}
use Rattle.dependencies.specs.declared.refusals.Refusal.{Refusal}
use Rattle.parts.specs.Answers.{outcome}
use Rattle.register.proofs.Daily.{two_written}
use Rattle.register.proofs.day.write_answer.Goals as goal

abbrev numbers : Result (Unit {0}) Refusal → List ℕ
numbers a = number (outcome a) ∷ place (outcome a) ∷ []

pub returns-in-Ok : goal.returns-in-Ok
returns-in-Ok c = two_written c.args.slot.now 0 0 c.requires ∙ sym (ap numbers c.in-Ok.is)

pub returns-in-Err : goal.returns-in-Err
returns-in-Err c =
    two_written c.args.slot.now c.number.result c.place.result c.requires
    ∙ ap₂ (λ (a b : ℕ). a ∷ b ∷ []) c.number.ensures c.place.ensures ∙ sym (ap numbers c.in-Err.is)
