use Rattle.std.proofs.Common.{not, ◌∙◌, rules, tests}
use Rattle.dependencies.specs.declared.rules.Rule.{Rule}
use Rattle.schema.specs.Writing.{inside, left_in}
use Rattle.schema.proofs.Sifting.{others_kept}
use Rattle.schema.proofs.unplaced.Unplaced.take_out.Goals as goal

pub returns : goal.returns
returns c =
    let owned = λ (r : Rule). inside r c.args.set in
    c.retain.ensures (λ r. not (owned r)) (λ x b k. search (rules, tests)) ∙ others_kept owned (left_in c.args.self.now)
