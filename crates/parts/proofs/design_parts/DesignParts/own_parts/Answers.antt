use Rattle.std.proofs.Common.{◌≡◌, ℕ, ◌-◌, List, get_or, ap₂, ◌∙◌, arith}
use Rattle.std.proofs.lemmas.List.{take_rest}
use Rattle.parts.specs.Store.{formed}
use Rattle.parts.proofs.Formed.{readable_says}
use Rattle.parts.proofs.design_parts.DesignParts.own_parts.Goals as goal

pub invariant_of-result : goal.invariant_of-result
invariant_of-result c =
    let n = c.args.self.width.columns in
    let d = c.args.self.numbers.now in
    let all : c.count.result - 0 ≡ get_or d 0 0 = omega (arith, c.count.ensures.is) in
    record { sound = ap₂ (λ (k : ℕ) (xs : List ℕ). formed n k xs) all (take_rest d 1) ∙ (readable_says n d c.args.self.sound).parts }
