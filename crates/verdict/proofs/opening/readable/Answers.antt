use Rattle.std.proofs.Common.{◌≡◌, ℕ, ◌+◌, ◌-◌, Bool, ◌&&◌, List, ◌∷◌, drop, sym, ap, ◌∙◌, arith}
use Rattle.verdict.specs.Given.{is_readable, is_whole}
use Rattle.verdict.proofs.GivenWalk.{size}
use Rattle.verdict.proofs.Wholes.{whole_front, whole_none, readable_whole, readable_none}
use Rattle.verdict.proofs.opening.readable.Goals as goal

pub returns-in_default : goal.returns-in_default
returns-in_default c = sym (readable_none c.args.width.columns c.args.lent.now c.in_default.ensures.cases)

pub loop-init : goal.loop-init
loop-init c =
    let n = c.args.width.columns in
    let k = c.in-Some.parts.now in
    let z : k ≡ k - 0 = omega arith in
    ap (is_readable n) c.in-Some.ensures.cases.0 ∙ readable_whole n (k ∷ c.in-Some.numbers.now) (omega arith) ∙ ap (λ (j : ℕ). is_whole n j c.in-Some.numbers.now) z

pub returns-in_default-part_len : goal.returns-in_default-part_len
returns-in_default-part_len c =
    let n = c.args.width.columns in
    let xs = c.loop.numbers.now in
    let k : ℕ = c.in-Some.parts.now - c.loop.counter in
    sym (c.loop.invariant ∙ whole_front n k xs (omega (arith, c.loop-test.true)) ∙ ap (λ (b : Bool). b && is_whole n (k - 1) (drop (size xs) xs)) c.in_default-part_len.ensures)

pub loop-preserved : goal.loop-preserved
loop-preserved c =
    let n = c.args.width.columns in
    let xs = c.loop.numbers.now in
    let k : ℕ = c.in-Some.parts.now - c.loop.counter in
    let less : k - 1 ≡ c.in-Some.parts.now - (c.loop.counter + 1) = omega arith in
    c.loop.invariant ∙ whole_front n k xs (omega (arith, c.loop-test.true))
    ∙ ap (λ (b : Bool). b && is_whole n (k - 1) (drop (size xs) xs)) c.in-Some-part_len.ensures.0
    ∙ ap (λ (m : ℕ). is_whole n (k - 1) (drop m xs)) (sym c.in-Some-part_len.ensures.1)
    ∙ ap (λ (v : List ℕ). is_whole n (k - 1) v) (sym c.behind-numbers.ensures)
    ∙ ap (λ (j : ℕ). is_whole n j c.behind-numbers.result.now) less

pub returns : goal.returns
returns c =
    sym (c.loop.invariant ∙ whole_none c.args.width.columns (c.in-Some.parts.now - c.loop.counter) c.loop.numbers.now (omega (arith, c.loop-test.false)))
