use Rattle.std.proofs.Common.{ℕ, ◌+◌, ◌*◌, List, length, take, set, refl, ap, ◌∙◌}
use Rattle.std.proofs.lemmas.List.{take_all}
use Rattle.dependencies.specs.Lent.{put_list}
use Rattle.cover.specs.Answer.{coded}
use Rattle.cover.proofs.Written.{written_turn}
use Rattle.cover.proofs.lent.write_rules.Goals as goal

pub loop-i-init : goal.loop-i-init
unfolding put_list
loop-i-init c = refl

pub loop-i-preserved : goal.loop-i-preserved
loop-i-preserved c =
    let rs = c.args.rules.now in
    let start : List ℕ = set c.args.row.now 0 (length rs) in
    let i = c.loop-i.i in
    let r = c.index-rules-i.result in
    ap (λ (v : List ℕ). set (set v (1 + 2 * i) c.bits.result) (2 + 2 * i) c.bits-in-loop-i.result) c.loop-i.invariant
    ∙ ap (λ (k : ℕ). set (set (put_list start 1 (coded (take i rs))) (1 + 2 * i) k) (2 + 2 * i) c.bits-in-loop-i.result) c.bits.ensures.1
    ∙ ap (λ (k : ℕ). set (set (put_list start 1 (coded (take i rs))) (1 + 2 * i) r.left.bits) (2 + 2 * i) k) c.bits-in-loop-i.ensures.1
    ∙ written_turn start rs i r c.loop-i-test.true c.index-rules-i.is

pub returns : goal.returns
unfolding put_list
returns c =
    let rs = c.args.rules.now in
    c.loop-i.invariant ∙ ap (λ v. put_list (set c.args.row.now 0 (length rs)) 1 (coded v)) (take_all c.loop-i.i rs c.loop-i-test.false)
