use Rattle.std.proofs.Common.{◌≡◌, ℕ, ◌<◌, ◌∷◌, get_or, set, refl, sym, ap, ◌∙◌, subst, arith}
use Rattle.columns.specs.Sets.{cols}
use Rattle.columns.proofs.SetNumbers.{cols_rising}
use Rattle.dependencies.proofs.Differing.{Half, half_start, half_turn, half_end}
use Rattle.join.specs.Steps.{merged}
use Rattle.join.proofs.merging.merge.Goals as goal

pub loop-c-init : goal.loop-c-init
loop-c-init c = half_start (λ i. get_or c.args.look.now i 0) (λ i. get_or c.args.row.now i 0) c.args.row.now (cols c.args.set) (omega arith) (λ i l. refl)

pub loop-c-preserved : goal.loop-c-preserved
loop-c-preserved c =
    let look : ℕ → ℕ = λ i. get_or c.args.look.now i 0 in
    let small : c.index.result < 16 = omega (arith, c.index.ensures, c.in-Some.c.small) in
    let told : c.cell.result ≡ look c.index.result = c.cell.ensures ∙ ap look (sym c.index.ensures) in
    subst (λ (v : ℕ). Half look (λ i. get_or c.args.row.now i 0) (set c.loop-c.joined c.index.result v) (cols c.take_first.new.self) (cols c.args.set)) (sym told)
    (half_turn look (λ i. get_or c.args.row.now i 0) c.loop-c.joined c.index.result (cols c.loop-c.rest) _ (cols c.args.set) small (cols_rising c.loop-c.rest)
    (c.in-Some.ensures ∙ ap (λ (i : ℕ). i ∷ cols c.take_first.new.self) (sym c.index.ensures)) c.loop-c.invariant)

pub returns : goal.returns
unfolding merged
returns c = half_end (λ i. get_or c.args.look.now i 0) (λ i. get_or c.args.row.now i 0) c.loop-c.joined (cols c.loop-c.rest) (cols c.args.set) c.in_default.ensures.0 c.loop-c.invariant
