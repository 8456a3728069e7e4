use Rattle.std.proofs.Common.{ℕ, ◌<◌, ◌∷◌, replicate, refl, sym, ap, ◌∙◌, arith}
use Rattle.std.proofs.lemmas.List.{get_or-replicate}
use Rattle.columns.specs.Sets.{cols}
use Rattle.columns.proofs.SetNumbers.{cols_rising}
use Rattle.dependencies.proofs.Differing.{half_turn, half_end}
use Rattle.dependencies.proofs.cells.row_apart.Goals as goal

pub loop-c-preserved : goal.loop-c-preserved
loop-c-preserved c =
    let small : c.index.result < 16 = omega (arith, c.index.ensures, c.in-Some.c.small) in
    half_turn (λ i. 0) (λ i. c.args.other) c.loop-c.row c.index.result (cols c.loop-c.rest) _ (cols c.args.zeros) small (cols_rising c.loop-c.rest)
    (c.in-Some.ensures ∙ ap (λ (i : ℕ). i ∷ cols c.take_first.new.self) (sym c.index.ensures)) c.loop-c.invariant

pub returns : goal.returns
returns c = half_end (λ i. 0) (λ i. c.args.other) c.loop-c.row (cols c.loop-c.rest) (cols c.args.zeros) c.in_default.ensures.0 c.loop-c.invariant
