use Rattle.std.proofs.Common.{suc, eqb, sym, refl, ap, ◌∙◌}
use Rattle.std.proofs.lemmas.Bool.{both_ways, eqb-true, eq-eqb}
use Rattle.columns.specs.Cols.{Same, Cols, has}
use Rattle.columns.specs.Sets.{cols}
use Rattle.columns.proofs.SetNumbers.{same_cols}
use Rattle.columns.proofs.Lacking.{grows}
use Rattle.dependencies.specs.Closure.{round, rounds, closure}
use Rattle.dependencies.proofs.Rounds.{same_trans, round_same, round_grows, rounds_last, rest_is_closure}
use Rattle.dependencies.proofs.Refuting.{closes}
use Rattle.schema.specs.Design.{all_rules}
use Rattle.verdict.specs.Given.{given_parts}
use Rattle.verdict.proofs.keeping.design_closure.Goals as goal

pub loop-next-init : goal.loop-next-init
unfolding rounds
loop-next-init c = (0, λ d. refl)

pub returns-then-eq : goal.returns-then-eq
returns-then-eq c =
    let ds = all_rules (given_parts c.args.design) in
    let all = c.loop-next.all in
    let next = c.design_round-next.result in
    let k = c.loop-next.invariant.0 in
    let first = cols c.args.start in
    let reached : Cols = rounds k ds first in
    let there : Same (cols all) reached = c.loop-next.invariant.1 in
    let still : Same (round ds (cols all)) (cols all) = λ d. sym (c.design_round-next.ensures d) ∙ same_cols next all (eqb-true next.bits all.bits (sym c.if-eq.ensures)) d in
    let rests : Same (round ds reached) reached = λ d. sym (round_same ds (cols all) reached there d) ∙ still d ∙ there d in
    closes ds first (cols all) (same_trans (cols all) reached (closure ds first) there (rest_is_closure k ds first rests))

pub loop-next-smaller : goal.loop-next-smaller
loop-next-smaller c =
    let all = c.loop-next.all in
    let next = c.design_round-next.result in
    grows all next (λ d h. c.design_round-next.ensures d ∙ round_grows (all_rules (given_parts c.args.design)) (cols all) d h)
    (λ e. both_ways (eqb next.bits all.bits) (sym c.if-eq.ensures) (eq-eqb next.bits all.bits e))

pub loop-next-preserved : goal.loop-next-preserved
loop-next-preserved c =
    let ds = all_rules (given_parts c.args.design) in
    let all = c.loop-next.all in
    let k = c.loop-next.invariant.0 in
    let first = cols c.args.start in (
      suc k,
      λ d.
          c.design_round-next.ensures d ∙ round_same ds (cols all) (rounds k ds first) c.loop-next.invariant.1 d
          ∙ ap (λ (ys : Cols). has ys d) (sym (rounds_last k ds first)),
    )
