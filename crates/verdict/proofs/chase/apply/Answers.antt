use Rattle.std.proofs.Common.{[], ◌∷◌, get_or, sym, arith}
use Rattle.std.proofs.lemmas.Bool.{both_ways}
use Rattle.columns.specs.Sets.{cols}
use Rattle.dependencies.specs.Rules.{dep}
use Rattle.dependencies.specs.Tables.{agree}
use Rattle.verdict.specs.Sweeps.{PairQuiet}
use Rattle.verdict.proofs.Sweeping.{sweep_none, equating_turn, equating_end}
use Rattle.verdict.proofs.chase.apply.Goals as goal

pub returns-then-not-agrees : goal.returns-then-not-agrees
returns-then-not-agrees c =
    let t = c.args.rows.now in
    let d = dep c.args.rule in
    sweep_none (d ∷ []) (PairQuiet d t c.args.one c.args.two) t (λ e. absurd (both_ways (agree d.left (get_or t c.args.one []) (get_or t c.args.two [])) (sym c.if-not-agrees.ensures) e))

pub loop-c-preserved : goal.loop-c-preserved
loop-c-preserved c =
    equating_turn c.args.rows.now c.loop-c.rows c.merge_at-changed.new.rows c.args.one c.args.two (cols c.args.rule.right)
    (cols c.loop-c.todo) (cols c.take_first.new.self) c.in-Some.c.index c.loop-c.changed c.merge_at-changed.result
    c.in-Some.ensures (omega (arith, c.loop-c.auto.rows, c.requires.one_in_bounds)) (omega (arith, c.loop-c.auto.rows, c.requires.two_in_bounds)) c.loop-c.invariant
    c.merge_at-changed.ensures

pub returns : goal.returns
returns c =
    equating_end (dep c.args.rule) c.args.rows.now c.loop-c.rows c.args.one c.args.two (cols c.loop-c.todo) c.loop-c.changed
    c.in_default.ensures.0 (sym c.if-not-agrees.ensures) c.loop-c.invariant
