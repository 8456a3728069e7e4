use Rattle.std.proofs.Common.{ℕ, ◌+◌, ◌||◌, List, [], ◌∷◌, sym, subst, inl, inr, arith}
use Rattle.std.proofs.lemmas.Bool.{cases_eq}
use Rattle.dependencies.specs.Rules.{dep}
use Rattle.dependencies.specs.Tables.{Row}
use Rattle.verdict.specs.Sweeps.{PairQuiet, RowQuiet}
use Rattle.verdict.proofs.Sweeping.{sweep_map, sweep_then}
use Rattle.verdict.proofs.chase.sweep_row.Goals as goal

pub loop-two-preserved : goal.loop-two-preserved
loop-two-preserved c =
    let t = c.args.rows.now in
    let u = c.loop-two.rows in
    let v = c.apply-changed.new.rows in
    let d = dep c.args.rule in
    let i = c.args.one in
    let k = c.loop-two.two in
    let old = RowQuiet d t k i in
    sweep_map (d ∷ []) (old × PairQuiet d t i k) (RowQuiet d t (k + 1) i) t v (c.loop-two.changed || c.apply-changed.result)
    (λ q j a b. elim (cases_eq j k) [ inl e ↦ subst (λ (x : ℕ). PairQuiet d t i x) (sym e) q.1 | inr e ↦ q.0 j a (omega arith) ])
    (sweep_then (d ∷ []) old (λ (w : List Row). PairQuiet d w i k) t u v c.loop-two.changed c.apply-changed.result c.loop-two.invariant c.apply-changed.ensures)
