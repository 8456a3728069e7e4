use Rattle.std.proofs.Common.{ℕ, ◌+◌, ◌||◌, List, [], ◌∷◌, length, sym, subst, inl, inr, arith}
use Rattle.std.proofs.lemmas.Bool.{cases_eq}
use Rattle.dependencies.specs.Rules.{dep}
use Rattle.dependencies.specs.Tables.{Row}
use Rattle.verdict.specs.Sweeps.{RowQuiet, RuleQuiet}
use Rattle.verdict.proofs.Sweeping.{sweep_map, sweep_then}
use Rattle.verdict.proofs.chase.sweep_rule.Goals as goal

pub loop-one-preserved : goal.loop-one-preserved
loop-one-preserved c =
    let t = c.args.rows.now in
    let u = c.loop-one.rows in
    let v = c.sweep_row-changed.new.rows in
    let d = dep c.args.rule in
    let k = c.loop-one.one in
    let old = RuleQuiet d t k in
    sweep_map (d ∷ []) (old × RowQuiet d t (length t) k) (RuleQuiet d t (k + 1)) t v (c.loop-one.changed || c.sweep_row-changed.result)
    (λ q i a. elim (cases_eq i k) [ inl e ↦ subst (λ (x : ℕ). RowQuiet d t (length t) x) (sym e) q.1 | inr e ↦ q.0 i (omega arith) ])
    (sweep_then (d ∷ []) old (λ (w : List Row). RowQuiet d w (length w) k) t u v c.loop-one.changed c.sweep_row-changed.result c.loop-one.invariant
    c.sweep_row-changed.ensures)
