use Rattle.std.proofs.Common.{eqb, sym, refl, ap, inl, inr}
use Rattle.std.proofs.lemmas.Bool.{both_ways, eqb-true, eq-eqb}
use Rattle.columns.specs.Cols.{Cols, has}
use Rattle.columns.proofs.SetNumbers.{same_bits}
use Rattle.schema.proofs.Gathering.{same_set}
use Rattle.schema.proofs.merging.join.Goals as goal

pub returns-then-eq : goal.returns-then-eq
returns-then-eq c = inl (same_set c.args.rule.left c.args.left (eqb-true c.args.rule.left.bits c.args.left.bits (sym c.if-eq.ensures)), c.union.ensures)

pub returns : goal.returns
returns c =
    inr (
      (λ e.
          let l = c.args.rule.left in let m = c.args.left in
          both_ways (eqb l.bits m.bits) (sym c.if-eq.ensures) (eq-eqb l.bits m.bits (same_bits l m (λ d. ap (λ (v : Cols). has v d) e)))),
      λ d. refl,
    )
