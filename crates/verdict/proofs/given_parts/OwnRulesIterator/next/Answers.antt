use Rattle.std.proofs.Common.{◌≡◌, ℕ, ◌-◌, ◌*◌, ◌≤◌, true, List, ◌∷◌, length, drop, sym, ap, ◌∙◌, ap₂, subst, arith, length-drop}
use Rattle.columns.specs.Cols.{Cols}
use Rattle.columns.specs.Sets.{cols}
use Rattle.dependencies.specs.Layout.{rules_in}
use Rattle.schema.specs.Layout.{all_sets_fit}
use Rattle.verdict.proofs.GivenWalk.{no_rule, first_rule, rule_fits}
use Rattle.verdict.proofs.given_parts.OwnRulesIterator.next.Goals as goal

pub returns-then-self-eq0-clause-steps : goal.returns-then-self-eq0-clause-steps
returns-then-self-eq0-clause-steps c =
    let o = c.args.self.now in
    let none = no_rule o.width.columns o.count o.numbers.now c.if-self-eq0.true in
    (none, none)

pub returns-in_err-left-clause-steps : goal.returns-in_err-left-clause-steps
returns-in_err-left-clause-steps c =
    let o = c.args.self.now in
    absurd (omega (arith, (rule_fits o.width.columns o.count o.numbers.now c.if-self-eq0.false o.fits).0, c.in_err-left.ensures))

pub returns-in_err-right-clause-steps : goal.returns-in_err-right-clause-steps
returns-in_err-right-clause-steps c =
    let o = c.args.self.now in
    absurd (omega (arith, (rule_fits o.width.columns o.count o.numbers.now c.if-self-eq0.false o.fits).1, c.in_err-right.ensures))

pub invariant_of-self : goal.invariant_of-self
invariant_of-self c =
    let o = c.args.self.now in
    let xs = o.numbers.now in
    record {
      whole = subst (λ (v : List ℕ). 2 * (o.count - 1) ≤ length v) (sym c.behind.ensures) (omega (arith, length-drop 2 xs, o.whole));
      fits = subst (λ (v : List ℕ). all_sets_fit o.width.columns (2 * (o.count - 1)) v ≡ true) (sym c.behind.ensures)
          (rule_fits o.width.columns o.count xs c.if-self-eq0.false o.fits).2;
    }

pub returns-clause-steps : goal.returns-clause-steps
returns-clause-steps c =
    let o = c.args.self.now in
    let n = o.width.columns in
    let xs = o.numbers.now in
    first_rule n o.count xs c.if-self-eq0.false
    ∙ ap₂ (λ (l r : Cols). record { left = l; right = r } ∷ rules_in n (o.count - 1) (drop 2 xs)) (sym c.in_ok-left.ensures.1) (sym c.in_ok-right.ensures.1)
    ∙ ap (λ (v : List ℕ). record { left = cols c.in_ok-left.left; right = cols c.in_ok-right.right } ∷ rules_in n (o.count - 1) v) (sym c.behind.ensures)

pub returns-clause-goes : goal.returns-clause-goes
returns-clause-goes c =
    let less = ap length (returns-clause-steps c) in
    record { on = λ finite. (tt, finite, omega arith); keeps = tt; rests = λ finite. tt }
