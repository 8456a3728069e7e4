use Rattle.std.proofs.Common.{◌≡◌, ℕ, List, length, Ok, Err, Result, sym, subst}
use Rattle.std.specs.Result.{IsErrAnd}
use Rattle.schema.specs.Designed.{DesignTold}
use Rattle.verdict.specs.Check.{Checked}
use Rattle.verdict.specs.Own.{OwnTold}
use Rattle.verdict.specs.declared.check.CheckFailure.{CheckFailure}
use Rattle.verdict.proofs.OwnDesigns.{own_told}
use Rattle.verdict.proofs.own.made_and_checked.Goals as goal

-- the failure of the test goes up as it is
passed_on : (rules out : List ℕ) (rows k : ℕ) (out₁ : List ℕ) (failure : CheckFailure) (r : Result ℕ CheckFailure)
    → DesignTold rules out (Ok k) out₁ → Checked rules out₁ rows (Err failure) → IsErrAnd r (λ e. e ≡ failure) → OwnTold rules out rows r out₁
passed_on rules out rows k out₁ failure (Ok j) made tested same = absurd same
passed_on rules out rows k out₁ failure (Err e) made tested same =
    own_told rules out rows k out₁ made (Err e) (subst (λ (v : CheckFailure). Checked rules out₁ rows (Err v)) (sym same) tested)

pub returns-in_err-check_design : goal.returns-in_err-check_design
returns-in_err-check_design c =
    let tested = c.in_err-check_design.ensures in
    record {
      told = passed_on c.args.rules.now c.args.out.now (length c.args.tableau.now) c.in_ok-parts.parts c.design_for.new.out c.in_err-check_design.field-0.0
          c.from_residual-in_err-check_design.result c.in_ok-parts.ensures tested.told c.from_residual-in_err-check_design.ensures.1;
      rows = tested.rows;
    }
