use Rattle.std.proofs.Common.{◌≡◌, ℕ, true, List, length, sym, ap, ◌∙◌, subst}
use Rattle.columns.specs.declared.table_width.Width.{Width}
use Rattle.dependencies.specs.Layout.{columns_of, rules_of_row}
use Rattle.dependencies.specs.Reads.{rules_of}
use Rattle.dependencies.specs.Rules.{deps}
use Rattle.dependencies.specs.Tables.{Dep}
use Rattle.verdict.specs.Check.{Judged, Checked, parts_given}
use Rattle.schema.specs.Design.{Part}
use Rattle.verdict.specs.Given.{is_readable, given_parts}
use Rattle.schema.specs.Layout.{design_in}
use Rattle.verdict.specs.Sweeps.{RowsLeft}
use Rattle.verdict.proofs.Checking.{judged_checked, accepted_ok}
use Rattle.verdict.proofs.check.check_design.Goals as goal

pub returns : goal.returns
returns c =
    let rules = c.args.rules.now in
    let design = c.args.design.now in
    let rows = length c.args.tableau.now in
    let read = c.in_ok-set.ensures in
    let width : c.width-width.result.columns ≡ columns_of rules = ap (λ (w : Width). w.columns) c.width-width.ensures ∙ read.1 in
    let parts : given_parts c.opened.result ≡ parts_given rules design
    = c.opened.ensures.0 ∙ ap (λ (n : ℕ). design_in n design) width in
    let told : Checked rules design rows c.judge.result
    = judged_checked rules design rows read.0 (subst (λ (n : ℕ). is_readable n design ≡ true) width (sym c.if-not-readable.ensures)) c.judge.result
    (subst (λ (n : ℕ). Judged n (rules_of_row rules) (parts_given rules design) rows c.judge.result) read.1
    (subst (λ (v : List Dep). Judged c.in_ok-set.set.width.columns v (parts_given rules design) rows c.judge.result) read.3
    (subst (λ (v : List Part). Judged c.in_ok-set.set.width.columns (deps (rules_of c.in_ok-set.set)) v rows c.judge.result) parts c.judge.ensures.told))) in
    record {
      told = told;
      accepts = accepted_ok rules design rows c.judge.result told;
      rows = subst (λ (v : List Part). RowsLeft (length v) c.args.tableau.now c.judge.new.tableau) parts c.judge.ensures.rows;
    }
