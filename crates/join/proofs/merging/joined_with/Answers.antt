use Rattle.std.proofs.Common.{ℕ, List, Some, sym, ap, ◌∙◌, ap₂}
use Rattle.columns.specs.Sets.{cols}
use Rattle.columns.specs.declared.set.ColumnSet.{ColumnSet}
use Rattle.dependencies.specs.Tables.{agree}
use Rattle.parts.specs.Parts.{held_by}
use Rattle.parts.specs.Store.{place_in}
use Rattle.join.specs.Steps.{merged}
use Rattle.join.proofs.RowsGrow.{with_none, with_other, with_again, with_joined}
use Rattle.join.proofs.merging.joined_with.Goals as goal

pub returns-in_err-look : goal.returns-in_err-look
returns-in_err-look c =
    c.from_residual.ensures ∙ sym (with_none (cols c.args.shared) (cols c.args.part.owned) (held_by c.args.part) c.args.row.now c.args.i c.in_err-look.ensures)

pub returns-then-not-agrees : goal.returns-then-not-agrees
returns-then-not-agrees c =
    sym (with_other (cols c.args.shared) (cols c.args.part.owned) (held_by c.args.part) c.args.row.now c.args.i c.in_ok-look.ensures.0
    (ap (λ (z : List ℕ). agree (cols c.args.shared) c.args.row.now z) (sym c.in_ok-look.ensures.1) ∙ sym c.agrees.ensures ∙ c.if-not-agrees.true))

pub returns-then-place_of-i : goal.returns-then-place_of-i
returns-then-place_of-i c =
    sym (with_again (cols c.args.shared) (cols c.args.part.owned) (held_by c.args.part) c.args.row.now c.args.i c.in_ok-look.ensures.0
    (ap (λ (z : List ℕ). agree (cols c.args.shared) c.args.row.now z) (sym c.in_ok-look.ensures.1) ∙ sym c.agrees.ensures ∙ c.if-not-agrees.false)
    (λ e. c.if-place_of-i.true (c.place_of.ensures ∙ ap (λ (z : List ℕ). place_in (cols c.args.part.owned) z (held_by c.args.part)) c.in_ok-look.ensures.1 ∙ e)))

pub returns : goal.returns
returns c =
    ap (λ (z : List ℕ). Some z) (c.merge.ensures ∙ ap₂ (λ (s : ColumnSet) (z : List ℕ). merged (cols s) z c.args.row.now) c.set.ensures c.in_ok-look.ensures.1)
    ∙ sym (with_joined (cols c.args.shared) (cols c.args.part.owned) (held_by c.args.part) c.args.row.now c.args.i c.in_ok-look.ensures.0
    (ap (λ (z : List ℕ). agree (cols c.args.shared) c.args.row.now z) (sym c.in_ok-look.ensures.1) ∙ sym c.agrees.ensures ∙ c.if-not-agrees.false)
    (ap (λ (z : List ℕ). place_in (cols c.args.part.owned) z (held_by c.args.part)) (sym c.in_ok-look.ensures.1) ∙ sym c.place_of.ensures ∙ c.if-place_of-i.false))
