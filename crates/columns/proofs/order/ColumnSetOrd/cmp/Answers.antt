use Rattle.std.proofs.Common.{◌≡◌, sym, ap, ◌∙◌}
use Rattle.columns.specs.Cols.{set_in}
use Rattle.columns.specs.Order.{before}
use Rattle.columns.specs.Sets.{cols}
use Rattle.columns.proofs.Compared.{xor_none}
use Rattle.columns.proofs.Comparing.{cmp_same, cmp_less, cmp_greater, low_small, first_here, first_there, not_one}
use Rattle.columns.proofs.order.ColumnSetOrd.cmp.Goals as goal
use Rattle.columns.proofs.order.ColumnSetOrd.cmp.Goals.{then-here-eq1, else-here-eq1}

pub returns-then-differ-eq0 : goal.returns-then-differ-eq0
unfolding cols
returns-then-differ-eq0 c =
    cmp_same (cols c.args.self.now) (cols c.args.other.now) (ap (set_in 0 16) (xor_none c.args.self.now.bits c.args.other.now.bits c.if-differ-eq0.true))

pub overflow_shr-here : goal.overflow_shr-here
overflow_shr-here c = low_small c.args.self.now c.args.other.now c.if-differ-eq0.false

pub overflow_shr-there : goal.overflow_shr-there
overflow_shr-there c = low_small c.args.self.now c.args.other.now c.if-differ-eq0.false

pub returns-then-first : goal.returns-then-first
returns-then-first c =
    let s = c.args.self.now in
    let t = c.args.other.now in
    let first : before (cols s) (cols t) ≡ c.if-here-eq1.first
    = elim c.if-here-eq1.branch [
      | then-here-eq1 w ↦ first_here s t c.if-differ-eq0.false w.if-here-eq1.true ∙ sym w.first-is
      | else-here-eq1 w ↦ first_there s t c.if-differ-eq0.false w.if-here-eq1.false ∙ sym w.first-is
    ] in
    cmp_less (cols s) (cols t) (first ∙ c.if-first.true)

pub returns-else-first : goal.returns-else-first
returns-else-first c =
    let s = c.args.self.now in
    let t = c.args.other.now in
    let first : before (cols s) (cols t) ≡ c.if-here-eq1.first
    = elim c.if-here-eq1.branch [
      | then-here-eq1 w ↦ first_here s t c.if-differ-eq0.false w.if-here-eq1.true ∙ sym w.first-is
      | else-here-eq1 w ↦ first_there s t c.if-differ-eq0.false w.if-here-eq1.false ∙ sym w.first-is
    ] in
    cmp_greater (cols s) (cols t) (first ∙ c.if-first.false) (not_one s t c.if-differ-eq0.false)
