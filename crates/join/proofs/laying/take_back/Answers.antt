use Rattle.std.proofs.Common.{◌≡◌, ℕ, ◌+◌, ◌-◌, ◌*◌, ◌≤◌, List, length, ◌∙◌, subst, arith}
use Rattle.dependencies.specs.Told.{or_else}
use Rattle.schema.specs.Layout.{design_in}
use Rattle.parts.specs.Answers.{outcome, opened_told, take_told, After}
use Rattle.parts.specs.Day.{all_less}
use Rattle.parts.specs.Store.{held_of}
use Rattle.parts.proofs.Spaces.{rows_fit}
use Rattle.join.specs.Undoing.{TakenBack}
use Rattle.join.proofs.TableLaid.{at_plan}
use Rattle.join.proofs.TakenBack.{back_next}
use Rattle.join.proofs.laying.take_back.Goals as goal

pub loop-i-preserved : goal.loop-i-preserved
loop-i-preserved c =
    let n : ℕ = c.args.rows.width.columns in
    let d : List ℕ = c.args.register.now.design.now in
    let m : ℕ = c.loop-i.i - 1 in
    let a : c.loop-i.i ≡ m + 1 = omega arith in
    let e : c.loop-i.register.columns ≡ n = c.loop-i.invariant.columns ∙ c.requires.same in
    let f : c.loop-i.register.design.now ≡ d = c.loop-i.invariant.design in
    let fits : (m + 1) * n ≤ length c.args.rows.cells.now = omega (arith, rows_fit (m + 1) c.args.count n (omega arith), c.requires.there) in
    record {
      columns = c.remove.ensures.plan.0 ∙ c.loop-i.invariant.columns;
      design = c.remove.ensures.plan.1 ∙ c.loop-i.invariant.design;
      back = back_next n d c.args.rows.cells.now c.args.count m c.args.register.now.cells.now c.loop-i.register.cells.now c.remove.new.self.cells.now c.row.result.now c.remove.result
          (subst (λ (k : ℕ). TakenBack n d c.args.rows.cells.now c.args.count k c.args.register.now.cells.now c.loop-i.register.cells.now) a c.loop-i.invariant.back)
          c.row.ensures fits c.remove.ensures.long
          (at_plan (λ (k : ℕ) (z : List ℕ). outcome c.remove.result ≡ or_else (opened_told k z) (take_told k (design_in k z) (held_of k z c.loop-i.register.cells.now) c.row.result.now)) e f c.remove.ensures.told)
          (at_plan (λ (k : ℕ) (z : List ℕ). After k z c.loop-i.register.cells.now c.remove.new.self.cells.now (all_less (design_in k z) (held_of k z c.loop-i.register.cells.now) c.row.result.now) c.remove.result) e f c.remove.ensures.after);
    }
