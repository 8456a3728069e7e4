use Rattle.std.proofs.Common.{◌≡◌, ℕ, ◌<◌, List, Ok, refl, ◌∙◌, subst, arith}
use Rattle.dependencies.specs.Told.{done, told, or_else}
use Rattle.schema.specs.Layout.{design_in}
use Rattle.parts.specs.Answers.{opened_told, put_told, NowHolds}
use Rattle.parts.specs.Day.{all_more}
use Rattle.parts.specs.Store.{room_of, held_of}
use Rattle.join.specs.Laid.{row_count, LaySays}
use Rattle.join.specs.Undoing.{TakenBack}
use Rattle.join.proofs.TableLaid.{at_plan, laid_start, laid_next, laid_refused, laid_all, laid_back}
use Rattle.join.proofs.laying.lay_rows.Goals as goal

pub loop-i-init : goal.loop-i-init
loop-i-init c = (refl, refl, laid_start c.args.rows.width.columns c.args.register.now.design.now c.args.rows.cells.now c.args.register.now.cells.now)

pub returns-in-Err : goal.returns-in-Err
returns-in-Err c =
    let n : ℕ = c.args.rows.width.columns in
    let d : List ℕ = c.args.register.now.design.now in
    let g : List ℕ = c.loop-i.register.cells.now in
    let e : c.loop-i.register.columns ≡ n = c.loop-i.invariant.0 ∙ c.requires.same in
    let f : c.loop-i.register.design.now ≡ d = c.loop-i.invariant.1 in
    let h = c.in-Err.ensures in
    let l : c.loop-i.i < row_count n c.args.rows.cells.now = omega arith in
    record {
      says = record {
        long = c.take_back.ensures.back.long ∙ h.long ∙ c.loop-i.invariant.2.long;
        tells = laid_refused n d c.args.rows.cells.now c.args.register.now.cells.now c.loop-i.i g c.row.result.now l c.loop-i.invariant.2 c.row.ensures c.requires.opened c.in-Err.refusal
            (at_plan (λ (k : ℕ) (z : List ℕ). told c.in-Err.refusal ≡ or_else (opened_told k z) (put_told k (room_of k z g) (design_in k z) (held_of k z g) c.row.result.now)) e f h.told);
        after = laid_back n d c.args.rows.cells.now c.args.register.now.cells.now c.loop-i.i g c.take_back.new.register.cells.now c.requires.opened c.loop-i.invariant.2
            (subst (λ (z : List ℕ). TakenBack n d c.args.rows.cells.now c.loop-i.i 0 z c.take_back.new.register.cells.now) h.after
            (subst (λ (z : List ℕ). TakenBack n z c.args.rows.cells.now c.loop-i.i 0 c.insert.new.self.cells.now c.take_back.new.register.cells.now) (h.plan.1 ∙ f) c.take_back.ensures.back));
      };
      plan = (c.take_back.ensures.plan.0 ∙ h.plan.0 ∙ c.loop-i.invariant.0, c.take_back.ensures.plan.1 ∙ h.plan.1 ∙ c.loop-i.invariant.1);
    }

pub loop-i-preserved : goal.loop-i-preserved
loop-i-preserved c =
    let n : ℕ = c.args.rows.width.columns in
    let d : List ℕ = c.args.register.now.design.now in
    let g : List ℕ = c.loop-i.register.cells.now in
    let e : c.loop-i.register.columns ≡ n = c.loop-i.invariant.0 ∙ c.requires.same in
    let f : c.loop-i.register.design.now ≡ d = c.loop-i.invariant.1 in
    let h = c.in_default.ensures in
    let l : c.loop-i.i < row_count n c.args.rows.cells.now = omega arith in (
      h.plan.0 ∙ c.loop-i.invariant.0,
      h.plan.1 ∙ c.loop-i.invariant.1,
      laid_next n d c.args.rows.cells.now c.args.register.now.cells.now c.loop-i.i g c.row.result.now l c.loop-i.invariant.2 c.row.ensures c.requires.opened c.insert.new.self.cells.now h.long
          (at_plan (λ (k : ℕ) (z : List ℕ). done ≡ or_else (opened_told k z) (put_told k (room_of k z g) (design_in k z) (held_of k z g) c.row.result.now)) e f h.told)
          (at_plan (λ (k : ℕ) (z : List ℕ). NowHolds k z g c.insert.new.self.cells.now (all_more (design_in k z) (held_of k z g) c.row.result.now)) e f h.after),
    )

pub returns : goal.returns
returns c =
    let n : ℕ = c.args.rows.width.columns in
    let s : c.loop-i.i ≡ c.count-count.result = omega arith in
    record {
      says = subst (λ (k : ℕ). LaySays n c.args.register.now.design.now c.args.register.now.cells.now c.loop-i.register.cells.now c.args.rows.cells.now (Ok k)) s
          (laid_all n c.args.register.now.design.now c.args.rows.cells.now c.args.register.now.cells.now c.loop-i.i c.loop-i.register.cells.now (omega arith) (omega arith) c.loop-i.invariant.2);
      plan = (c.loop-i.invariant.0, c.loop-i.invariant.1);
    }
