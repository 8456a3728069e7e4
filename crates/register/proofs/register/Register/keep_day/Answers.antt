use Rattle.std.proofs.Common.{◌≡◌, ℕ, List, subst}
use Rattle.dependencies.specs.Layout.{columns_of}
use Rattle.register.specs.Deeds.{DayKept, DeedsKept}
use Rattle.register.proofs.Whole.{day_kept}
use Rattle.register.proofs.register.Register.keep_day.Goals as goal

pub returns : goal.returns
returns c =
    let p = c.in_ok-parts.parts in
    let d = c.args.self.now.design.now in
    let n : p.width.columns ≡ columns_of c.args.rules.now = c.in_ok-parts.ensures.parts.0 in
    let kept =
    subst (λ (e : List ℕ). DeedsKept p.width.columns e c.begin.new.self.cells.now c.keep_deeds.new.cells c.args.deeds.now c.args.answers.now c.keep_deeds.new.answers c.keep_deeds.result)
    c.in_ok-parts.ensures.parts.1 c.keep_deeds.ensures
    in
    record {
      told = c.in_ok-parts.ensures.told;
      says =
          subst (λ (k : ℕ). DayKept k d c.args.self.now.cells.now c.keep_deeds.new.cells c.args.deeds.now c.args.answers.now c.keep_deeds.new.answers c.keep_deeds.result) n
          (day_kept p.width.columns d c.args.self.now.cells.now c.begin.new.self.cells.now c.keep_deeds.new.cells c.args.deeds.now c.args.answers.now c.keep_deeds.new.answers c.keep_deeds.result
          c.in_ok-parts.ensures.after.1 kept);
      width = c.in_ok-parts.ensures.after.0;
      plan = c.in_ok-parts.ensures.plan;
    }
