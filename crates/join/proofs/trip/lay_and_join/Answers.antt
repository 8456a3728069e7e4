use Rattle.std.proofs.Common.{ℕ, List, vec_items, sym}
use Rattle.schema.specs.Layout.{design_in}
use Rattle.parts.specs.Store.{held_of}
use Rattle.join.specs.Joined.{Joined}
use Rattle.join.proofs.TableLaid.{at_plan}
use Rattle.join.proofs.Tripping.{tripped, whole_taken}
use Rattle.join.proofs.trip.lay_and_join.Goals as goal

pub returns-in_err-lay-clause-whole : goal.returns-in_err-lay-clause-whole
returns-in_err-lay-clause-whole c = whole_taken c.args.register.now.columns c.args.register.now.design.now c.args.register.now.cells.now c.args.table.now

pub returns-clause-says : goal.returns-clause-says
returns-clause-says c =
    let h = c.in_ok-lay.ensures in
    tripped c.args.register.now.columns c.args.register.now.design.now c.args.register.now.cells.now c.lay.new.register.cells.now c.args.table.now (vec_items c.in-Ok.rows) (sym h.told) h.after.1
    (at_plan (λ (k : ℕ) (z : List ℕ). Joined (design_in k z) (held_of k z c.lay.new.register.cells.now) (vec_items c.in-Ok.rows)) h.plan.0 h.plan.1 c.in-Ok.ensures.1)

pub returns-clause-whole : goal.returns-clause-whole
returns-clause-whole c = whole_taken c.args.register.now.columns c.args.register.now.design.now c.args.register.now.cells.now c.args.table.now
