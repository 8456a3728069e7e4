use Rattle.std.proofs.Common.{◌≡◌, ◌&&◌, ◌||◌, List, [], ◌∷◌, ◌++◌, get_or, replicate, vec_items, ap, ◌∙◌, subst, arith}
use Rattle.columns.specs.Cols.{has}
use Rattle.columns.specs.Sets.{cols}
use Rattle.columns.specs.declared.set.ColumnSet.{ColumnSet}
use Rattle.dependencies.specs.Tables.{Row}
use Rattle.dependencies.specs.Told.{Told}
use Rattle.schema.specs.Layout.{design_in}
use Rattle.parts.specs.Parts.{if_opened, IfOpened, PartAt, NoPart, held_by}
use Rattle.parts.specs.Store.{held_of}
use Rattle.join.specs.Steps.{join_all}
use Rattle.join.proofs.PartsJoined.{so_far_start, so_far_next, so_far_all}
use Rattle.join.proofs.joining.join_parts.Goals as goal

pub loop-p-init : goal.loop-p-init
loop-p-init c =
    so_far_start (design_in c.args.register.now.columns c.args.register.now.design.now) (held_of c.args.register.now.columns c.args.register.now.design.now c.args.register.now.cells.now) (vec_items c.push.new.self) (cols c.empty-columns.result)
    (c.in_ok-push.ensures.items ∙ ap (λ (z : List Row). z ++ replicate 16 0 ∷ []) c.new-rows.ensures.items) c.empty-columns.ensures

pub loop-p-preserved : goal.loop-p-preserved
loop-p-preserved c =
    let count : c.parts-p-end.result ≡ get_or c.args.register.now.design.now 0 0 = c.parts-p-end.ensures ∙ ap (λ (t : Told). if_opened t (get_or c.args.register.now.design.now 0 0) 0) c.requires in
    so_far_next c.args.register.now.columns c.args.register.now.design.now c.args.register.now.cells.now c.loop-p.p c.part-part.result c.loop-p.columns c.intersection-shared.result c.union-columns.result (vec_items c.loop-p.rows) (vec_items c.in_ok-rows.rows)
    (omega arith)
    (subst (λ (t : Told). IfOpened t (PartAt c.args.register.now.columns c.args.register.now.design.now c.args.register.now.cells.now c.loop-p.p c.part-part.result) (NoPart c.part-part.result)) c.requires c.part-part.ensures)
    (λ k. c.intersection-shared.ensures k ∙ ap (λ (s : ColumnSet). has (cols c.loop-p.columns) k && has (cols s) k) c.set.ensures)
    (λ k. c.union-columns.ensures k ∙ ap (λ (s : ColumnSet). has (cols c.loop-p.columns) k || has (cols s) k) c.set-in-loop-p.ensures)
    (c.in_ok-rows.ensures ∙ ap (λ (z : List Row). join_all (cols c.intersection-shared.result) (cols c.part-part.result.owned) (held_by c.part-part.result) z) c.as_slice.ensures.value)
    c.loop-p.invariant

pub returns : goal.returns
returns c =
    let count : c.parts-p-end.result ≡ get_or c.args.register.now.design.now 0 0 = c.parts-p-end.ensures ∙ ap (λ (t : Told). if_opened t (get_or c.args.register.now.design.now 0 0) 0) c.requires in
    so_far_all c.args.register.now.columns c.args.register.now.design.now c.args.register.now.cells.now c.loop-p.p (vec_items c.loop-p.rows) (cols c.loop-p.columns) (omega arith) c.loop-p.invariant
