use Rattle.std.proofs.Common.{vec_items, sym, ◌∙◌}
use Rattle.columns.specs.Sets.{cols}
use Rattle.parts.specs.Parts.{held_by}
use Rattle.join.proofs.RowsGrow.{first_none, first_push, first_same}
use Rattle.join.proofs.merging.join_row.Goals as goal
use Rattle.join.proofs.merging.join_row.Goals.{in-Some+in_ok-push, in_default}

pub loop-i-init : goal.loop-i-init
loop-i-init c = first_none (cols c.args.shared) (cols c.args.part.owned) (held_by c.args.part) c.args.row.now (vec_items c.args.rows.now)

pub loop-i-preserved : goal.loop-i-preserved
loop-i-preserved c = elim c.match-joined_with.branch [
  | in-Some+in_ok-push w ↦
      let e = first_push (cols c.args.shared) (cols c.args.part.owned) (held_by c.args.part) c.args.row.now (vec_items c.loop-i.rows) (vec_items c.args.rows.now) c.loop-i.i w.in-Some.joined
      c.loop-i.invariant (sym c.joined_with.ensures ∙ w.in-Some.is) in
      let m = w.in_ok-push.ensures.items in cc
  | in_default w ↦
      let e = first_same (cols c.args.shared) (cols c.args.part.owned) (held_by c.args.part) c.args.row.now (vec_items c.loop-i.rows) (vec_items c.args.rows.now) c.loop-i.i
      c.loop-i.invariant (sym c.joined_with.ensures ∙ w.in_default.is) in cc
]
