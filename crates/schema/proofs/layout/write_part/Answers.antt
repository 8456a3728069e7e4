use Rattle.std.proofs.Common.{ℕ, ◌≤◌, List, length, ap, ◌∙◌, arith}
use Rattle.columns.specs.declared.set.ColumnSet.{ColumnSet}
use Rattle.dependencies.specs.Lent.{put_list}
use Rattle.dependencies.specs.declared.rules.Rule.{Rule}
use Rattle.schema.specs.Writing.{inside, own, flat, left_in}
use Rattle.bounded.proofs.Few.{few_items}
use Rattle.schema.proofs.Sifting.{both_sides}
use Rattle.schema.proofs.Written.{part_put, put_mid_lem}
use Rattle.schema.proofs.layout.write_part.Goals as goal

few : (rs : List Rule) (s : ColumnSet) → length (own rs s) ≤ length rs
few rs s = omega (arith, both_sides (λ r. inside r s) rs)

pub overflow_mul-result : goal.overflow_mul-result
overflow_mul-result c =
    omega (arith, c.write_own-owned.ensures.0, few c.rules.result.now c.args.set, ap length c.rules.ensures, few_items c.args.rest.now.rules)

pub overflow_add-result : goal.overflow_add-result
overflow_add-result c =
    omega (arith, c.write_own-owned.ensures.0, few c.rules.result.now c.args.set, ap length c.rules.ensures, few_items c.args.rest.now.rules)

pub returns : goal.returns
returns c =
    let s : ColumnSet = c.args.set in
    let row : List ℕ = c.args.row.now in
    let two : 2 ≤ length row = omega arith in
    part_put s (left_in c.args.rest.now) row c.write_own-owned.result _ _ c.bits.result
    (c.write_own-owned.ensures.0 ∙ ap (λ (v : List Rule). length (own v s)) c.rules.ensures)
    (put_mid_lem row 2 (flat (own c.rules.result.now s)) c.write_own-owned.new.row two c.write_own-owned.ensures.1
    ∙ ap (λ (v : List Rule). put_list row 2 (flat (own v s))) c.rules.ensures)
    c.take_out.ensures c.bits.ensures.1
