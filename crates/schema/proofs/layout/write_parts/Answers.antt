use Rattle.std.proofs.Common.{◌-◌, ◌≤◌, length, drop, arith}
use Rattle.std.proofs.lemmas.List.{length-take, length-drop}
use Rattle.schema.specs.Writing.{left_in}
use Rattle.schema.proofs.Written.{part_length, partly_start, partly_turn, partly_end}
use Rattle.schema.proofs.layout.write_parts.Goals as goal

pub loop-set-init : goal.loop-set-init
loop-set-init c = partly_start (left_in c.args.rules) c.args.sets.now c.args.out.now

pub write_part-at-requires : goal.write_part-at-requires
write_part-at-requires c =
    omega (arith, c.loop-set.invariant.room, c.requires, length-take (length c.loop-set.out - c.loop-set.at) (drop c.loop-set.at c.loop-set.out), length-drop c.loop-set.at c.loop-set.out)

pub overflow_add-at : goal.overflow_add-at
overflow_add-at c =
    omega (arith, c.loop-set.invariant.room, c.requires, c.write_part-at.ensures.long, part_length (left_in c.loop-set.rest) c.set-item.result)

pub loop-set-preserved : goal.loop-set-preserved
loop-set-preserved c =
    let fits : c.loop-set.at ≤ length c.loop-set.out = omega (arith, c.loop-set.invariant.room, c.requires) in
    partly_turn (left_in c.args.rules) c.args.sets.now c.args.out.now c.loop-set.set-index c.loop-set.at (left_in c.loop-set.rest) c.loop-set.out
    c.set-item.result c.write_part-at.result (left_in c.write_part-at.new.rest) c.write_part-at.new.row c.loop-set-test.true c.set-item.is fits
    c.loop-set.invariant c.write_part-at.ensures

pub returns : goal.returns
returns c =
    partly_end (left_in c.args.rules) c.args.sets.now c.args.out.now c.loop-set.set-index c.loop-set.at (left_in c.loop-set.rest) c.loop-set.out
    (length c.args.sets.now) c.loop-set-test.false c.loop-set.invariant
