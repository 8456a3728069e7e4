use Rattle.std.proofs.Common.{ap, ◌∙◌}
use Rattle.columns.specs.Cols.{Cols, all_in}
use Rattle.columns.specs.Sets.{cols}
use Rattle.verdict.specs.Given.{given_part, given_parts}
use Rattle.verdict.proofs.Covered.{covering_turn, covering_end, parts_within}
use Rattle.verdict.proofs.spread.covers.Goals as goal

pub loop-part-preserved : goal.loop-part-preserved
loop-part-preserved c = (
  tt,
  tt,
  covering_turn (cols c.all-missing.result) (given_parts c.args.design) (cols c.loop-part.missing) (cols c.difference-missing.result)
      (given_part c.in-Some.part) (given_parts c.loop-part.part-iterator) (given_parts c.next.new.self) c.in-Some.ensures.steps
      c.difference-missing.ensures c.loop-part.invariant.2,
)

pub returns : goal.returns
returns c ds =
    let g = c.args.design in
    covering_end g.width.columns ds (given_parts g) (cols c.all-missing.result) (cols c.loop-part.missing) (given_parts c.loop-part.part-iterator) g.width.some
    (parts_within g.width.columns g.count g.numbers.now) c.all-missing.ensures c.in-None.ensures.steps.0 c.loop-part.invariant.2 c.is_subset.result
    (c.is_subset.ensures ∙ ap (λ (v : Cols). all_in (cols c.loop-part.missing) v) c.empty.ensures)
