use Rattle.std.proofs.Common.{not, ◌∙◌, rules, tests}
use Rattle.columns.specs.Cols.{all_in}
use Rattle.columns.specs.Sets.{cols}
use Rattle.columns.specs.declared.set.ColumnSet.{ColumnSet}
use Rattle.schema.specs.Sets.{sets_in}
use Rattle.schema.proofs.Sifting.{others_kept}
use Rattle.schema.proofs.part_sets.PartSets.drop_inside.Goals as goal

pub returns : goal.returns
returns c =
    let inside = λ (s : ColumnSet). all_in (cols s) (cols c.args.set) in
    c.retain.ensures (λ s. not (inside s)) (λ x b k. search (rules, tests)) ∙ others_kept inside (sets_in c.args.self.now)
