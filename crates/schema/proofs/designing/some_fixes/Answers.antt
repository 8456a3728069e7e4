use Rattle.std.proofs.Common.{◌∙◌, rules, tests}
use Rattle.std.proofs.lemmas.Iterator.{YieldsList-from_slice}
use Rattle.std.proofs.lemmas.Iterator.Search.{any_from_yields_List}
use Rattle.columns.specs.Cols.{columns}
use Rattle.columns.specs.Sets.{cols}
use Rattle.columns.specs.declared.set.ColumnSet.{ColumnSet}
use Rattle.dependencies.specs.Closure.{does_fix}
use Rattle.dependencies.specs.Reads.{rules_of}
use Rattle.dependencies.specs.Rules.{deps}
use Rattle.schema.proofs.Tested.{any_any}
use Rattle.schema.proofs.designing.some_fixes.Goals as goal

pub returns : goal.returns
returns c =
    let t = c.args.set.now in
    let xs = c.args.parts.now in
    let fixes = λ (s : ColumnSet). does_fix (deps (rules_of t)) (cols s) (columns 0 t.width.columns) in
    any_from_yields_List fixes _ _ _ c.any.ensures.ran (YieldsList-from_slice xs cc) (λ x b q k. search (rules, tests)) ∙ any_any fixes xs
