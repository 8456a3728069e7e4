use Rattle.std.proofs.Common.{ℕ, List, ap, ◌∙◌}
use Rattle.columns.specs.Cols.{Cols, columns, has, Same}
use Rattle.columns.specs.Sets.{cols}
use Rattle.columns.specs.declared.table_width.Width.{Width}
use Rattle.columns.proofs.Lists.{all_same}
use Rattle.dependencies.specs.Closure.{closure as closure_of}
use Rattle.dependencies.specs.Reads.{rules_of}
use Rattle.dependencies.specs.Rules.{deps}
use Rattle.dependencies.specs.declared.rules.Rule.{Rule}
use Rattle.schema.proofs.designing.fixes_all.Goals as goal

pub returns : goal.returns
returns c =
    let n : ℕ = c.args.set.now.width.columns in
    let x : Cols = cols c.args.part in
    let all : Same (cols c.all.result) (columns 0 n)
    = λ d. ap (λ (v : Cols). has v d) c.all.ensures ∙ ap (λ (w : Width). has (columns 0 w.columns) d) c.width.ensures in
    let fixed : Same (cols c.closure.result) (closure_of (deps (rules_of c.args.set.now)) x)
    = λ d. c.closure.ensures.computed d ∙ ap (λ (v : List Rule). has (closure_of (deps v) x) d) c.rules.ensures in
    c.is_subset.ensures ∙ all_same _ _ _ _ all fixed
