use Rattle.std.proofs.Common.{◌≡◌, ℕ, false, List, sym, ap, ◌∙◌, subst, inr}
use Rattle.columns.specs.Cols.{Cols, columns}
use Rattle.columns.specs.Sets.{cols}
use Rattle.columns.specs.declared.set.ColumnSet.{ColumnSet}
use Rattle.columns.specs.declared.table_width.Width.{Width}
use Rattle.dependencies.specs.Reads.{rules_of}
use Rattle.dependencies.specs.Rules.{deps}
use Rattle.dependencies.specs.declared.rules.Rule.{Rule}
use Rattle.dependencies.specs.declared.held.RuleSet.{RuleSet}
use Rattle.keys.specs.Keys.{Key}
use Rattle.schema.specs.Gathers.{does_some_fix}
use Rattle.schema.specs.Sets.{sets_in}
use Rattle.schema.proofs.designing.add_key.Goals as goal

pub returns : goal.returns
returns c =
    let t : RuleSet = c.args.set.now in
    let n : ℕ = t.width.columns in
    let k : ColumnSet = c.first_key.result in
    let none : does_some_fix n (deps (rules_of t)) (sets_in c.args.sets.now) ≡ false
    = sym (c.if-some_fixes.ensures ∙ ap (λ (v : List ColumnSet). does_some_fix n (deps (rules_of t)) v) c.sets.ensures) in
    let all : cols c.all.result ≡ columns 0 n = c.all.ensures ∙ ap (λ (w : Width). columns 0 w.columns) c.width.ensures in
    let key : Key (deps (rules_of t)) (columns 0 n) (cols k)
    = subst (λ (v : Cols). Key (deps (rules_of t)) v (cols k)) all
    (subst (λ (v : List Rule). Key (deps v) (cols c.all.result) (cols k)) c.rules.ensures c.first_key.ensures.key) in
    (inr (none, (k, key, c.add.ensures.0)), c.add.ensures.1)
