use Rattle.std.proofs.Common.{◌≡◌, Bool, ◌&&◌, List, [], ◌∷◌, refl, ap, ◌∙◌, rules, tests}
use Rattle.std.specs.List.{list_all}
use Rattle.std.proofs.lemmas.Iterator.{YieldsList-from_slice}
use Rattle.std.proofs.lemmas.Iterator.Search.{all_from_yields_List}
use Rattle.columns.specs.Sets.{cols}
use Rattle.dependencies.specs.Closure.{does_fix, do_follow}
use Rattle.dependencies.specs.Rules.{deps}
use Rattle.dependencies.specs.Tables.{Dep}
use Rattle.dependencies.specs.declared.rules.Rule.{Rule}
use Rattle.schema.specs.Design.{all_rules}
use Rattle.verdict.specs.Given.{given_parts}
use Rattle.verdict.proofs.keeping.given_follow.Goals as goal

abbrev follow : List Dep → Rule → Bool
follow ms r = does_fix ms (cols r.left) (cols r.right)

all_follow : (ms : List Dep) (rs : List Rule) → list_all (follow ms) rs ≡ do_follow ms (deps rs)
unfolding deps
all_follow ms [] = refl
all_follow ms (r ∷ rs) = ap (λ b. follow ms r && b) (all_follow ms rs)

pub returns : goal.returns
returns c =
    let ms = all_rules (given_parts c.args.design) in
    let rs = c.args.rules.now in
    all_from_yields_List (follow ms) _ _ _ c.all.ensures.ran (YieldsList-from_slice rs cc) (λ x b q k. search (rules, tests)) ∙ all_follow ms rs
