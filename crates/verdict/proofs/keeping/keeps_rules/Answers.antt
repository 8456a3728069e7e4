use Rattle.std.proofs.Common.{◌≡◌, Bool, true, false, ◌&&◌, List, sym, ◌∙◌}
use Rattle.std.proofs.lemmas.Bool.{true≢false, and_parts, and_from}
use Rattle.columns.specs.Cols.{all_in}
use Rattle.columns.specs.Every.{every}
use Rattle.columns.proofs.Everyone.{every_at, every_from}
use Rattle.dependencies.specs.Closure.{does_fix, do_follow}
use Rattle.dependencies.specs.Rules.{deps}
use Rattle.dependencies.specs.Tables.{Dep}
use Rattle.verdict.specs.Deciding.{Decides}
use Rattle.schema.specs.Design.{Part, all_rules, KeepsRules}
use Rattle.verdict.specs.Given.{given_parts}
use Rattle.verdict.specs.Judge.{is_own}
use Rattle.verdict.specs.Kept.{does_stand}
use Rattle.verdict.proofs.Conditions.{keeps_to, keeps_from}
use Rattle.schema.proofs.Lossless.{rule_of_part, part_has_rule}
use Rattle.verdict.proofs.keeping.keeps_rules.Goals as goal

module _ (ds : List Dep) (ps : List Part) where
  abbrev stand : Part → Bool
  stand p = every p.rules (does_stand ds p.cols)

  abbrev lies : Part → Dep → Bool
  lies p d = all_in d.left p.cols && all_in d.right p.cols

  abbrev fixed : Dep → Bool
  fixed d = does_fix ds d.left d.right

  -- the rules are kept exactly if the own ones stand and the given ones follow
  kept : every ps stand ≡ true → do_follow (all_rules ps) ds ≡ true → KeepsRules ds ps
  kept a b =
      keeps_to ds ps
      (and_from (do_follow (all_rules ps) ds) (do_follow ds (all_rules ps) && is_own ps) b
      (and_from (do_follow ds (all_rules ps)) (is_own ps)
      (every_from (all_rules ps) fixed (λ d h.
      let p = rule_of_part ps d h in
      (and_parts (lies p.0 d) (fixed d) (every_at p.0.rules (does_stand ds p.0.cols) (every_at ps stand a p.0 p.1) d p.2)).1))
      (every_from ps (λ q. every q.rules (lies q)) (λ p h.
      every_from p.rules (lies p) (λ d i. (and_parts (lies p d) (fixed d) (every_at p.rules (does_stand ds p.cols) (every_at ps stand a p h) d i)).0)))))

  keeps : KeepsRules ds ps → (every ps stand ≡ true) × (do_follow (all_rules ps) ds ≡ true)
  keeps k =
      let a = and_parts (do_follow (all_rules ps) ds) (do_follow ds (all_rules ps) && is_own ps) (keeps_from ds ps k) in
      let b = and_parts (do_follow ds (all_rules ps)) (is_own ps) a.1 in (
        every_from ps stand (λ p h.
            every_from p.rules (does_stand ds p.cols) (λ d i.
            and_from (lies p d) (fixed d) (every_at p.rules (lies p) (every_at ps (λ q. every q.rules (lies q)) b.1 p h) d i)
            (every_at (all_rules ps) fixed b.0 d (part_has_rule ps p d h i)))),
        a.0,
      )

  decided : every ps stand ≡ true → (r : Bool) → r ≡ do_follow (all_rules ps) ds → Decides (KeepsRules ds ps) r
  decided a true e = kept a (sym e)
  decided a false e = λ k. true≢false (sym (keeps k).1 ∙ sym e)

pub returns-then-not-all_stand : goal.returns-then-not-all_stand
returns-then-not-all_stand c =
    λ k. true≢false (sym (keeps (deps c.args.rules.now) (given_parts c.args.design) k).0 ∙ sym c.if-not-all_stand.ensures)

pub returns : goal.returns
returns c =
    decided (deps c.args.rules.now) (given_parts c.args.design) (sym c.if-not-all_stand.ensures) c.given_follow.result c.given_follow.ensures
