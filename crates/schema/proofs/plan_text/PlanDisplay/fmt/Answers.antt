use Rattle.std.proofs.Common.{◌≡◌, ℕ, ◌+◌, List, [], ◌∷◌, ◌++◌, length, get_or, drop, sym, refl, ap, ◌∙◌, add-one, arith, drop-cons}
use Rattle.std.proofs.Output.{has_written_of_eq}
use Rattle.std.proofs.lemmas.List.{drop_all}
use Rattle.columns.specs.declared.set.ColumnSet.{ColumnSet}
use Rattle.dependencies.specs.Rules.{deps}
use Rattle.dependencies.specs.declared.rules.Rule.{Rule}
use Rattle.schema.specs.Made.{parts_of}
use Rattle.schema.specs.Plans.{plan_sets, plan_parts}
use Rattle.schema.specs.Sets.{sets_of}
use Rattle.schema.specs.Shown.{text_of_part, part_of}
use Rattle.schema.specs.Writing.{left_in}
use Rattle.cover.proofs.FewRules.{few_cover}
use Rattle.schema.proofs.PlanText.{parts_left, none_lined, one_lined, all_lined}
use Rattle.schema.proofs.plan_text.PlanDisplay.fmt.Goals as goal

pub all-rest-requires : goal.all-rest-requires
all-rest-requires g c = omega (arith, ap length c.rules.ensures, few_cover c.args.self.now.cover)

pub loop-set-init : goal.loop-set-init
loop-set-init g c =
    let p = c.args.self.now in
    none_lined g.W.Write.write_str_gives c.args.f.now (parts_left (left_in c.all-rest.result) (plan_sets p)) (plan_parts p)
    (ap (λ (v : List Rule). parts_of (deps v) (sets_of (plan_sets p))) (c.all-rest.ensures ∙ c.rules.ensures))

pub loop-set-preserved : goal.loop-set-preserved
loop-set-preserved g c =
    let took = g.W.Write.write_str_gives in
    let p = c.args.self.now in
    let xs : List ColumnSet = c.sets-set-items.result.now in
    let i = c.loop-set.set-index in
    let rest : List Rule = left_in c.loop-set.rest in
    let s : ColumnSet = c.set-item.result in
    let is = c.set-item.is in
    let here : drop i xs ≡ s ∷ drop (i + 1) xs
    = drop-cons xs i s c.loop-set-test.true ∙ ap (λ (k : ℕ). get_or xs i s ∷ drop k xs) (sym (add-one i)) ∙ ap (λ (x : ColumnSet). x ∷ drop (i + 1) xs) (sym is) in
    let first : drop i (plan_sets p) ≡ s ∷ drop (i + 1) (plan_sets p)
    = ap (drop i) (sym c.sets-set-items.ensures) ∙ here ∙ ap (λ (v : List ColumnSet). s ∷ drop (i + 1) v) c.sets-set-items.ensures in
    one_lined took c.args.f.now c.loop-set.f c.writeln.new.self rest (left_in c.take_out.new.self) s
    (drop i (plan_sets p)) (drop (i + 1) (plan_sets p)) (plan_parts p) first
    c.take_out.ensures c.loop-set.invariant
    (λ plain.
    has_written_of_eq took c.loop-set.f _ _ c.writeln.new.self
    (ap (λ (v : List Rule). text_of_part (part_of v s) ++ 10 ∷ []) c.rules-in-loop-set.ensures)
    (c.in_ok-writeln.ensures.writes plain refl))

pub returns-clause-writes : goal.returns-clause-writes
returns-clause-writes g c plain e =
    let p = c.args.self.now in
    all_lined g.W.Write.write_str_gives c.args.f.now c.loop-set.f (left_in c.loop-set.rest) (drop c.loop-set.set-index (plan_sets p)) (plan_parts p)
    (ap (drop c.loop-set.set-index) (sym c.sets-set-items.ensures) ∙ drop_all c.loop-set.set-index c.sets-set-items.result.now c.loop-set-test.false)
    c.loop-set.invariant plain
