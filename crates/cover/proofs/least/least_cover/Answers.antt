use Rattle.std.proofs.Common.{◌≡◌, ◌+◌, ◌≤◌, true, List, ◌++◌, length, sym, ap, ◌∙◌, subst, mul-le-mul, arith}
use Rattle.std.proofs.lemmas.List.{length-take, length-drop}
use Rattle.bounded.specs.Items.{items}
use Rattle.dependencies.specs.Reads.{rules_of}
use Rattle.dependencies.specs.Rules.{deps}
use Rattle.dependencies.specs.Tables.{is_proper}
use Rattle.dependencies.specs.declared.rules.Rule.{Rule}
use Rattle.dependencies.specs.declared.held.RuleSet.{RuleSet}
use Rattle.dependencies.proofs.Smalls.{few_rules}
use Rattle.cover.specs.Held.{most_rules}
use Rattle.cover.specs.Least.{Least}
use Rattle.cover.specs.Ordered.{Narrowed, singles}
use Rattle.cover.specs.Queued.{queued, spare}
use Rattle.cover.specs.declared.queue.Queue.{Queue}
use Rattle.cover.proofs.LeastMade.{trimmed_least, kept_ordered, kept_fine, kept_few}
use Rattle.cover.proofs.ProperRules.{fines_proper}
use Rattle.cover.proofs.least.least_cover.Goals as goal

at_most : (set : RuleSet) → most_rules set ≤ 512
at_most set = mul-le-mul set.width.narrow (few_rules set)

length_queued : (q : Queue Rule) → length (queued q) + spare q ≤ 1024
length_queued q = omega (arith, length-drop q.first (items q.pushed), length-take q.pushed.count q.pushed.cells, q.pushed.within)

pub extend_from_slice-requires : goal.extend_from_slice-requires
extend_from_slice-requires c =
    let few = kept_few (deps (rules_of c.args.set.now)) (queued c.split-queue.result) (queued c.drop_redundant.new.queue) c.split-queue.ensures.says c.drop_redundant.ensures in
    omega (arith, ap length c.items.ensures, ap length c.new-rules.ensures, few, length_queued c.split-queue.result, c.split-queue.ensures.room, at_most c.args.set.now)

pub returns : goal.returns
returns c =
    let set = c.args.set.now in
    let ds = deps (rules_of set) in
    let fs = queued c.split-queue.result in
    let kept = queued c.drop_redundant.new.queue in
    let e = c.extend_from_slice.ensures ∙ ap (λ (v : List Rule). v ++ c.items.result.now) c.new-rules.ensures ∙ c.items.ensures in
    let a = c.split-queue.ensures.says in
    let t = c.drop_redundant.ensures in
    record {
      least = subst (λ (v : List Rule). Least ds (deps v)) (sym e) (trimmed_least ds fs kept a t);
      ordered = subst (λ (v : List Rule). Narrowed (singles ds) (deps v)) (sym e) (kept_ordered ds fs kept a t);
      proper = subst (λ (v : List Rule). is_proper set.width.columns (deps v) ≡ true) (sym e) (fines_proper set.width.columns ds (deps kept) set.proper (kept_fine ds fs kept a t));
      few = omega (arith, ap length e, kept_few ds fs kept a t, length_queued c.split-queue.result, c.split-queue.ensures.room);
    }
