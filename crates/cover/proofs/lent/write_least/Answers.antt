use Rattle.std.proofs.Common.{◌≡◌, ℕ, ◌+◌, ◌*◌, ◌≤◌, true, List, length, sym, ap, subst, arith}
use Rattle.dependencies.specs.Reads.{rules_of}
use Rattle.dependencies.specs.Rules.{deps}
use Rattle.dependencies.specs.Tables.{is_proper}
use Rattle.dependencies.specs.declared.rules.Rule.{Rule}
use Rattle.cover.specs.Answer.{LeastRow}
use Rattle.cover.specs.Least.{Least}
use Rattle.cover.specs.Ordered.{Narrowed, singles}
use Rattle.cover.proofs.FewRules.{few_cover}
use Rattle.cover.proofs.Written.{written_row}
use Rattle.cover.proofs.lent.write_least.Goals as goal

pub returns : goal.returns
returns c =
    let set = c.args.set.now in
    let n = set.width.columns in
    let ds = deps (rules_of set) in
    let rs = c.rules-rules.result.now in
    let row = c.args.row.now in
    let cover = c.least_cover-cover.result in
    let e = c.rules-rules.ensures in
    let least : Least ds (deps rs) = subst (λ (v : List Rule). Least ds (deps v)) (sym e) c.least_cover-cover.ensures.least in
    let ordered : Narrowed (singles ds) (deps rs) = subst (λ (v : List Rule). Narrowed (singles ds) (deps v)) (sym e) c.least_cover-cover.ensures.ordered in
    let proper : is_proper n (deps rs) ≡ true = subst (λ (v : List Rule). is_proper n (deps v) ≡ true) (sym e) c.least_cover-cover.ensures.proper in
    let room : 1 + 2 * length rs ≤ length row = omega (arith, ap length e, few_cover cover, c.requires) in
    record {
      least = subst (λ (v : List ℕ). LeastRow n ds row (length rs) v) (sym c.write_rules.ensures) (written_row n ds row rs set.width.narrow proper least ordered room);
      few = omega (arith, ap length e, c.least_cover-cover.ensures.few);
    }
