use Rattle.std.proofs.Common.{arith}
use Rattle.cover.specs.Held.{cover_rules}
use Rattle.dependencies.specs.Reads.{rules_of}
use Rattle.dependencies.specs.Rules.{deps}
use Rattle.schema.specs.Sets.{sets_in}
use Rattle.schema.proofs.Fitting.{all_planned}
use Rattle.schema.proofs.designing.design.Goals as goal

pub returns : goal.returns
returns c =
    let t = c.args.set.now in
    let cover = c.least_cover-cover in
    let merged = c.merge_left_sides-sets in
    let p = c.add_key.new.sets in
    let all =
    all_planned t.width.columns (deps (rules_of t)) (cover_rules cover.result) (sets_in merged.result) (sets_in p) cover.ensures.proper cover.ensures.least
    merged.ensures.0 c.add_key.ensures.0 in
    record {
      design = all.0;
      few = omega (arith, c.add_key.ensures.1, merged.ensures.1, cover.ensures.few);
      small_rules = all.1;
      small_sets = all.2;
    }
