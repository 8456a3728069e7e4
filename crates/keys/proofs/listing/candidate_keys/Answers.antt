use Rattle.std.proofs.Common.{length, refl, ap, ◌∙◌, inr}
use Rattle.std.proofs.lemmas.Result.{err_from_is_err_and}
use Rattle.columns.specs.Cols.{set_in}
use Rattle.columns.specs.Sets.{cols}
use Rattle.dependencies.specs.Reads.{rules_of}
use Rattle.dependencies.specs.Rules.{deps}
use Rattle.keys.proofs.Written.{set_fits, set_told, told_keys}
use Rattle.keys.proofs.listing.candidate_keys.Goals as goal

pub returns-in_err-target : goal.returns-in_err-target
returns-in_err-target c =
    let t = c.in_ok-rules.rules in
    let read = c.in_ok-rules.ensures in
    let bad = c.in_err-target.ensures in
    let p = err_from_is_err_and c.from_residual-in_err-target.result c.from_residual-in_err-target.ensures.1 in
    rw (p.1, p.2) (inr (set_told c.args.lent.now c.args.set t.width.columns (length (rules_of t)) read.0 read.1 read.2 c.in_err-target.field-0.0 bad.0 bad.1, refl))

pub returns : goal.returns
returns c =
    let xs = c.args.lent.now in
    let t = c.in_ok-rules.rules in
    let read = c.in_ok-rules.ensures in
    let good = c.in_ok-target.ensures in
    told_keys xs c.args.set (deps c.rules.result.now) (cols c.in_ok-target.target) c.args.out.now c.write_keys.result c.write_keys.new.out
    (set_fits xs c.args.set t.width.columns (length (rules_of t)) read.0 read.1 read.2 good.0)
    (ap deps c.rules.ensures ∙ read.3) (good.1 ∙ ap (λ v. set_in 0 v c.args.set) read.1) c.write_keys.ensures
