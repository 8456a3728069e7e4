use Rattle.std.proofs.Common.{◌≡◌, ℕ, zero, suc, List, ◌∷◌, length, replicate, refl, ap, ◌∙◌, subst, arith}
use Rattle.std.proofs.lemmas.List.Elements.{same_from_all_zip}
use Rattle.columns.specs.Cols.{columns}
use Rattle.columns.specs.Every.{any}
use Rattle.columns.specs.declared.table_width.Width.{Width}
use Rattle.dependencies.specs.Reads.{rules_of}
use Rattle.dependencies.specs.Rules.{deps}
use Rattle.dependencies.specs.Tables.{Row, Dep, agree, zero_row}
use Rattle.verdict.specs.Chase.{tableau}
use Rattle.verdict.specs.Given.{given_parts}
use Rattle.verdict.specs.Sweeps.{Chased, AllQuiet, blank}
use Rattle.verdict.proofs.GivenSmall.{rules_small}
use Rattle.verdict.proofs.Tableaux.{chased_decides}
use Rattle.verdict.proofs.chase.lossless.Goals as goal

all_blank : (k : ℕ) → replicate k (zero_row 16) ≡ blank k
all_blank zero = refl
all_blank (suc k) = ap (λ (v : List Row). zero_row 16 ∷ v) (all_blank k)

pub returns : goal.returns
returns c =
    let set = c.args.rules.now in
    let n = set.width.columns in
    let ds = deps (rules_of set) in
    let ps = given_parts c.args.design in
    let u = c.chase.new.rows in
    let same : deps c.rules.result.now ≡ ds = ap deps c.rules.ensures in
    let steps : Chased ds (tableau 16 0 ps) u
    = subst (λ (v : List Row). Chased ds v u) c.lay_out.ensures (subst (λ (v : List Dep). Chased v c.lay_out.new.rows u) same c.chase.ensures.0) in
    let quiet : AllQuiet ds u = subst (λ (v : List Dep). AllQuiet v u) same c.chase.ensures.1 in
    let decides = chased_decides n 16 ds ps u set.width.narrow (rules_small set) (omega (arith, c.requires.rows_len, c.requires.rows_nonzero)) steps quiet c.has_zero_row-nothing_lost.result
    (c.has_zero_row-nothing_lost.ensures ∙ ap (λ (w : Width). any u (λ x. agree (columns 0 w.columns) (zero_row 16) x)) c.width.ensures) in
    record { decides = decides; cleared = c.fill.ensures.after (λ y k. same_from_all_zip _ _ y k.whole (λ a b r. r)) ∙ all_blank (length u) ∙ ap blank (c.chase.auto.rows ∙ c.lay_out.auto.rows) }
