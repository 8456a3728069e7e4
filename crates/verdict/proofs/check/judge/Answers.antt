use Rattle.std.proofs.Common.{◌≡◌, ℕ, ◌-◌, ◌<◌, ◌≤◌, List, ◌++◌, length, take, drop, sym, refl, ap, ◌∙◌, subst, inl, inr, arith, length-take}
use Rattle.std.specs.Prelude.{Result, Ok, Err}
use Rattle.columns.specs.declared.table_width.Width.{Width}
use Rattle.dependencies.specs.Reads.{rules_of}
use Rattle.dependencies.specs.Rules.{deps}
use Rattle.dependencies.specs.Tables.{Row, Dep}
use Rattle.dependencies.specs.declared.refusals.Condition.TheVariants.{Covers, NoneInside, Lossless, RulesKept, ThirdForm}
use Rattle.dependencies.specs.Told.{condition_number}
use Rattle.dependencies.specs.declared.refusals.Condition.{Condition as Which}
use Rattle.dependencies.specs.declared.refusals.Refusal.TheVariants.{NotADesign}
use Rattle.verdict.specs.declared.check.CheckFailure.{CheckFailure}
use Rattle.verdict.specs.declared.check.CheckFailure.TheVariants.{Refused}
use Rattle.verdict.specs.Check.{Judged}
use Rattle.verdict.specs.Decided.{Condition, FirstMissed}
use Rattle.schema.specs.Design.{Part, KeepsRules, IsThirdForm}
use Rattle.verdict.specs.Given.{given_parts}
use Rattle.verdict.specs.Sweeps.{blank}
use Rattle.verdict.specs.declared.given_design.GivenDesign.{GivenDesign}
use Rattle.schema.proofs.PartEnds.{length_parts_in}
use Rattle.verdict.proofs.Judging.{two_holds, some_parts, missed_one, missed_two, missed_three, missed_four, missed_five, meets_all}
use Rattle.verdict.proofs.check.judge.Goals as goal

as_many : (g : GivenDesign) → length (given_parts g) ≡ g.count
as_many g = length_parts_in g.width.columns g.count g.numbers.now

enough : (g : GivenDesign) (rows : ℕ) → g.count ≤ rows → length (given_parts g) ≤ rows
enough g rows l = let e = as_many g in omega arith

-- the rows of the parts are all 0, and the others stand as they stood
cleared : (g : GivenDesign) (t part : List Row) → g.count ≤ length t → part ≡ blank (length (take (g.count - 0) t))
    → part ++ drop (g.count - 0) t ≡ blank (length (given_parts g)) ++ drop (length (given_parts g)) t
cleared g t part l e =
    let z : g.count - 0 ≡ length (given_parts g) = (let q = as_many g in omega arith) in
    let m : length (take (g.count - 0) t) ≡ length (given_parts g) = (let q = length-take (g.count - 0) t in omega arith) in
    ap (λ (v : List Row). v ++ drop (g.count - 0) t) (e ∙ ap blank m) ∙ ap (λ (k : ℕ). blank (length (given_parts g)) ++ drop k t) z

told_missed : (n : ℕ) (ds : List Dep) (ps : List Part) (rows : ℕ) (which : Which) (r : Result (Unit {0}) CheckFailure) → r ≡ Err (Refused (NotADesign which))
    → FirstMissed n ds ps (condition_number which) → (2 < condition_number which → length ps ≤ rows) → Judged n ds ps rows r
told_missed n ds ps rows which r e f room = subst (λ (x : Result (Unit {0}) CheckFailure). Judged n ds ps rows x) (sym e) (which, refl, f, room)

pub returns-then-not-covers : goal.returns-then-not-covers
returns-then-not-covers c =
    let n = c.args.rules.now.width.columns in
    let ds = deps (rules_of c.args.rules.now) in
    let ps = given_parts c.args.design in
    record { rows = inl refl; told = told_missed n ds ps (length c.args.tableau.now) Covers _ c.missed.ensures (missed_one n ds ps (λ h. c.if-not-covers.ensures ds (subst (λ (w : Width). Condition w.columns ds ps 1) c.requires h))) (λ l. absurd (omega arith)) }

pub returns-then-not-none_inside : goal.returns-then-not-none_inside
returns-then-not-none_inside c =
    let n = c.args.rules.now.width.columns in
    let ds = deps (rules_of c.args.rules.now) in
    let ps = given_parts c.args.design in
    let one : Condition n ds ps 1 = subst (λ (w : Width). Condition w.columns ds ps 1) (sym c.requires) (c.if-not-covers.ensures ds) in
    let two = sym c.if-not-none_inside.ensures in
    record { rows = inl refl; told = told_missed n ds ps (length c.args.tableau.now) NoneInside _ c.missed-then-not-none_inside.ensures (missed_two n ds ps one two) (λ l. absurd (omega arith)) }

pub returns-then-tableau-parts : goal.returns-then-tableau-parts
returns-then-tableau-parts c =
    let n = c.args.rules.now.width.columns in
    let ds = deps (rules_of c.args.rules.now) in
    let ps = given_parts c.args.design in
    let one : Condition n ds ps 1 = subst (λ (w : Width). Condition w.columns ds ps 1) (sym c.requires) (c.if-not-covers.ensures ds) in
    let two = sym c.if-not-none_inside.ensures in
    let e = as_many c.args.design in
    record { rows = inl refl; told = (one, two_holds n ds ps two, sym e, omega (arith, c.if-tableau-parts.true)) }

pub lossless-requires : goal.lossless-requires
lossless-requires c =
    let n = c.args.rules.now.width.columns in
    let ds = deps (rules_of c.args.rules.now) in
    let ps = given_parts c.args.design in
    let one : Condition n ds ps 1 = subst (λ (w : Width). Condition w.columns ds ps 1) (sym c.requires) (c.if-not-covers.ensures ds) in
    let e = as_many c.args.design in
    let some· = some_parts n ds ps one in
    let rows = c.args.tableau.now in
    let k = c.args.design.count in
    let z : k - 0 ≤ length rows = omega (arith, c.if-tableau-parts.false) in
    let t = length-take (k - 0) rows in
    record { rows_len = omega arith; rows_nonzero = omega arith; columns_value = ap (λ (w : Width). w.columns) c.requires }

pub returns-then-not-lossless : goal.returns-then-not-lossless
returns-then-not-lossless c =
    let n = c.args.rules.now.width.columns in
    let ds = deps (rules_of c.args.rules.now) in
    let ps = given_parts c.args.design in
    let one : Condition n ds ps 1 = subst (λ (w : Width). Condition w.columns ds ps 1) (sym c.requires) (c.if-not-covers.ensures ds) in
    let two = sym c.if-not-none_inside.ensures in
    let room = enough c.args.design (length c.args.tableau.now) c.if-tableau-parts.false in
    record { rows = inr (cleared c.args.design c.args.tableau.now c.lossless.new.rows c.if-tableau-parts.false c.lossless.ensures.cleared); told = told_missed n ds ps (length c.args.tableau.now) Lossless _ c.missed-then-not-lossless.ensures (missed_three n ds ps one two c.if-not-lossless.ensures.decides) (λ l. room) }

pub returns-then-not-keeps_rules : goal.returns-then-not-keeps_rules
returns-then-not-keeps_rules c =
    let n = c.args.rules.now.width.columns in
    let ds = deps (rules_of c.args.rules.now) in
    let ps = given_parts c.args.design in
    let one : Condition n ds ps 1 = subst (λ (w : Width). Condition w.columns ds ps 1) (sym c.requires) (c.if-not-covers.ensures ds) in
    let two = sym c.if-not-none_inside.ensures in
    let room = enough c.args.design (length c.args.tableau.now) c.if-tableau-parts.false in
    let same : deps c.rules.result.now ≡ ds = ap deps c.rules.ensures in
    record { rows = inr (cleared c.args.design c.args.tableau.now c.lossless.new.rows c.if-tableau-parts.false c.lossless.ensures.cleared); told = told_missed n ds ps (length c.args.tableau.now) RulesKept _ c.missed-then-not-keeps_rules.ensures (missed_four n ds ps one two c.if-not-lossless.ensures.decides (λ k. c.if-not-keeps_rules.ensures (subst (λ (v : List Dep). KeepsRules v ps) (sym same) k))) (λ l. room) }

pub returns-then-not-third_forms : goal.returns-then-not-third_forms
returns-then-not-third_forms c =
    let n = c.args.rules.now.width.columns in
    let ds = deps (rules_of c.args.rules.now) in
    let ps = given_parts c.args.design in
    let one : Condition n ds ps 1 = subst (λ (w : Width). Condition w.columns ds ps 1) (sym c.requires) (c.if-not-covers.ensures ds) in
    let two = sym c.if-not-none_inside.ensures in
    let room = enough c.args.design (length c.args.tableau.now) c.if-tableau-parts.false in
    let same : deps c.rules.result.now ≡ ds = ap deps c.rules.ensures in
    let again : deps c.rules-2.result.now ≡ ds = ap deps c.rules-2.ensures in
    let kept = subst (λ (v : List Dep). KeepsRules v ps) same c.if-not-keeps_rules.ensures in record {
      rows = inr (cleared c.args.design c.args.tableau.now c.lossless.new.rows c.if-tableau-parts.false c.lossless.ensures.cleared);
      told =
          told_missed n ds ps (length c.args.tableau.now) ThirdForm _ c.missed-then-not-third_forms.ensures
          (missed_five n ds ps one two c.if-not-lossless.ensures.decides kept
          (λ t. c.if-not-third_forms.ensures (λ p h. subst (λ (v : List Dep). IsThirdForm v p.cols) (sym again) (t p h))))
          (λ l. room);
    }

pub returns : goal.returns
returns c =
    let n = c.args.rules.now.width.columns in
    let ds = deps (rules_of c.args.rules.now) in
    let ps = given_parts c.args.design in
    let one : Condition n ds ps 1 = subst (λ (w : Width). Condition w.columns ds ps 1) (sym c.requires) (c.if-not-covers.ensures ds) in
    let two = sym c.if-not-none_inside.ensures in
    let room = enough c.args.design (length c.args.tableau.now) c.if-tableau-parts.false in
    let same : deps c.rules.result.now ≡ ds = ap deps c.rules.ensures in
    let again : deps c.rules-2.result.now ≡ ds = ap deps c.rules-2.ensures in
    let kept = subst (λ (v : List Dep). KeepsRules v ps) same c.if-not-keeps_rules.ensures in record {
      rows = inr (cleared c.args.design c.args.tableau.now c.lossless.new.rows c.if-tableau-parts.false c.lossless.ensures.cleared);
      told = (
        meets_all n ds ps one two c.if-not-lossless.ensures.decides kept
            (λ p h. subst (λ (v : List Dep). IsThirdForm v p.cols) again (c.if-not-third_forms.ensures p h)),
        room,
      );
    }
