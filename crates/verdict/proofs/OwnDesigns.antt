-- A design that is made is accepted, and nothing is told against it.
use Rattle.std.proofs.Common.{◌≡◌, ℕ, true, leb, List, length, get_or, drop, Ok, Err, Result, sym, refl, ◌∙◌, subst, arith}
use Rattle.std.proofs.lemmas.Bool.{and_from, le-leb}
use Rattle.dependencies.specs.Layout.{columns_of, reading}
use Rattle.dependencies.specs.Lent.{row_told}
use Rattle.dependencies.specs.Told.{Told, done, refused, or_else}
use Rattle.schema.specs.Designed.{Designed, DesignTold}
use Rattle.schema.specs.Layout.{extent_of_design, parts_fit}
use Rattle.schema.proofs.PartEnds.{length_parts_in}
use Rattle.verdict.specs.Check.{Checked, parts_given}
use Rattle.verdict.specs.Given.{is_readable}
use Rattle.verdict.specs.Own.{OwnAccepted, OwnTold}
use Rattle.verdict.specs.declared.check.CheckFailure.{CheckFailure}
use Rattle.verdict.specs.declared.check.CheckFailure.TheVariants.{Refused, ShortTableau}
use Rattle.verdict.proofs.Checking.{not_refused}

-- where both checks pass, the first does
first_done : (s t : Told) → or_else s t ≡ done → s ≡ done
first_done done t e = refl
first_done (refused k p) t e = e

module _ (rules out : List ℕ) (k : ℕ) (out₁ : List ℕ) (d : Designed rules out k out₁) where
  pub made_readable : is_readable (columns_of rules) out₁ ≡ true
  made_readable =
      let a = d.fits in
      let b = d.same_length in
      and_from (leb (extent_of_design out₁) (length out₁)) (parts_fit (columns_of rules) (get_or out₁ 0 0) (drop 1 out₁))
      (le-leb (extent_of_design out₁) (length out₁) (omega arith)) d.small

  pub made_count : length (parts_given rules out₁) ≡ k
  made_count = length_parts_in (columns_of rules) (get_or out₁ 0 0) (drop 1 out₁) ∙ sym d.count

pub own_accepted : OwnAccepted
unfolding OwnAccepted
own_accepted rules out k out₁ rows read d enough =
    record {
      read = read;
      readable = made_readable rules out k out₁ d;
      is_design = d.design;
      room = let e = made_count rules out k out₁ d in omega arith;
    }

-- what is told of the test, with the count of parts in place of the yes
abbrev pub counted : ℕ → Result (Unit {0}) CheckFailure → Result ℕ CheckFailure
counted k (Ok u) = Ok k
counted k (Err e) = Err e

pub own_told : (rules out : List ℕ) (rows k : ℕ) (out₁ : List ℕ) → DesignTold rules out (Ok k) out₁ → (r : Result (Unit {0}) CheckFailure)
    → Checked rules out₁ rows r → OwnTold rules out rows (counted k r) out₁
own_told rules out rows k out₁ m (Ok u) c = (m, c)
own_told rules out rows k out₁ m (Err (Refused e)) c =
    absurd (not_refused rules out₁ rows e c (first_done (reading rules) (row_told out) m.0) (made_readable rules out k out₁ m.1) m.1.design)
own_told rules out rows k out₁ m (Err (ShortTableau j)) c =
    let same : j ≡ k = c.parts ∙ made_count rules out k out₁ m.1 in
    let few = c.few in
    let many = made_count rules out k out₁ m.1 in
    subst (λ (v : ℕ). OwnTold rules out rows (Err (ShortTableau v)) out₁) (sym same) (m, omega arith)
