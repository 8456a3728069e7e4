-- From what is told of the parts to what is told of the numbers; and a design is always accepted. Assumes nothing.
use Rattle.std.proofs.Common.{◌≡◌, ℕ, ◌<◌, ◌≤◌, true, List, Ok, Err, Result, sym, refl, ◌∙◌, inl, inr, arith}
use Rattle.dependencies.specs.Layout.{columns_of, rules_of_row, reading}
use Rattle.dependencies.specs.Told.{done, refused, told, condition_number}
use Rattle.dependencies.specs.declared.refusals.Condition.{Condition as Which}
use Rattle.dependencies.specs.declared.refusals.Condition.TheVariants.{Covers, NoneInside, Lossless, RulesKept, ThirdForm}
use Rattle.dependencies.specs.declared.refusals.Refusal.{Refusal}
use Rattle.dependencies.specs.declared.refusals.Refusal.TheVariants.{Columns, RuleCount, Set, ShortRow, KeyRoom, NotADesign, Cells, Present, Broken, Absent, PartFull}
use Rattle.verdict.specs.Check.{Judged, Missed, Accepted, Checked, parts_given}
use Rattle.verdict.specs.Decided.{FirstMissed}
use Rattle.schema.specs.Design.{Design}
use Rattle.verdict.specs.Given.{is_readable}
use Rattle.verdict.specs.declared.check.CheckFailure.{CheckFailure}
use Rattle.verdict.specs.declared.check.CheckFailure.TheVariants.{Refused, ShortTableau}
use Rattle.verdict.proofs.Verdicts.{design_meets}

-- a refusal is not that it is done
apart : {m p : ℕ} → refused m p ≡ done → ⊥
apart {m} {p} q = let z : ◌≡◌ {A = ℕ} 0 1 = cc in omega arith

above : (c : Which) → 0 < condition_number c
above Covers = omega arith
above NoneInside = omega arith
above Lossless = omega arith
above RulesKept = omega arith
above ThirdForm = omega arith

atmost : (c : Which) → condition_number c ≤ 5
atmost Covers = omega arith
atmost NoneInside = omega arith
atmost Lossless = omega arith
atmost RulesKept = omega arith
atmost ThirdForm = omega arith

module _ (rules design : List ℕ) (rows : ℕ) where
  missed_numbers : is_readable (columns_of rules) design ≡ true → (k : ℕ) → FirstMissed (columns_of rules) (rules_of_row rules) (parts_given rules design) k → Missed rules design k
  unfolding FirstMissed
  missed_numbers e k f = record { before = λ j a b. (e, f.0 j a b); missed = λ h. f.1 h.1 }

  pub judged_checked : reading rules ≡ done → is_readable (columns_of rules) design ≡ true → (r : Result (Unit {0}) CheckFailure)
      → Judged (columns_of rules) (rules_of_row rules) (parts_given rules design) rows r → Checked rules design rows r
  judged_checked d e (Ok u) j = record { read = d; readable = e; is_design = j.0; room = j.1 }
  judged_checked d e (Err (Refused x)) j =
      inr (record { read = d; condition = j.0; is = j.1; first = missed_numbers e (condition_number j.0) j.2; room = j.3 })
  judged_checked d e (Err (ShortTableau k)) j = record { read = d; one = (e, j.0); two = (e, j.1); parts = j.2; few = j.3 }

  -- a design is not refused, however few the rows
  pub not_refused : (e : Refusal) → Checked rules design rows (Err (Refused e)) → reading rules ≡ done → is_readable (columns_of rules) design ≡ true
      → Design (columns_of rules) (rules_of_row rules) (parts_given rules design) → ⊥
  not_refused e j d whole is =
      elim j [
        | inl h ↦ never e (sym h ∙ d)
        | inr h ↦ h.first.missed (whole, design_meets (columns_of rules) (rules_of_row rules) (parts_given rules design) is (condition_number h.condition) (above h.condition) (atmost h.condition))
      ]
    where
      never : (e : Refusal) → told e ≡ done → ⊥
      never Columns q = apart q
      never (RuleCount k) q = apart q
      never (Set k) q = apart q
      never (ShortRow k) q = apart q
      never (KeyRoom k) q = apart q
      never (NotADesign k) q = apart q
      never (Cells k) q = apart q
      never Present q = apart q
      never (Broken p k) q = apart q
      never Absent q = apart q
      never (PartFull k) q = apart q

  -- what is a design, with rows enough, is told to be one
  pub accepted_ok : (r : Result (Unit {0}) CheckFailure) → Checked rules design rows r → Accepted rules design rows → r ≡ Ok tt
  accepted_ok (Ok u) j a = refl
  accepted_ok (Err (Refused e)) j a = absurd (not_refused e j a.read a.readable a.is_design)
  accepted_ok (Err (ShortTableau k)) j a = absurd (let x = j.few in let y = a.room in omega arith)
