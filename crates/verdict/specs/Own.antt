-- A design that is made is one that the test accepts.
use Rattle.std.specs.Prelude.{◌≡◌, ℕ, ◌<◌, ◌≤◌, List, Ok, Err, Result}
use Rattle.dependencies.specs.Layout.{reading}
use Rattle.dependencies.specs.Told.{done}
use Rattle.schema.specs.Designed.{Designed, DesignTold}
use Rattle.verdict.specs.Check.{Accepted}
use Rattle.verdict.specs.declared.check.CheckFailure.{CheckFailure}
use Rattle.verdict.specs.declared.check.CheckFailure.TheVariants.{Refused, ShortTableau}

-- Whatever is written as a design for rules that can be read is accepted for these rules, with a row for each of its parts.
unfoldable pub OwnAccepted : Type 0
OwnAccepted =
    (rules out : List ℕ) (k : ℕ) (out₁ : List ℕ) (rows : ℕ) → reading rules ≡ done → Designed rules out k out₁ → k ≤ rows → Accepted rules out₁ rows

-- A design is made and tested: it is made as ever, and the test finds nothing against it; the rules or the row are refused as ever; or the
-- design is made and there are fewer rows than it has parts.
abbrev pub OwnTold : (rules out : List ℕ) (rows : ℕ) → Result ℕ CheckFailure → (out₁ : List ℕ) → Type 0
OwnTold rules out rows (Ok k) out₁ = DesignTold rules out (Ok k) out₁ × Accepted rules out₁ rows
OwnTold rules out rows (Err (Refused e)) out₁ = DesignTold rules out (Err e) out₁
OwnTold rules out rows (Err (ShortTableau k)) out₁ = DesignTold rules out (Ok k) out₁ × (rows < k)
