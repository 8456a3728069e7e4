-- What the entry that makes a design answers, and all that the lent row holds afterwards.
use Rattle.std.specs.Prelude.{◌≡◌, ℕ, ◌+◌, ◌*◌, ◌≤◌, true, List, length, drop, Ok, Err, Result, slice_index}
use Rattle.dependencies.specs.Layout.{columns_of, count_of, rules_of_row}
use Rattle.dependencies.specs.Lent.{answering}
use Rattle.dependencies.specs.Told.{done, told}
use Rattle.dependencies.specs.declared.refusals.Refusal.{Refusal}
use Rattle.schema.specs.Design.{Design}
use Rattle.schema.specs.Layout.{design_in, extent_of_design, parts_fit}

-- a design of k parts for the lent rules stands at the front of the row out₁, and past it the row is as it was
pub record Designed (rules out : List ℕ) (k : ℕ) (out₁ : List ℕ) : Type 0 where
  pub count : k ≡ slice_index out₁ 0
  pub design : Design (columns_of rules) (rules_of_row rules) (design_in (columns_of rules) out₁)
  pub few : length (design_in (columns_of rules) out₁) ≤ columns_of rules * count_of rules + 1
  pub small : parts_fit (columns_of rules) (slice_index out₁ 0) (drop 1 out₁) ≡ true
  pub fits : extent_of_design out₁ ≤ length out
  pub past : drop (extent_of_design out₁) out₁ ≡ drop (extent_of_design out₁) out
  pub same_length : length out₁ ≡ length out

-- the answer: how many parts the design in the row has; or the first refusal that applies, and the row is as it was
abbrev pub DesignTold : (rules out : List ℕ) → Result ℕ Refusal → (out₁ : List ℕ) → Type 0
DesignTold rules out (Ok k) out₁ = (answering rules out ≡ done) × Designed rules out k out₁
DesignTold rules out (Err e) out₁ = (told e ≡ answering rules out) × (out₁ ≡ out)
