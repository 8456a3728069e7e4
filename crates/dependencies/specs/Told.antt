-- What is told of a request: that it is done, or the number and the place of the first refusal that applies.
use Rattle.std.specs.Prelude.{ℕ, ◌+◌, ◌*◌, List, ◌++◌, codes, decimal}
use Rattle.dependencies.specs.declared.refusals.Condition.{Condition}
use Rattle.dependencies.specs.declared.refusals.Condition.TheVariants.{Covers, NoneInside, Lossless, RulesKept, ThirdForm}
use Rattle.dependencies.specs.declared.refusals.Refusal.{Refusal}
use Rattle.dependencies.specs.declared.refusals.Refusal.TheVariants.{Columns, RuleCount, Set, ShortRow, KeyRoom, NotADesign, Cells, Present, Broken, Absent, PartFull}

pub data Told : Type 0 where
  done : Told
  refused : ℕ → ℕ → Told

abbrev pub condition_number : Condition → ℕ
condition_number Covers = 1
condition_number NoneInside = 2
condition_number Lossless = 3
condition_number RulesKept = 4
condition_number ThirdForm = 5

-- the number and the place of each refusal
abbrev pub told : Refusal → Told
told Columns = refused 1 0
told (RuleCount k) = refused 2 k
told (Set i) = refused 3 i
told (ShortRow k) = refused 4 k
told (KeyRoom k) = refused 5 k
told (NotADesign c) = refused 6 (condition_number c)
told (Cells k) = refused 7 k
told Present = refused 8 0
told (Broken p r) = refused 9 (p * 64 + r)
told Absent = refused 10 0
told (PartFull p) = refused 11 p

abbrev pub number : Told → ℕ
number done = 0
number (refused k p) = k

abbrev pub place : Told → ℕ
place done = 0
place (refused k p) = p

-- of two checks the first that refuses is told
abbrev pub or_else : Told → Told → Told
or_else done t = t
or_else (refused k p) t = refused k p

-- a refusal as text
abbrev pub shown_refusal : Told → List ℕ
shown_refusal t = codes "refused " ++ (decimal (number t) ++ (codes " at " ++ decimal (place t)))
