-- The chase in whatever order: faults mended one after the other, and what a sweep over the tableau leaves.
use Rattle.std.specs.Prelude.{◌≡◌, ℕ, zero, suc, ◌<◌, Bool, true, false, ◌⊎◌, List, [], ◌∷◌, ◌++◌, length, drop, slice_index, slice_index_or}
use Rattle.columns.specs.Members.{In}
use Rattle.dependencies.specs.Tables.{Row, Dep, agree, zero_row}
use Rattle.verdict.specs.Chase.{Fault, faults, mend, total}
use Rattle.verdict.specs.declared.chase.Merge.{Merge}

abbrev pub mend_all : List Fault → List Row → List Row
mend_all [] t = t
mend_all (f ∷ fs) t = mend_all fs (mend f t)

-- each is a fault of the table that those before it leave
abbrev pub InTurn : List Dep → List Fault → List Row → Type 0
InTurn ds [] t = Unit {0}
InTurn ds (f ∷ fs) t = In f (faults ds t) × InTurn ds fs (mend f t)

-- u is what some mendings, each of a fault, make of t
abbrev pub Chased : List Dep → List Row → List Row → Type 0
Chased ds t u = (fs : List Fault) × InTurn ds fs t × (mend_all fs t ≡ u)

-- a sweep has made u of t by mendings: it says whether it changed anything, and if not, the table is quiet where it looked
pub record Sweep (ds : List Dep) (Quiet : Type 0) (t u : List Row) (changed : Bool) : Type 0 where
  pub steps : Chased ds t u
  pub moved : changed ≡ true → total u < total t
  pub still : changed ≡ false → (u ≡ t) × Quiet

-- rows i and j obey the rule
abbrev pub PairQuiet : Dep → List Row → ℕ → ℕ → Type 0
PairQuiet d t i j = agree d.left (slice_index_or t i []) (slice_index_or t j []) ≡ true → agree d.right (slice_index_or t i []) (slice_index_or t j []) ≡ true

-- row i and each row behind it, up to k, do
abbrev pub RowQuiet : Dep → List Row → ℕ → ℕ → Type 0
RowQuiet d t k i = (j : ℕ) → i < j → j < k → PairQuiet d t i j

-- the first k rows do, each with each behind it
abbrev pub RuleQuiet : Dep → List Row → ℕ → Type 0
RuleQuiet d t k = (i : ℕ) → i < k → RowQuiet d t (length t) i

abbrev pub AllQuiet : List Dep → List Row → Type 0
AllQuiet ds t = (d : Dep) → In d ds → RuleQuiet d t (length t)

abbrev pub fault : Merge → Fault
fault m = record { column = m.column.index; low = m.low; high = m.high }

-- the fault says which number of the column is the lower one, and that they are two
abbrev pub Between : Fault → Row → Row → Type 0
Between f r s =
    (f.low < f.high)
    × (((f.low ≡ slice_index r f.column) × (slice_index s f.column ≡ f.high)) ⊎ ((f.low ≡ slice_index s f.column) × (slice_index r f.column ≡ f.high)))

-- where rows i and j differ in the column, the larger number has become the smaller
abbrev pub Merged : ℕ → ℕ → ℕ → List Row → List Row → Bool → Type 0
Merged c i j t u changed =
    (changed ≡ false → (u ≡ t) × (slice_index (slice_index_or t i []) c ≡ slice_index (slice_index_or t j []) c))
    × (changed ≡ true → (f : Fault) × (f.column ≡ c) × (u ≡ mend f t) × Between f (slice_index_or t i []) (slice_index_or t j []))

-- so many rows of 16 cells, all 0
abbrev pub blank : ℕ → List Row
blank zero = []
blank (suc k) = zero_row 16 ∷ blank k

-- the lent rows are as they were, or the first k have been worked in and are all 0
abbrev pub RowsLeft : ℕ → List Row → List Row → Type 0
RowsLeft k t u = (u ≡ t) ⊎ (u ≡ blank k ++ drop k t)
