-- Whether parts lose nothing, by computing: one row for each part, made more and more equal by the rules. Assumes nothing: these are definitions.
use Rattle.std.specs.Prelude.{ℕ, zero, suc, ◌+◌, Bool, List, [], ◌∷◌, ◌==◌, nat_lt, slice_index}
use Rattle.dependencies.specs.Tables.{Row, Dep, agree, draw}
use Rattle.columns.specs.Cols.{Cols, has, columns, pick}
use Rattle.schema.specs.Design.{Part}
use Rattle.columns.specs.Every.{any, each}

-- 0 in the columns of p and v in the others
abbrev pub first_cell : Cols → ℕ → ℕ → ℕ
first_cell p v c = pick (has p c) 0 v

-- one row a part, each with a number of its own
abbrev pub tableau : ℕ → ℕ → List Part → List Row
tableau n i [] = []
tableau n i (p ∷ ps) = draw (first_cell p.cols (suc i)) 0 n ∷ tableau n (suc i) ps

-- two numbers of a column that the rules make one
pub record Fault : Type 0 where
  pub column : ℕ
  pub low : ℕ
  pub high : ℕ

abbrev pub fault_in : Row → Row → ℕ → List Fault
fault_in r s c = pick (nat_lt (slice_index r c) (slice_index s c)) (record { column = c; low = slice_index r c; high = slice_index s c } ∷ []) []

abbrev pub faults_between : Dep → Row → Row → List Fault
faults_between d r s = pick (agree d.left r s) (each d.right (fault_in r s)) []

abbrev pub faults : List Dep → List Row → List Fault
faults ds t = each ds (λ d. each t (λ r. each t (λ s. faults_between d r s)))

-- the lower number in place of the higher
abbrev pub put_low : ℕ → ℕ → ℕ → Row → Row
put_low c h l [] = []
put_low zero h l (x ∷ xs) = pick (x == h) l x ∷ xs
put_low (suc c) h l (x ∷ xs) = x ∷ put_low c h l xs

abbrev pub mend : Fault → List Row → List Row
mend f [] = []
mend f (r ∷ rs) = put_low f.column f.high f.low r ∷ mend f rs

abbrev pub mend_first : List Fault → List Row → List Row
mend_first [] t = t
mend_first (f ∷ fs) t = mend f t

abbrev pub chase : ℕ → List Dep → List Row → List Row
chase zero ds t = t
chase (suc k) ds t = chase k ds (mend_first (faults ds t) t)

abbrev pub total_row : Row → ℕ
total_row [] = 0
total_row (x ∷ xs) = x + total_row xs

abbrev pub total : List Row → ℕ
total [] = 0
total (r ∷ rs) = total_row r + total rs

-- in the end some row is 0 in all columns
abbrev pub does_lose_nothing : ℕ → List Dep → List Part → Bool
does_lose_nothing n ds ps = any (chase (total (tableau n 0 ps)) ds (tableau n 0 ps)) (λ r. agree (columns 0 n) [] r)
