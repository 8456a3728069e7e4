-- Tables, rules about their columns, and what follows from rules.
use Rattle.std.specs.Prelude.{◌≡◌, ℕ, zero, suc, ◌<◌, Bool, true, ◌&&◌, List, [], ◌∷◌, length, slice_index_or, ◌==◌, slice_index}
use Rattle.columns.specs.Cols.{pick, Cols, has, all_in, columns}

-- a row is its cells, from the first column on
abbrev pub Row : Type 0
Row = List ℕ

-- a rule: rows that are equal in the left columns are equal in the right ones
pub record Dep : Type 0 where
  pub left : Cols
  pub right : Cols

-- two rows are equal in the columns
unfoldable pub agree : Cols → Row → Row → Bool
agree [] r s = true
agree (c ∷ cs) r s = slice_index r c == slice_index s c && agree cs r s

-- a table, a list of rows, obeys a rule
unfoldable pub Obeys : List Row → Dep → Type 0
Obeys t d =
    (i j : ℕ) → i < length t → j < length t → agree d.left (slice_index_or t i []) (slice_index_or t j []) ≡ true → agree d.right (slice_index_or t i []) (slice_index_or t j []) ≡ true

abbrev pub no_dep : Dep
no_dep = record { left = []; right = [] }

unfoldable pub ObeysAll : List Row → List Dep → Type 0
ObeysAll t ds = (i : ℕ) → i < length ds → Obeys t (slice_index_or ds i no_dep)

-- the rule follows: it holds in every table that obeys the rules, however long and whatever stands in it
unfoldable pub Implied : List Dep → Dep → Type 0
Implied ds d = (t : List Row) → ObeysAll t ds → Obeys t d

-- the rule that the columns x fix the column c
abbrev pub fixing : Cols → ℕ → Dep
fixing x c = record { left = x; right = c ∷ [] }

-- the rules name columns of a table of n only
unfoldable pub Proper : ℕ → List Dep → Type 0
Proper n ds =
    (i : ℕ) → i < length ds → (all_in (slice_index_or ds i no_dep).left (columns 0 n) ≡ true) × (all_in (slice_index_or ds i no_dep).right (columns 0 n) ≡ true)

-- the same as a test
abbrev pub is_proper : ℕ → List Dep → Bool
is_proper n [] = true
is_proper n (d ∷ ds) = (all_in d.left (columns 0 n) && all_in d.right (columns 0 n)) && is_proper n ds

-- the row whose cell in column c is f c, k columns from a on
abbrev pub draw : (ℕ → ℕ) → ℕ → ℕ → Row
draw f a zero = []
draw f a (suc k) = f a ∷ draw f (suc a) k

-- a row of n cells, all 0
abbrev pub zero_row : ℕ → Row
zero_row n = draw (λ c. 0) 0 n

-- a row of n cells, 0 in the columns cs and v in the others
abbrev pub apart_row : ℕ → Cols → ℕ → Row
apart_row n cs v = draw (λ c. pick (has cs c) 0 v) 0 n

-- the same with 1 in the others
abbrev pub differ_row : ℕ → Cols → Row
differ_row n cs = apart_row n cs 1

-- the table of two rows that agree in the columns cs alone
abbrev pub pair_on : ℕ → Cols → List Row
pair_on n cs = zero_row n ∷ differ_row n cs ∷ []
