-- Sets of columns as lists of column numbers, and as numbers in which 2 ^ c stands for column c.
use Rattle.std.specs.Prelude.{◌≡◌, ℕ, zero, suc, ◌/◌, ◌%◌, ◌<◌, Bool, true, false, ◌&&◌, List, [], ◌∷◌, ◌==◌}

abbrev pub pick : {A : Type 0} → Bool → A → A → A
pick true a b = a
pick false a b = b

abbrev pub Cols : Type 0
Cols = List ℕ

unfoldable pub has : Cols → ℕ → Bool
has [] c = false
has (d ∷ ds) c = pick (d == c) true (has ds c)

unfoldable pub all_in : Cols → Cols → Bool
all_in [] ds = true
all_in (c ∷ cs) ds = has ds c && all_in cs ds

-- all columns from c on, k of them
unfoldable pub columns : ℕ → ℕ → Cols
columns c zero = []
columns c (suc k) = c ∷ columns (suc c) k

pub data Rising : Cols → Type 0 where
  none : Rising []
  one : {c : ℕ} → Rising (c ∷ [])
  more : {c d : ℕ} {ds : Cols} → c < d → Rising (d ∷ ds) → Rising (c ∷ d ∷ ds)

abbrev pub less : Cols → ℕ → Cols
less [] a = []
less (c ∷ cs) a = pick (c == a) (less cs a) (c ∷ less cs a)

-- a set of columns is a number: column c is in it if 2 ^ c stands in the number
unfoldable pub set_in : ℕ → ℕ → ℕ → Cols
set_in c zero m = []
set_in c (suc k) m = pick (m % 2 == 1) (c ∷ set_in (suc c) k (m / 2)) (set_in (suc c) k (m / 2))

-- the same columns, in whatever order and however often
abbrev pub Same : Cols → Cols → Type 0
Same xs ys = (c : ℕ) → has xs c ≡ has ys c
