-- A design as lent numbers: how many parts there are, and for each its set, how many rules it owns, and two sets a rule.
use Rattle.std.specs.Prelude.{ℕ, zero, suc, ◌+◌, ◌*◌, ◌^◌, Bool, true, ◌&&◌, List, [], ◌∷◌, drop, length, nat_le, nat_lt, slice_index}
use Rattle.columns.specs.Cols.{set_in}
use Rattle.dependencies.specs.Layout.{rules_in}
use Rattle.schema.specs.Design.{Part}

-- a part is its set, a count of rules, and the rules; parts stand one after the other
unfoldable pub parts_in : ℕ → ℕ → List ℕ → List Part
parts_in n zero xs = []
parts_in n (suc k) xs = record { cols = set_in 0 n (slice_index xs 0); rules = rules_in n (slice_index xs 1) (drop 2 xs) } ∷ parts_in n k (drop (2 + 2 * slice_index xs 1) xs)

-- how many numbers k parts take
unfoldable pub extent : ℕ → List ℕ → ℕ
extent zero xs = 0
extent (suc k) xs = 2 + 2 * slice_index xs 1 + extent k (drop (2 + 2 * slice_index xs 1) xs)

-- k sets name columns below n only
unfoldable pub all_sets_fit : ℕ → ℕ → List ℕ → Bool
all_sets_fit n zero xs = true
all_sets_fit n (suc k) xs = nat_lt (slice_index xs 0) (2 ^ n) && all_sets_fit n k (drop 1 xs)

-- no set of the parts or their rules names a column that is not there
unfoldable pub parts_fit : ℕ → ℕ → List ℕ → Bool
parts_fit n zero xs = true
parts_fit n (suc k) xs = (nat_lt (slice_index xs 0) (2 ^ n) && all_sets_fit n (2 * slice_index xs 1) (drop 2 xs)) && parts_fit n k (drop (2 + 2 * slice_index xs 1) xs)

-- the first part is there whole, and names columns of the table only
abbrev pub is_first_whole : ℕ → List ℕ → Bool
is_first_whole n xs = nat_le (2 + 2 * slice_index xs 1) (length xs) && (nat_lt (slice_index xs 0) (2 ^ n) && all_sets_fit n (2 * slice_index xs 1) (drop 2 xs))

-- the design that a lent row holds
abbrev pub design_in : ℕ → List ℕ → List Part
design_in n xs = parts_in n (slice_index xs 0) (drop 1 xs)

-- how many numbers of the row it takes
abbrev pub extent_of_design : List ℕ → ℕ
extent_of_design xs = 1 + extent (slice_index xs 0) (drop 1 xs)
