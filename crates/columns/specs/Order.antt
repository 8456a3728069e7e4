-- The order of sets of columns, and lists of sets in order.
use Rattle.std.specs.Prelude.{◌≡◌, Bool, true, false, ◌&&◌, List, [], ◌∷◌, ◌==◌, nat_lt}
use Rattle.columns.specs.Cols.{Cols, pick}

-- the order of sets of columns, each written rising: column by column, and a set before one that it begins
unfoldable pub before : Cols → Cols → Bool
before [] [] = false
before [] (y ∷ ys) = true
before (x ∷ xs) [] = false
before (x ∷ xs) (y ∷ ys) = pick (nat_lt x y) true (x == y && before xs ys)

pub data IsInOrder : List Cols → Type 0 where
  no_set : IsInOrder []
  one_set : {k : Cols} → IsInOrder (k ∷ [])
  and_set : {k j : Cols} {js : List Cols} → before k j ≡ true → IsInOrder (j ∷ js) → IsInOrder (k ∷ j ∷ js)

pub data Listed (k : Cols) : List Cols → Type 0 where
  here : {ks : List Cols} → Listed k (k ∷ ks)
  there : {j : Cols} {ks : List Cols} → Listed k ks → Listed k (j ∷ ks)

abbrev pub is_rising : Cols → Bool
is_rising [] = true
is_rising (c ∷ []) = true
is_rising (c ∷ d ∷ ds) = nat_lt c d && is_rising (d ∷ ds)

abbrev pub is_in_order : List Cols → Bool
is_in_order [] = true
is_in_order (k ∷ []) = true
is_in_order (k ∷ j ∷ js) = before k j && is_in_order (j ∷ js)
