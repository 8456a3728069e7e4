-- Numbers written at the front of lent room, as far as there is any.
use Rattle.std.specs.Prelude.{◌≡◌, ℕ, ◌<◌, ◌≤◌, List, ◌++◌, length, take, drop, Some, None, Option}

-- the list is written at the front of the row, its length is told, and behind it the row is as it was; or there is no room for all of it,
-- and the row is full of its first numbers
abbrev pub Emitted : (row list : List ℕ) → Option ℕ → (after : List ℕ) → Type 0
Emitted row list (Some k) after = (k ≡ length list) × (length list ≤ length row) × (after ≡ list ++ drop (length list) row)
Emitted row list None after = (length row < length list) × (after ≡ take (length row) list)
