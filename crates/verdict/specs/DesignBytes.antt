-- A design as bytes: one for how many parts there are; for each part two for its set, the low one first, one for how many rules it owns,
-- and four a rule.
use Rattle.std.specs.Prelude.{ℕ, zero, suc, ◌+◌, ◌*◌, List, [], ◌∷◌, ◌++◌, take, drop}
use Rattle.dependencies.specs.Bytes.{sets_in_bytes}

-- the numbers of k parts; bytes that end early make numbers that end early, and a byte that is left over makes none
unfoldable pub parts_of_bytes : ℕ → List ℕ → List ℕ
parts_of_bytes zero bs = []
parts_of_bytes (suc k) [] = []
parts_of_bytes (suc k) (a ∷ []) = []
parts_of_bytes (suc k) (a ∷ (b ∷ [])) = []
parts_of_bytes (suc k) (a ∷ (b ∷ (c ∷ bs))) = (a + 256 * b) ∷ (c ∷ (sets_in_bytes (take (4 * c) bs) ++ parts_of_bytes k (drop (4 * c) bs)))

-- the numbers of a lent design that bytes stand for
unfoldable pub design_of_bytes : List ℕ → List ℕ
design_of_bytes [] = []
design_of_bytes (k ∷ bs) = k ∷ parts_of_bytes k bs
