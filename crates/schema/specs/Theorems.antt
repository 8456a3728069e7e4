-- What is shown of designs. Each is a statement, a type whose proof is owed.
use Rattle.std.specs.Prelude.{◌≡◌, ℕ, ◌+◌, ◌*◌, ◌<◌, ◌≤◌, true, ◌&&◌, ◌⊎◌, List, [], ◌∷◌, ◌++◌, length, slice_index_or}
use Rattle.columns.specs.Cols.{Cols, has, all_in, columns}
use Rattle.dependencies.specs.Tables.{Dep, Implied, Proper}
use Rattle.schema.specs.Design.{Part, no_part, Design, all_rules, LosesNothing, KeepsRules}

-- For any rules there is a design, of no more parts than columns times rules, and one.
unfoldable pub AlwaysOne : Type 0
AlwaysOne = (n : ℕ) (ds : List Dep) → 0 < n → Proper n ds → (ps : List Part) × Design n ds ps × (length ps ≤ n * length ds + 1)

-- Two parts that lose nothing: exactly if what they share fixes one of them.
unfoldable pub TwoParts : Type 0
TwoParts =
    (n : ℕ) (ds : List Dep) (p q : Part) → Proper n ds → all_in (columns 0 n) (p.cols ++ q.cols) ≡ true → all_in (p.cols ++ q.cols) (columns 0 n) ≡ true →
    (shared : Cols) → ((c : ℕ) → has shared c ≡ (has p.cols c && has q.cols c)) →
    (LosesNothing n ds (p ∷ q ∷ []) → Implied ds (record { left = shared; right = p.cols }) ⊎ Implied ds (record { left = shared; right = q.cols }))
    × (Implied ds (record { left = shared; right = p.cols }) ⊎ Implied ds (record { left = shared; right = q.cols }) → LosesNothing n ds (p ∷ q ∷ []))

-- Parts that keep the rules, one of which fixes all columns, lose nothing
unfoldable pub KeyPartEnough : Type 0
KeyPartEnough =
    (n : ℕ) (ds : List Dep) (ps : List Part) → KeepsRules ds ps → (i : ℕ) → i < length ps →
    Implied ds (record { left = (slice_index_or ps i no_part).cols; right = columns 0 n }) → LosesNothing n ds ps

-- for at most 16 columns and 32 rules there is a design that fits the lent row, as it is written there: two numbers for each part, two for each rule, and one
unfoldable pub AlwaysFits : Type 0
AlwaysFits =
    (n : ℕ) (ds : List Dep) → n ≤ 16 → length ds ≤ 32 → Proper n ds →
    (ps : List Part) × Design n ds ps × (1 + 2 * length ps + 2 * length (all_rules ps) ≤ 2100)
