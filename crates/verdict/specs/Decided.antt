-- What the tests decide. Each is a statement, a type whose proof is owed. Assumes nothing.
use Rattle.std.specs.Prelude.{◌≡◌, ℕ, zero, suc, ◌<◌, ◌≤◌, true, List, length, slice_index_or}
use Rattle.columns.specs.Cols.{Cols, has, all_in, columns}
use Rattle.dependencies.specs.Tables.{Dep, Proper}
use Rattle.schema.specs.Design.{Part, no_part, LosesNothing, KeepsRules, IsThirdForm, Design}
use Rattle.verdict.specs.Chase.{does_lose_nothing}
use Rattle.verdict.specs.Judge.{is_third_form, verdict}

unfoldable pub ChaseDecides : Type 0
ChaseDecides =
    (n : ℕ) (ds : List Dep) (ps : List Part) → Proper n ds → 0 < length ps →
    (does_lose_nothing n ds ps ≡ true → LosesNothing n ds ps) × (LosesNothing n ds ps → does_lose_nothing n ds ps ≡ true)

unfoldable pub ThirdFormDecided : Type 0
ThirdFormDecided = (ds : List Dep) (p : Cols) → (is_third_form ds p ≡ true → IsThirdForm ds p) × (IsThirdForm ds p → is_third_form ds p ≡ true)

-- the five conditions of a design
unfoldable pub Condition : ℕ → List Dep → List Part → ℕ → Type 0
Condition n ds ps zero = Unit {0}
Condition n ds ps (suc zero) =
    (0 < length ps) × ((i : ℕ) → i < length ps → all_in (slice_index_or ps i no_part).cols (columns 0 n) ≡ true)
    × ((c : ℕ) → c < n → (i : ℕ) × (i < length ps) × (has (slice_index_or ps i no_part).cols c ≡ true))
Condition n ds ps (suc (suc zero)) =
    (i j : ℕ) → i < length ps → j < length ps → all_in (slice_index_or ps i no_part).cols (slice_index_or ps j no_part).cols ≡ true → i ≡ j
Condition n ds ps (suc (suc (suc zero))) = LosesNothing n ds ps
Condition n ds ps (suc (suc (suc (suc zero)))) = KeepsRules ds ps
Condition n ds ps (suc (suc (suc (suc (suc zero))))) = (i : ℕ) → i < length ps → IsThirdForm ds (slice_index_or ps i no_part).cols
Condition n ds ps (suc (suc (suc (suc (suc (suc k)))))) = Unit {0}

-- the conditions before k hold, and k does not
unfoldable pub FirstMissed : ℕ → List Dep → List Part → ℕ → Type 0
FirstMissed n ds ps k = ((j : ℕ) → 0 < j → j < k → Condition n ds ps j) × (Condition n ds ps k → ⊥)

unfoldable pub VerdictPinned : Type 0
VerdictPinned =
    (n : ℕ) (ds : List Dep) (ps : List Part) → Proper n ds →
    (verdict n ds ps ≤ 5)
    × (verdict n ds ps ≡ 0 → Design n ds ps)
    × (Design n ds ps → verdict n ds ps ≡ 0)
    × ((k : ℕ) → 0 < k → k ≤ 5 → (verdict n ds ps ≡ k → FirstMissed n ds ps k) × (FirstMissed n ds ps k → verdict n ds ps ≡ k))
