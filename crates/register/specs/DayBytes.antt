-- A day as bytes. The rules stand first: a byte for how many columns there are, one for how many rules, and four bytes a rule. Then come the
-- deeds: for each one byte, 0 to put in or 1 to take out, and four bytes a cell, the low one first.
use Rattle.std.specs.Prelude.{◌≡◌, ℕ, zero, suc, ◌+◌, ◌-◌, ◌*◌, ◌/◌, List, [], ◌∷◌, ◌++◌, length, drop, Ok, Err, Result, ◌==◌, nat_le, nat_lt, slice_index}
use Rattle.columns.specs.Cols.{pick}
use Rattle.dependencies.specs.declared.refusals.Refusal.{Refusal}
use Rattle.register.specs.Deeds.{DayKept}
use Rattle.register.specs.declared.day_bytes.DayRest.{DayRest}
use Rattle.register.specs.declared.day_bytes.DayRest.TheVariants.{Ended, NoDeed, Unanswered, CutShort}

-- what stands behind the rules
abbrev pub bytes_behind_rules : List ℕ → List ℕ
bytes_behind_rules bs = drop (2 + 4 * slice_index bs 1) bs

-- how many bytes a deed with n cells takes
abbrev pub deed_bytes : ℕ → ℕ
deed_bytes n = 1 + 4 * n

-- the number of four bytes
abbrev pub cell_of_bytes : List ℕ → ℕ
cell_of_bytes bs = slice_index bs 0 + 256 * slice_index bs 1 + 65536 * slice_index bs 2 + 16777216 * slice_index bs 3

-- n cells, one after the other
unfoldable pub cells_of_bytes : ℕ → List ℕ → List ℕ
cells_of_bytes zero bs = []
cells_of_bytes (suc n) bs = cell_of_bytes bs ∷ cells_of_bytes n (drop 4 bs)

-- a deed as numbers: its first byte, whatever it is, and its cells
abbrev pub deed_of_bytes : ℕ → List ℕ → List ℕ
deed_of_bytes n bs = slice_index bs 0 ∷ cells_of_bytes n (drop 1 bs)

-- k deeds as numbers, one after the other
unfoldable pub deeds_of_bytes : ℕ → ℕ → List ℕ → List ℕ
deeds_of_bytes n zero bs = []
deeds_of_bytes n (suc k) bs = deed_of_bytes n bs ++ deeds_of_bytes n k (drop (deed_bytes n) bs)

-- as many deeds as stand there whole, and as have room in a lent row
abbrev pub whole_deeds : ℕ → (bs lent : List ℕ) → ℕ
whole_deeds n bs lent = pick (nat_lt (length bs / deed_bytes n) (length lent / (n + 1))) (length bs / deed_bytes n) (length lent / (n + 1))

-- the day that is read into a lent row, and the row afterwards
abbrev pub day_read : ℕ → (bs lent : List ℕ) → List ℕ
day_read n bs lent = deeds_of_bytes n (whole_deeds n bs lent) bs

abbrev pub lent_after : ℕ → (bs lent : List ℕ) → List ℕ
lent_after n bs lent = day_read n bs lent ++ drop (whole_deeds n bs lent * (n + 1)) lent

-- what the bytes behind the deeds that were answered are: nothing, no deed, a whole deed for which there was no room, or one that
-- is cut short, with so many whole cells
abbrev pub rest_is : ℕ → List ℕ → DayRest
rest_is n left =
    pick (length left == 0) Ended (pick (nat_lt 1 (slice_index left 0)) NoDeed (pick (nat_le (deed_bytes n) (length left)) Unanswered (CutShort ((length left - 1) / 4))))

-- a day from bytes is kept as the day that is read into the lent row; a refusal leaves cells, lent row and answers as they were
abbrev pub ByteDaySays : ℕ → (d g g₁ bs lent lent₁ out out₁ : List ℕ) → Result ℕ Refusal → Type 0
ByteDaySays n d g g₁ bs lent lent₁ out out₁ (Ok k) = (lent₁ ≡ lent_after n bs lent) × DayKept n d g g₁ (day_read n bs lent) out out₁ k
ByteDaySays n d g g₁ bs lent lent₁ out out₁ (Err e) = (g₁ ≡ g) × (lent₁ ≡ lent) × (out₁ ≡ out)
