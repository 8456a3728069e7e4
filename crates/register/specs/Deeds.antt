-- A whole day of deeds on a lent register, and how it stands to the one table.
use Rattle.std.specs.Prelude.{◌≡◌, ℕ, zero, suc, ◌+◌, ◌*◌, ◌/◌, ◌≤◌, Bool, true, false, not, ◌&&◌, List, [], ◌∷◌, ◌++◌, length, take, drop, Ok, Err, Result, ◌==◌, nat_lt, slice_index}
use Rattle.columns.specs.Cols.{pick, columns}
use Rattle.dependencies.specs.Tables.{Row, Dep}
use Rattle.dependencies.specs.Told.{Told, done, refused, number, place}
use Rattle.dependencies.specs.declared.refusals.Refusal.{Refusal}
use Rattle.schema.specs.Design.{Part, Design}
use Rattle.schema.specs.Layout.{design_in}
use Rattle.parts.specs.Day.{Deed, insert, remove, Held, all_hold, all_more, all_less, bare, whole_day, whole_end, present}
use Rattle.parts.specs.Store.{room_of, held_of, CleanCells}
use Rattle.parts.specs.Answers.{put_told, take_told}

-- a deed is 0 to put in or 1 to take out, and then the row's n cells
unfoldable pub deed_in : ℕ → List ℕ → Deed
deed_in n xs = pick (slice_index xs 0 == 0) (insert (take n (drop 1 xs))) (remove (take n (drop 1 xs)))

-- the deeds of a day, at most k: another number than 0 or 1 ends it
unfoldable pub deeds_in : ℕ → ℕ → List ℕ → List Deed
deeds_in n zero xs = []
deeds_in n (suc k) xs = pick (nat_lt 1 (slice_index xs 0)) [] (deed_in n xs ∷ deeds_in n k (drop (n + 1) xs))

-- as many as stand there whole, and as have room for an answer of two numbers
abbrev pub most_deeds : ℕ → (xs out : List ℕ) → ℕ
most_deeds n xs out = pick (nat_lt (length xs / (n + 1)) (length out / 2)) (length xs / (n + 1)) (length out / 2)

abbrev pub day_of : ℕ → (xs out : List ℕ) → List Deed
day_of n xs out = deeds_in n (most_deeds n xs out) xs

-- what is told of a deed, and what the parts hold if it is done
abbrev pub deed_told : ℕ → ℕ → List Part → List (List Held) → Deed → Told
deed_told n room ps hs (insert r) = put_told n room ps hs r
deed_told n room ps hs (remove r) = take_told n ps hs r

abbrev pub deed_held : List Part → List (List Held) → Deed → List (List Held)
deed_held ps hs (insert r) = all_more ps hs r
deed_held ps hs (remove r) = all_less ps hs r

abbrev pub is_done : Told → Bool
is_done done = true
is_done (refused k p) = false

abbrev pub deed_after : ℕ → ℕ → List Part → List (List Held) → Deed → List (List Held)
deed_after n room ps hs e = pick (is_done (deed_told n room ps hs e)) (deed_held ps hs e) hs

-- what is told of each deed of a day, and what the parts hold at its end
unfoldable pub day_told : ℕ → ℕ → List Part → List (List Held) → List Deed → List Told
day_told n room ps hs [] = []
day_told n room ps hs (e ∷ es) = deed_told n room ps hs e ∷ day_told n room ps (deed_after n room ps hs e) es

unfoldable pub day_end : ℕ → ℕ → List Part → List (List Held) → List Deed → List (List Held)
day_end n room ps hs [] = hs
day_end n room ps hs (e ∷ es) = day_end n room ps (deed_after n room ps hs e) es

-- an answer as two numbers: the refusal, or 0, and its place
unfoldable pub answers_of : List Told → List ℕ
answers_of [] = []
answers_of (t ∷ ts) = number t ∷ place t ∷ answers_of ts

unfoldable pub taken_of : List Told → List Bool
taken_of [] = []
taken_of (t ∷ ts) = is_done t ∷ taken_of ts

-- 11 is told nowhere
unfoldable pub never_full : List Told → Bool
never_full [] = true
never_full (t ∷ ts) = not (number t == 11) && never_full ts

-- Under every design of every rules, if 11 is not told, the deeds taken are those that the one table with all rules takes, and at the end
-- all parts hold a row exactly if it is in that table.
abbrev pub AsWhole : ℕ → List Part → List (List Held) → List Told → List Deed → Type 0
AsWhole n ps hs ts es =
    (ds : List Dep) → Design n ds ps → never_full ts ≡ true →
    (taken_of ts ≡ whole_day n ds [] es) × ((r : Row) → all_hold ps hs r ≡ present (columns 0 n) r (whole_end n ds [] es))

-- k deeds were answered from what the parts held before
pub record DeedsKept (n : ℕ) (d g g₁ xs out out₁ : List ℕ) (k : ℕ) : Type 0 where
  pub count : k ≡ length (day_of n xs out)
  pub answers : out₁ ≡ answers_of (day_told n (room_of n d g) (design_in n d) (held_of n d g) (day_of n xs out)) ++ drop (2 * k) out
  pub held : held_of n d g₁ ≡ day_end n (room_of n d g) (design_in n d) (held_of n d g) (day_of n xs out)
  pub clean : CleanCells n d g → CleanCells n d g₁
  pub past : drop (slice_index d 0 * (room_of n d g * (n + 1))) g₁ ≡ drop (slice_index d 0 * (room_of n d g * (n + 1))) g

-- a day from a bare register: k deeds were answered, every cell that holds nothing is 0, and all is as with one table
pub record DayKept (n : ℕ) (d g g₁ xs out out₁ : List ℕ) (k : ℕ) : Type 0 where
  pub count : k ≡ length (day_of n xs out)
  pub answers : out₁ ≡ answers_of (day_told n (room_of n d g) (design_in n d) (bare (design_in n d)) (day_of n xs out)) ++ drop (2 * k) out
  pub held : held_of n d g₁ ≡ day_end n (room_of n d g) (design_in n d) (bare (design_in n d)) (day_of n xs out)
  pub clean : CleanCells n d g₁
  pub past : (j : ℕ) → slice_index d 0 * (room_of n d g * (n + 1)) ≤ j → slice_index g₁ j ≡ 0
  pub whole : AsWhole n (design_in n d) (held_of n d g₁) (day_told n (room_of n d g) (design_in n d) (bare (design_in n d)) (day_of n xs out)) (day_of n xs out)

-- a refusal leaves cells and answers as they were
abbrev pub DaySays : ℕ → (d g g₁ xs out out₁ : List ℕ) → Result ℕ Refusal → Type 0
DaySays n d g g₁ xs out out₁ (Ok k) = DayKept n d g g₁ xs out out₁ k
DaySays n d g g₁ xs out out₁ (Err e) = (g₁ ≡ g) × (out₁ ≡ out)
