-- The rows of a lent table put in one after the other.
use Rattle.std.proofs.Common.{◌≡◌, ℕ, zero, suc, ◌+◌, ◌-◌, ◌*◌, ◌<◌, ◌≤◌, Bool, true, false, eqb, List, [], ◌∷◌, ◌++◌, length, get_or, take, drop, Some, Ok, sym, refl, ap, ◌∙◌, subst, ap₂, inl, inr, arith}
use Rattle.std.proofs.lemmas.List.{drop-drop, length-drop, take_all, take_rest, take-append-drop}
use Rattle.std.proofs.lemmas.Bool.{cases_lt, eqb-true}
use Rattle.columns.specs.Cols.{pick}
use Rattle.dependencies.specs.Tables.{Row}
use Rattle.dependencies.specs.Told.{Told, done, refused, told, or_else}
use Rattle.dependencies.specs.declared.refusals.Refusal.{Refusal}
use Rattle.dependencies.specs.declared.refusals.Refusal.TheVariants.{Columns, RuleCount, Set, ShortRow, KeyRoom, NotADesign, Cells, Present, Broken, Absent, PartFull}
use Rattle.schema.specs.Design.{Part}
use Rattle.schema.specs.Layout.{design_in}
use Rattle.parts.specs.Answers.{opened_told, put_told, or_broken, or_full, first_broken, first_full_part, NowHolds}
use Rattle.parts.specs.Day.{Held, all_hold, all_more}
use Rattle.register.specs.Deeds.{is_done, day_told, day_end}
use Rattle.parts.specs.Store.{room_of, held_of, CleanCells, cells_written}
use Rattle.register.specs.Theorems.{ToTheLetter}
use Rattle.register.proofs.Letters.{to_the_letter}
use Rattle.parts.proofs.Spaces.{next_row}
use Rattle.join.specs.Laid.{rows_cut, row_count, rows_in, inserts, first_refusal, rows_told, rows_held, AsBefore, LaySays}
use Rattle.join.specs.Undoing.{put_all, TakenBack}
use Rattle.join.proofs.TakenBack.{put_push, cut_push, cells_sound, same_room}

-- a fact of a register whose columns and design are these
pub at_plan : (P : ℕ → List ℕ → Type 0) {n₁ n : ℕ} {d₁ d : List ℕ} → n₁ ≡ n → d₁ ≡ d → P n₁ d₁ → P n d
at_plan P {n₁} {n} {d₁} {d} e f w = subst (λ (z : List ℕ). P n z) f (subst (λ (k : ℕ). P k d₁) e w)

-- a refusal is the first where it stands
refusal_first : (i : ℕ) (e : Refusal) (ts : List Told) → first_refusal i (told e ∷ ts) ≡ Some (i, told e)
unfolding first_refusal
refusal_first i Columns ts = refl
refusal_first i (RuleCount k) ts = refl
refusal_first i (Set k) ts = refl
refusal_first i (ShortRow k) ts = refl
refusal_first i (KeyRoom k) ts = refl
refusal_first i (NotADesign k) ts = refl
refusal_first i (Cells k) ts = refl
refusal_first i Present ts = refl
refusal_first i (Broken p q) ts = refl
refusal_first i Absent ts = refl
refusal_first i (PartFull p) ts = refl

-- a row that is taken has n cells
pub put_whole : (n room : ℕ) (ps : List Part) (hs : List (List Held)) (r : Row) → put_told n room ps hs r ≡ done → length r ≡ n
put_whole n room ps hs r e =
    go (eqb (length r) n) refl e
  where
    go : (b : Bool) → eqb (length r) n ≡ b
        → pick b (pick (all_hold ps hs r) (refused 8 0) (or_broken (first_broken 0 ps hs r) (or_full (first_full_part 0 room ps hs r)))) (refused 7 (length r)) ≡ done → length r ≡ n
    go true t e = eqb-true (length r) n t
    go false t e = let z : ◌≡◌ {A = ℕ} 0 1 = cc in absurd (omega arith)

cut_length : (n k : ℕ) (xs : List ℕ) → length (rows_cut n k xs) ≡ k
unfolding rows_cut
cut_length n zero xs = refl
cut_length n (suc k) xs = ap suc (cut_length n k (drop n xs))

letter : (n : ℕ) (d g : List ℕ) → CleanCells n d g → take (get_or d 0 0 * (room_of n d g * (n + 1))) g ≡ cells_written n (room_of n d g) (held_of n d g)
unfolding ToTheLetter
letter = to_the_letter

module _ (n : ℕ) (d xs g : List ℕ) where
  abbrev PS : List Part
  PS = design_in n d

  abbrev room : ℕ
  room = room_of n d g

  abbrev count : ℕ
  count = row_count n xs

  abbrev row_at : ℕ → Row
  row_at i = take n (drop (i * n) xs)

  -- the rows from the i-th on
  abbrev rest : ℕ → List Row
  rest i = rows_cut n (count - i) (drop (i * n) xs)

  -- the first i rows are taken, and the others decide
  pub record LaidSoFar (i : ℕ) (g₁ : List ℕ) : Type 0 where
    pub long : length g₁ ≡ length g
    pub put : held_of n d g₁ ≡ put_all PS (held_of n d g) (rows_cut n i xs)
    pub clean : CleanCells n d g → CleanCells n d g₁
    pub past : drop (get_or d 0 0 * (room * (n + 1))) g₁ ≡ drop (get_or d 0 0 * (room * (n + 1))) g
    pub whole : i * n ≤ length xs
    pub tells : first_refusal i (day_told n room PS (held_of n d g₁) (inserts (rest i))) ≡ first_refusal 0 (rows_told n d g (rows_in n xs))
    pub ends : day_end n room PS (held_of n d g₁) (inserts (rest i)) ≡ rows_held n d g (rows_in n xs)

  first_rest : rest 0 ≡ rows_in n xs
  first_rest =
      let a : count - 0 ≡ count = omega arith in
      let b : 0 * n ≡ 0 = omega arith in
      ap₂ (λ (k : ℕ) (j : ℕ). rows_cut n k (drop j xs)) a b

  pub laid_start : LaidSoFar 0 g
  unfolding put_all rows_cut
  laid_start =
      record {
        long = refl;
        put = refl;
        clean = λ c. c;
        past = refl;
        whole = omega arith;
        tells = ap (λ (z : List Row). first_refusal 0 (rows_told n d g z)) first_rest;
        ends = ap (λ (z : List Row). rows_held n d g z) first_rest;
      }

  rest_turn : (i : ℕ) → i < count → rest i ≡ row_at i ∷ rest (i + 1)
  unfolding rows_cut
  rest_turn i l =
      let s : count - i ≡ suc (count - (i + 1)) = omega arith in
      ap (λ (k : ℕ). rows_cut n k (drop (i * n) xs)) s
      ∙ ap (λ (z : List ℕ). row_at i ∷ rows_cut n (count - (i + 1)) z) (drop-drop n (i * n) xs ∙ ap (λ (k : ℕ). drop k xs) (sym (next_row i n)))

  told_turn : (i : ℕ) (H : List (List Held)) (r : Row) (R : List Row) → first_refusal i (day_told n room PS H (inserts (r ∷ R)))
      ≡ first_refusal i (put_told n room PS H r ∷ day_told n room PS (pick (is_done (put_told n room PS H r)) (all_more PS H r) H) (inserts R))
  unfolding inserts day_told
  told_turn i H r R = refl

  told_done : (i : ℕ) (ts : List Told) → first_refusal i (done ∷ ts) ≡ first_refusal (i + 1) ts
  unfolding first_refusal
  told_done i ts = refl

  end_turn : (H : List (List Held)) (r : Row) (R : List Row) → day_end n room PS H (inserts (r ∷ R)) ≡ day_end n room PS (pick (is_done (put_told n room PS H r)) (all_more PS H r) H) (inserts R)
  unfolding inserts day_end
  end_turn H r R = refl

  module _ (i : ℕ) (g₁ row : List ℕ) (l : i < count) (w : LaidSoFar i g₁) (is : row ≡ row_at i) (o : opened_told n d ≡ done) where
    abbrev H : List (List Held)
    H = held_of n d g₁

    room_here : room_of n d g₁ ≡ room
    room_here = same_room n d g g₁ w.long

    -- what is told of the row, in the room of the start
    here : (t : Told) → t ≡ or_else (opened_told n d) (put_told n (room_of n d g₁) PS H row) → put_told n room PS H (row_at i) ≡ t
    here t e = sym (e ∙ ap (λ (z : Told). or_else z (put_told n (room_of n d g₁) PS H row)) o ∙ ap₂ (λ (k : ℕ) (z : Row). put_told n k PS H z) room_here is)

    pub laid_next : (g₂ : List ℕ) → length g₂ ≡ length g₁ → done ≡ or_else (opened_told n d) (put_told n (room_of n d g₁) PS H row) → NowHolds n d g₁ g₂ (all_more PS H row) → LaidSoFar (i + 1) g₂
    laid_next g₂ long t after =
        let e : put_told n room PS H (row_at i) ≡ done = here done t in
        let size : length (row_at i) ≡ n = put_whole n room PS H (row_at i) e in
        let held' : held_of n d g₂ ≡ all_more PS H (row_at i) = after.held ∙ ap (λ (z : Row). all_more PS H z) is in
        let then : pick (is_done (put_told n room PS H (row_at i))) (all_more PS H (row_at i)) H ≡ held_of n d g₂ = ap (λ (z : Told). pick (is_done z) (all_more PS H (row_at i)) H) e ∙ sym held' in
        record {
          long = long ∙ w.long;
          put = held' ∙ ap (λ (z : List (List Held)). all_more PS z (row_at i)) w.put ∙ sym (put_push PS (held_of n d g) (rows_cut n i xs) (row_at i))
              ∙ ap (λ (z : List Row). put_all PS (held_of n d g) z) (sym (cut_push n i xs));
          clean = λ c. after.clean (w.clean c);
          past = subst (λ (q : ℕ). drop (get_or d 0 0 * (q * (n + 1))) g₂ ≡ drop (get_or d 0 0 * (q * (n + 1))) g₁) room_here after.past ∙ w.past;
          whole = fits size;
          tells = sym (ap (λ (z : List Row). first_refusal i (day_told n room PS H (inserts z))) (rest_turn i l) ∙ told_turn i H (row_at i) (rest (i + 1))
              ∙ ap₂ (λ (z : Told) (k : List (List Held)). first_refusal i (z ∷ day_told n room PS k (inserts (rest (i + 1))))) e then
              ∙ told_done i (day_told n room PS (held_of n d g₂) (inserts (rest (i + 1))))) ∙ w.tells;
          ends = sym (ap (λ (z : List Row). day_end n room PS H (inserts z)) (rest_turn i l) ∙ end_turn H (row_at i) (rest (i + 1)) ∙ ap (λ (k : List (List Held)). day_end n room PS k (inserts (rest (i + 1)))) then) ∙ w.ends;
        }
      where
        fits : length (row_at i) ≡ n → (i + 1) * n ≤ length xs
        fits e = elim (cases_lt (length (drop (i * n) xs)) n) [
          | inl s ↦
              let a : length (row_at i) ≡ length (drop (i * n) xs) = ap length (take_all n (drop (i * n) xs) (omega arith)) in
              absurd (omega arith)
          | inr s ↦ let a = length-drop (i * n) xs in let b = next_row i n in let c = w.whole in omega arith
        ]

    pub laid_refused : (e : Refusal) → told e ≡ or_else (opened_told n d) (put_told n (room_of n d g₁) PS H row) → Some (i, told e) ≡ first_refusal 0 (rows_told n d g (rows_in n xs))
    laid_refused e t =
        sym (sym w.tells ∙ ap (λ (z : List Row). first_refusal i (day_told n room PS H (inserts z))) (rest_turn i l) ∙ told_turn i H (row_at i) (rest (i + 1))
        ∙ ap (λ (z : Told). first_refusal i (z ∷ day_told n room PS (pick (is_done (put_told n room PS H (row_at i))) (all_more PS H (row_at i)) H) (inserts (rest (i + 1))))) (here (told e) t)
        ∙ refusal_first i e (day_told n room PS (pick (is_done (put_told n room PS H (row_at i))) (all_more PS H (row_at i)) H) (inserts (rest (i + 1)))))

  -- all rows are taken
  pub laid_all : (i : ℕ) (g₁ : List ℕ) → count ≤ i → i ≤ count → LaidSoFar i g₁ → LaySays n d g g₁ xs (Ok i)
  unfolding rows_cut inserts day_told day_end first_refusal
  laid_all i g₁ l m w =
      let z : count - i ≡ 0 = omega arith in
      let none : rest i ≡ [] = ap (λ (k : ℕ). rows_cut n k (drop (i * n) xs)) z in
      record {
        long = w.long;
        tells = sym (ap (λ (u : List Row). first_refusal i (day_told n room PS (held_of n d g₁) (inserts u))) none) ∙ w.tells;
        after = (
          omega (arith, cut_length n count xs),
          record { held = sym (ap (λ (u : List Row). day_end n room PS (held_of n d g₁) (inserts u)) none) ∙ w.ends; clean = w.clean; past = w.past },
        );
      }

  -- a row is refused, and those before it were taken out again
  pub laid_back : (i : ℕ) (g₁ g₂ : List ℕ) → opened_told n d ≡ done → LaidSoFar i g₁ → TakenBack n d xs i 0 g₁ g₂ → AsBefore n d g g₂
  unfolding put_all rows_cut
  laid_back i g₁ g₂ o w b =
      let held' : held_of n d g₂ ≡ held_of n d g = b.held (held_of n d g) o (cells_sound n d g) w.put in
      let room_here : room_of n d g₁ ≡ room = same_room n d g g₁ w.long in
      let room-then : room_of n d g₂ ≡ room = same_room n d g g₂ (b.long ∙ w.long) in
      let past' : drop (get_or d 0 0 * (room * (n + 1))) g₂ ≡ drop (get_or d 0 0 * (room * (n + 1))) g
      = subst (λ (q : ℕ). drop (get_or d 0 0 * (q * (n + 1))) g₂ ≡ drop (get_or d 0 0 * (q * (n + 1))) g₁) room_here b.past ∙ w.past in
      record { held = held'; past = past'; letter = λ c. same_cells g₂ room-then held' past' c (b.clean (w.clean c)) }
    where
      same_cells : (g₂ : List ℕ) → room_of n d g₂ ≡ room → held_of n d g₂ ≡ held_of n d g → drop (get_or d 0 0 * (room * (n + 1))) g₂ ≡ drop (get_or d 0 0 * (room * (n + 1))) g
          → CleanCells n d g → CleanCells n d g₂ → g₂ ≡ g
      same_cells g₂ r h p c c₂ =
          let S : ℕ = get_or d 0 0 * (room * (n + 1)) in
          let a : take S g ≡ cells_written n room (held_of n d g) = letter n d g c in
          let b : take S g₂ ≡ cells_written n room (held_of n d g₂) = subst (λ (q : ℕ). take (get_or d 0 0 * (q * (n + 1))) g₂ ≡ cells_written n q (held_of n d g₂)) r (letter n d g₂ c₂) in
          sym (take-append-drop S g₂) ∙ ap₂ (λ (u v : List ℕ). u ++ v) (b ∙ ap (λ (z : List (List Held)). cells_written n room z) h ∙ sym a) p ∙ take-append-drop S g
