-- A row that was put in and is taken out again leaves the parts as they were.
use Rattle.std.proofs.Common.{◌≡◌, ℕ, zero, suc, ◌+◌, ◌-◌, ◌*◌, ◌/◌, ◌≤◌, Bool, true, false, eqb, List, [], ◌∷◌, ◌++◌, length, get_or, take, drop, Ok, Err, Result, sym, refl, ap, ◌∙◌, subst, ap₂, add-one, arith}
use Rattle.std.proofs.lemmas.List.{drop-drop, length-drop, length-take-le}
use Rattle.std.proofs.lemmas.Bool.{eq-eqb, ne_eqb, and_from, eqb-false}
use Rattle.columns.specs.Cols.{Cols, pick}
use Rattle.dependencies.specs.Tables.{Row, agree}
use Rattle.dependencies.specs.Told.{Told, done, refused, told, or_else}
use Rattle.dependencies.specs.declared.refusals.Refusal.{Refusal}
use Rattle.dependencies.specs.declared.refusals.Refusal.TheVariants.{Columns, RuleCount, Set, ShortRow, KeyRoom, NotADesign, Cells, Present, Broken, Absent, PartFull}
use Rattle.schema.specs.Design.{Part}
use Rattle.schema.specs.Layout.{parts_in, design_in}
use Rattle.parts.specs.Day.{Held, holds, one_more, one_less, all_hold, all_more, all_less, masked}
use Rattle.parts.specs.Store.{held_row, held_in, all_held, room_of, held_of, CleanCells}
use Rattle.parts.specs.Answers.{outcome, opened_told, take_told, After, NowHolds}
use Rattle.parts.proofs.Agree.{agree_masked}
use Rattle.parts.proofs.Spaces.{next_row, suc_row}
use Rattle.join.specs.Laid.{rows_cut}
use Rattle.join.specs.Undoing.{put_all, Positive, SoundLists, TakenBack}

-- one part
more_positive : (p : Cols) (r : Row) (hs : List Held) → Positive hs → Positive (one_more p r hs)
unfolding one_more
more_positive p r [] w = (omega arith, tt)
more_positive p r (h ∷ hs) w = go (agree p r h.looks) (more_positive p r hs w.1)
  where
    go : (b : Bool) → Positive (one_more p r hs) → Positive (pick b (record { looks = h.looks; times = h.times + 1 } ∷ hs) (h ∷ one_more p r hs))
    go true i = (omega arith, w.1)
    go false i = (w.0, i)

more_holds : (p : Cols) (r : Row) (hs : List Held) → holds p r (one_more p r hs) ≡ true
unfolding one_more holds
more_holds p r [] = ap (λ (b : Bool). pick b true false) (agree_masked p r)
more_holds p r (h ∷ hs) = go (agree p r h.looks) refl (more_holds p r hs)
  where
    go : (b : Bool) → agree p r h.looks ≡ b → holds p r (one_more p r hs) ≡ true → holds p r (pick b (record { looks = h.looks; times = h.times + 1 } ∷ hs) (h ∷ one_more p r hs)) ≡ true
    go true e i = ap (λ (b : Bool). pick b true (holds p r hs)) e
    go false e i = ap (λ (b : Bool). pick b true (holds p r (one_more p r hs))) e ∙ i

less_more : (p : Cols) (r : Row) (hs : List Held) → Positive hs → one_less p r (one_more p r hs) ≡ hs
unfolding one_more one_less
less_more p r [] w = ap (λ (b : Bool). pick b [] (record { looks = masked p 0 r; times = 1 } ∷ [])) (agree_masked p r)
less_more p r (h ∷ hs) w = go (agree p r h.looks) refl (less_more p r hs w.1)
  where
    go : (b : Bool) → agree p r h.looks ≡ b → one_less p r (one_more p r hs) ≡ hs → one_less p r (pick b (record { looks = h.looks; times = h.times + 1 } ∷ hs) (h ∷ one_more p r hs)) ≡ h ∷ hs
    go true e i =
        let up : Held = record { looks = h.looks; times = h.times + 1 } in
        let down : Held = record { looks = h.looks; times = h.times + 1 - 1 } in
        let t : h.times + 1 - 1 ≡ h.times = omega arith in
        ap (λ (b : Bool). pick b (pick (eqb (h.times + 1) 1) hs (down ∷ hs)) (up ∷ one_less p r hs)) e
        ∙ ap (λ (b : Bool). pick b hs (down ∷ hs)) (ne_eqb (h.times + 1) 1 (λ z. let q = w.0 in omega arith))
        ∙ ap (λ (k : ℕ). record { looks = h.looks; times = k } ∷ hs) t
    go false e i =
        ap (λ (b : Bool). pick b (pick (eqb h.times 1) (one_more p r hs) (record { looks = h.looks; times = h.times - 1 } ∷ one_more p r hs)) (h ∷ one_less p r (one_more p r hs))) e
        ∙ ap (λ (z : List Held). h ∷ z) i

-- all parts
pub all_sound : (ps : List Part) (hs : List (List Held)) (r : Row) → SoundLists ps hs → SoundLists ps (all_more ps hs r)
unfolding all_more
all_sound [] [] r w = tt
all_sound [] (h ∷ hs) r w = absurd w
all_sound (p ∷ ps) [] r w = absurd w
all_sound (p ∷ ps) (h ∷ hs) r w = (more_positive p.cols r h w.0, all_sound ps hs r w.1)

all_held_more : (ps : List Part) (hs : List (List Held)) (r : Row) → SoundLists ps hs → all_hold ps (all_more ps hs r) r ≡ true
unfolding all_more all_hold
all_held_more [] [] r w = refl
all_held_more [] (h ∷ hs) r w = absurd w
all_held_more (p ∷ ps) [] r w = absurd w
all_held_more (p ∷ ps) (h ∷ hs) r w = and_from _ _ (more_holds p.cols r h) (all_held_more ps hs r w.1)

all_undone : (ps : List Part) (hs : List (List Held)) (r : Row) → SoundLists ps hs → all_less ps (all_more ps hs r) r ≡ hs
unfolding all_more all_less
all_undone [] [] r w = refl
all_undone [] (h ∷ hs) r w = absurd w
all_undone (p ∷ ps) [] r w = absurd w
all_undone (p ∷ ps) (h ∷ hs) r w = ap₂ (λ (a : List Held) (b : List (List Held)). a ∷ b) (less_more p.cols r h w.0) (all_undone ps hs r w.1)

pub put_sound : (ps : List Part) (hs : List (List Held)) (rs : List Row) → SoundLists ps hs → SoundLists ps (put_all ps hs rs)
unfolding put_all
put_sound ps hs [] w = w
put_sound ps hs (r ∷ rs) w = put_sound ps (all_more ps hs r) rs (all_sound ps hs r w)

pub put_push : (ps : List Part) (hs : List (List Held)) (rs : List Row) (r : Row) → put_all ps hs (rs ++ r ∷ []) ≡ all_more ps (put_all ps hs rs) r
unfolding put_all
put_push ps hs [] r = refl
put_push ps hs (s ∷ rs) r = put_push ps (all_more ps hs s) rs r

-- what is read from cells is sound
held_positive : (n k : ℕ) (xs : List ℕ) → Positive (held_in n k xs)
unfolding held_in held_row
held_positive n zero xs = tt
held_positive n (suc k) xs = go (eqb (get_or xs n 0) 0) refl (held_positive n k (drop (n + 1) xs))
  where
    go : (b : Bool) → eqb (get_or xs n 0) 0 ≡ b → Positive (held_in n k (drop (n + 1) xs)) → Positive (pick b [] (held_row n xs ∷ held_in n k (drop (n + 1) xs)))
    go true e i = tt
    go false e i = (let z = eqb-false (get_or xs n 0) 0 e in omega arith, i)

lists_sound : (n room k : ℕ) (ds xs : List ℕ) → SoundLists (parts_in n k ds) (all_held n room k xs)
unfolding parts_in all_held
lists_sound n room zero ds xs = tt
lists_sound n room (suc k) ds xs = (held_positive n room (take (room * (n + 1)) xs), lists_sound n room k (drop (2 + 2 * get_or ds 1 0) ds) (drop (room * (n + 1)) xs))

pub cells_sound : (n : ℕ) (d g : List ℕ) → SoundLists (design_in n d) (held_of n d g)
cells_sound n d g = lists_sound n (room_of n d g) (get_or d 0 0) (drop 1 d) g

-- the rows of a table, with one more
cut_last : (n i : ℕ) (xs : List ℕ) → rows_cut n (suc i) xs ≡ rows_cut n i xs ++ take n (drop (i * n) xs) ∷ []
unfolding rows_cut
cut_last n zero xs = let z : 0 ≡ zero * n = omega arith in ap (λ (k : ℕ). take n (drop k xs) ∷ []) z
cut_last n (suc i) xs =
    ap (λ (z : List Row). take n xs ∷ z) (cut_last n i (drop n xs))
    ∙ ap (λ (z : List ℕ). take n xs ∷ (rows_cut n i (drop n xs) ++ take n z ∷ [])) (drop-drop (i * n) n xs ∙ ap (λ (k : ℕ). drop k xs) (sym (suc_row i n)))

pub cut_push : (n i : ℕ) (xs : List ℕ) → rows_cut n (i + 1) xs ≡ rows_cut n i xs ++ take n (drop (i * n) xs) ∷ []
cut_push n i xs = ap (λ (k : ℕ). rows_cut n k xs) (add-one i) ∙ cut_last n i xs

-- a request that is done has been answered so
pub after_done : (n : ℕ) (d g g₁ : List ℕ) (hs : List (List Held)) (r : Result Unit Refusal) → outcome r ≡ done → After n d g g₁ hs r → NowHolds n d g g₁ hs
after_done n d g g₁ hs (Ok u) e w = w
after_done n d g g₁ hs (Err f) e w = absurd (never f e)
  where
    never : (f : Refusal) → told f ≡ done → ⊥
    never Columns e = let z : ◌≡◌ {A = ℕ} 0 1 = cc in omega arith
    never (RuleCount k) e = let z : ◌≡◌ {A = ℕ} 0 1 = cc in omega arith
    never (Set k) e = let z : ◌≡◌ {A = ℕ} 0 1 = cc in omega arith
    never (ShortRow k) e = let z : ◌≡◌ {A = ℕ} 0 1 = cc in omega arith
    never (KeyRoom k) e = let z : ◌≡◌ {A = ℕ} 0 1 = cc in omega arith
    never (NotADesign k) e = let z : ◌≡◌ {A = ℕ} 0 1 = cc in omega arith
    never (Cells k) e = let z : ◌≡◌ {A = ℕ} 0 1 = cc in omega arith
    never Present e = let z : ◌≡◌ {A = ℕ} 0 1 = cc in omega arith
    never (Broken p q) e = let z : ◌≡◌ {A = ℕ} 0 1 = cc in omega arith
    never Absent e = let z : ◌≡◌ {A = ℕ} 0 1 = cc in omega arith
    never (PartFull p) e = let z : ◌≡◌ {A = ℕ} 0 1 = cc in omega arith

-- whatever is answered, clean cells stay clean, and past the parts nothing changes
pub after_clean : (n : ℕ) (d g g₁ : List ℕ) (hs : List (List Held)) (r : Result Unit Refusal) → After n d g g₁ hs r → CleanCells n d g → CleanCells n d g₁
after_clean n d g g₁ hs (Ok u) w c = w.clean c
after_clean n d g g₁ hs (Err f) w c = subst (λ (z : List ℕ). CleanCells n d z) (sym w) c

pub after_past : (n : ℕ) (d g g₁ : List ℕ) (hs : List (List Held)) (r : Result Unit Refusal) → After n d g g₁ hs r
    → drop (get_or d 0 0 * (room_of n d g * (n + 1))) g₁ ≡ drop (get_or d 0 0 * (room_of n d g * (n + 1))) g
after_past n d g g₁ hs (Ok u) w = w.past
after_past n d g g₁ hs (Err f) w = ap (λ (z : List ℕ). drop (get_or d 0 0 * (room_of n d g * (n + 1))) z) w

pub same_room : (n : ℕ) (d g g₁ : List ℕ) → length g₁ ≡ length g → room_of n d g₁ ≡ room_of n d g
same_room n d g g₁ e = ap (λ (k : ℕ). k / (get_or d 0 0 * (n + 1))) e

module _ (n : ℕ) (d xs : List ℕ) (count k : ℕ) (g g₁ g₂ row : List ℕ) (r : Result Unit Refusal)
    (w : TakenBack n d xs count (k + 1) g g₁) (is : row ≡ take n (drop (k * n) xs)) (fits : (k + 1) * n ≤ length xs) (long : length g₂ ≡ length g₁)
    (tells : outcome r ≡ or_else (opened_told n d) (take_told n (design_in n d) (held_of n d g₁) row))
    (after : After n d g₁ g₂ (all_less (design_in n d) (held_of n d g₁) row) r) where
  abbrev PS : List Part
  PS = design_in n d

  row_long : length row ≡ n
  row_long = ap length is ∙ length-take-le n (drop (k * n) xs) (simp length-drop (omega (arith, next_row k n)))

  module _ (hs : List (List Held)) (o : opened_told n d ≡ done) (s : SoundLists PS hs) (e : held_of n d g ≡ put_all PS hs (rows_cut n count xs)) where
    abbrev H : List (List Held)
    H = put_all PS hs (rows_cut n k xs)

    now_held : held_of n d g₁ ≡ all_more PS H row
    now_held =
        w.held hs o s e ∙ ap (λ (z : List Row). put_all PS hs z) (cut_push n k xs) ∙ put_push PS hs (rows_cut n k xs) (take n (drop (k * n) xs))
        ∙ ap (λ (z : Row). all_more PS H z) (sym is)

    lists_sound_so : SoundLists PS H
    lists_sound_so = put_sound PS hs (rows_cut n k xs) s

    done_so : outcome r ≡ done
    done_so =
        tells ∙ ap (λ (t : Told). or_else t (take_told n PS (held_of n d g₁) row)) o
        ∙ ap (λ (b : Bool). pick b (pick (all_hold PS (held_of n d g₁) row) done (refused 10 0)) (refused 7 (length row))) (eq-eqb (length row) n row_long)
        ∙ ap (λ (b : Bool). pick b done (refused 10 0)) (ap (λ (z : List (List Held)). all_hold PS z row) now_held ∙ all_held_more PS H row lists_sound_so)

    then_held : held_of n d g₂ ≡ H
    then_held =
        (after_done n d g₁ g₂ (all_less PS (held_of n d g₁) row) r done_so after).held ∙ ap (λ (z : List (List Held)). all_less PS z row) now_held ∙ all_undone PS H row lists_sound_so

  pub back_next : TakenBack n d xs count k g g₂
  back_next =
      let room : room_of n d g₁ ≡ room_of n d g = same_room n d g g₁ w.long in
      record {
        long = long ∙ w.long;
        held = then_held;
        clean = λ c. after_clean n d g₁ g₂ (all_less PS (held_of n d g₁) row) r after (w.clean c);
        past = subst (λ (q : ℕ). drop (get_or d 0 0 * (q * (n + 1))) g₂ ≡ drop (get_or d 0 0 * (q * (n + 1))) g₁) room (after_past n d g₁ g₂ (all_less PS (held_of n d g₁) row) r after) ∙ w.past;
      }
