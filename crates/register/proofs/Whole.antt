-- A day on the lent register goes as the day on the parts, and so as the day on the one table.
use Rattle.std.proofs.Common.{◌≡◌, ℕ, zero, suc, ◌+◌, ◌-◌, ◌*◌, ◌/◌, ◌≤◌, Bool, true, false, not, ◌&&◌, eqb, ltb, List, [], ◌∷◌, ◌++◌, length, get_or, take, drop, replicate, Some, None, Option, sym, refl, ap, ◌∙◌, subst, ap₂, inl, inr, arith}
use Rattle.std.proofs.lemmas.List.{get_or-drop, get_or-take, get_or_past, length-take, length-take-le, length-drop, length-replicate}
use Rattle.std.proofs.lemmas.Bool.{and_parts, eq-eqb, false≢true, cases_lt, ltb-false}
use Rattle.columns.specs.Cols.{pick}
use Rattle.columns.proofs.Members.{pick_both}
use Rattle.dependencies.specs.Tables.{Row, Dep}
use Rattle.dependencies.specs.Told.{Told, done, refused, number}
use Rattle.schema.specs.Design.{Part}
use Rattle.schema.specs.Layout.{parts_in, design_in}
use Rattle.parts.specs.Day.{Deed, insert, remove, Held, looks_of, rule_with, rules_with, all_hold, all_allow, all_more, all_less, bare, parts_take, parts_after, parts_day, parts_end}
use Rattle.register.specs.Theorems.{PartsAsWhole}
use Rattle.parts.specs.Store.{all_held, room_of, held_of}
use Rattle.parts.specs.Answers.{broken_in, first_of, first_broken, first_full_part, or_broken, or_full, put_told, take_told}
use Rattle.register.specs.Deeds.{deed_in, deeds_in, most_deeds, day_of, deed_told, is_done, deed_after, day_told, day_end, answers_of, taken_of, never_full, AsWhole, DeedsKept, DayKept}
use Rattle.register.proofs.Days.{parts_as_whole_stands}
use Rattle.parts.proofs.Decoded.{held_stop}
use Rattle.parts.proofs.Counted.{zeros}
use Rattle.parts.proofs.Spaces.{suc_row}
use Rattle.register.proofs.Daily.{whole_fits, fewer_fit}

abbrev has_none : {A : Type 0} → Option A → Bool
has_none None = true
has_none (Some a) = false

none_rules : (q : ℕ) (ds : List Dep) (r : Row) (t : List Row) → has_none (broken_in q ds r t) ≡ rules_with ds r t
unfolding broken_in rules_with
none_rules q [] r t = refl
none_rules q (d ∷ ds) r t = go (rule_with d r t) (none_rules (q + 1) ds r t)
  where
    go : (b : Bool) → has_none (broken_in (q + 1) ds r t) ≡ rules_with ds r t → has_none (pick b (broken_in (q + 1) ds r t) (Some q)) ≡ (b && rules_with ds r t)
    go true e = e
    go false e = refl

-- no rule is found broken exactly if all parts allow the row
none_parts : (k : ℕ) (ps : List Part) (hs : List (List Held)) (r : Row) → has_none (first_broken k ps hs r) ≡ all_allow ps hs r
unfolding first_broken all_allow
none_parts k [] hs r = refl
none_parts k (p ∷ ps) [] r = refl
none_parts k (p ∷ ps) (h ∷ hs) r =
    go (broken_in 0 p.rules r (looks_of h)) ∙ ap₂ (λ (a b : Bool). a && b) (none_rules 0 p.rules r (looks_of h)) (none_parts (k + 1) ps hs r)
  where
    go : (o : Option ℕ) → has_none (first_of k o (first_broken (k + 1) ps hs r)) ≡ (has_none o && has_none (first_broken (k + 1) ps hs r))
    go None = refl
    go (Some q) = refl

-- where 11 is not told, a deed with a whole row is taken exactly if the parts take it
taken_insert : (n room : ℕ) (ps : List Part) (hs : List (List Held)) (r : Row) → length r ≡ n → not (eqb (number (put_told n room ps hs r)) 11) ≡ true
    → is_done (put_told n room ps hs r) ≡ (not (all_hold ps hs r) && all_allow ps hs r)
taken_insert n room ps hs r l m =
    let X : Told = pick (all_hold ps hs r) (refused 8 0) (or_broken (first_broken 0 ps hs r) (or_full (first_full_part 0 room ps hs r))) in
    let u : put_told n room ps hs r ≡ X = ap (λ (b : Bool). pick b X (refused 7 (length r))) (eq-eqb (length r) n l) in
    ap is_done u
    ∙ go (all_hold ps hs r) (first_broken 0 ps hs r) (first_full_part 0 room ps hs r) (ap (λ (t : Told). not (eqb (number t) 11)) (sym u) ∙ m)
    ∙ ap (λ (b : Bool). not (all_hold ps hs r) && b) (none_parts 0 ps hs r)
  where
    go : (a : Bool) (b : Option (ℕ × ℕ)) (f : Option ℕ) → not (eqb (number (pick a (refused 8 0) (or_broken b (or_full f)))) 11) ≡ true
        → is_done (pick a (refused 8 0) (or_broken b (or_full f))) ≡ (not a && has_none b)
    go true b f n = refl
    go false (Some x) f n = refl
    go false None None n = refl
    go false None (Some p) n = absurd (false≢true n)

taken_remove : (n : ℕ) (ps : List Part) (hs : List (List Held)) (r : Row) → length r ≡ n → is_done (take_told n ps hs r) ≡ all_hold ps hs r
taken_remove n ps hs r l =
    let X : Told = pick (all_hold ps hs r) done (refused 10 0) in
    ap is_done (ap (λ (b : Bool). pick b X (refused 7 (length r))) (eq-eqb (length r) n l)) ∙ go (all_hold ps hs r)
  where
    go : (a : Bool) → is_done (pick a done (refused 10 0)) ≡ a
    go true = refl
    go false = refl

-- the row of a deed has n cells
abbrev pub IsWholeRow : ℕ → Deed → Type 0
IsWholeRow n (insert r) = length r ≡ n
IsWholeRow n (remove r) = length r ≡ n

abbrev pub WholeRows : ℕ → List Deed → Type 0
WholeRows n [] = Unit {0}
WholeRows n (e ∷ es) = IsWholeRow n e × WholeRows n es

deed_whole : (n : ℕ) (xs : List ℕ) → n + 1 ≤ length xs → IsWholeRow n (deed_in n xs)
unfolding deed_in
deed_whole n xs l =
    let e : length (take n (drop 1 xs)) ≡ n = length-take-le n (drop 1 xs) (simp length-drop (omega arith)) in
    pick_both (eqb (get_or xs 0 0) 0) (insert (take n (drop 1 xs))) (remove (take n (drop 1 xs))) (λ d. IsWholeRow n d) (λ z. e) (λ z. e)

deeds_whole : (n k : ℕ) (xs : List ℕ) → k * (n + 1) ≤ length xs → WholeRows n (deeds_in n k xs)
unfolding deeds_in
deeds_whole n zero xs l = tt
deeds_whole n (suc k) xs l =
    let s = suc_row k (n + 1) in
    pick_both (ltb 1 (get_or xs 0 0)) [] (deed_in n xs ∷ deeds_in n k (drop (n + 1) xs)) (λ es. WholeRows n es) (λ z. tt)
    (λ z. (deed_whole n xs (omega arith), deeds_whole n k (drop (n + 1) xs) (simp length-drop (omega arith))))

deed_taken : (n room : ℕ) (ps : List Part) (hs : List (List Held)) (e : Deed) → IsWholeRow n e → not (eqb (number (deed_told n room ps hs e)) 11) ≡ true
    → (is_done (deed_told n room ps hs e) ≡ parts_take ps hs e) × (deed_after n room ps hs e ≡ parts_after ps hs e)
unfolding parts_take parts_after
deed_taken n room ps hs (insert r) l m = let t = taken_insert n room ps hs r l m in (t, ap (λ (b : Bool). pick b (all_more ps hs r) hs) t)
deed_taken n room ps hs (remove r) l m = let t = taken_remove n ps hs r l in (t, ap (λ (b : Bool). pick b (all_less ps hs r) hs) t)

day_parts : (n room : ℕ) (ps : List Part) (hs : List (List Held)) (es : List Deed) → WholeRows n es → never_full (day_told n room ps hs es) ≡ true
    → (taken_of (day_told n room ps hs es) ≡ parts_day ps hs es) × (day_end n room ps hs es ≡ parts_end ps hs es)
unfolding never_full day_told day_end taken_of parts_day parts_end
day_parts n room ps hs [] l m = (refl, refl)
day_parts n room ps hs (e ∷ es) l m =
    let a = and_parts (not (eqb (number (deed_told n room ps hs e)) 11)) (never_full (day_told n room ps (deed_after n room ps hs e) es)) m in
    let t = deed_taken n room ps hs e l.0 a.0 in
    let i = day_parts n room ps (deed_after n room ps hs e) es l.1 a.1 in (
      ap₂ (λ (b : Bool) (bs : List Bool). b ∷ bs) t.0 (i.0 ∙ ap (λ (z : List (List Held)). parts_day ps z es) t.1),
      i.1 ∙ ap (λ (z : List (List Held)). parts_end ps z es) t.1,
    )

pub day_whole : (n room : ℕ) (ps : List Part) (hs : List (List Held)) (es : List Deed) → WholeRows n es → hs ≡ day_end n room ps (bare ps) es
    → AsWhole n ps hs (day_told n room ps (bare ps) es) es
unfolding PartsAsWhole
day_whole n room ps hs es l h ds design f =
    let i = day_parts n room ps (bare ps) es l f in
    let w = parts_as_whole_stands n ds ps es design in
    (i.0 ∙ w.0, λ r. ap (λ (z : List (List Held)). all_hold ps z r) (h ∙ i.1) ∙ w.1 r)

-- cells that are all 0
module _ (g : List ℕ) (z : (i : ℕ) → get_or g i 0 ≡ 0) where
  zero_piece : (s a j : ℕ) → get_or (take s (drop a g)) j 0 ≡ 0
  zero_piece s a j =
      elim (cases_lt j s) [
        | inl l ↦ get_or-take s (drop a g) j 0 l ∙ get_or-drop a g j 0 ∙ z (a + j)
        | inr l ↦ get_or_past (take s (drop a g)) j 0 (simp length-take (omega arith))
      ]

cleared : (n room k : ℕ) (xs g : List ℕ) → ((i : ℕ) → get_or g i 0 ≡ 0) → all_held n room k g ≡ bare (parts_in n k xs)
unfolding all_held bare parts_in
cleared n room zero xs g z = refl
cleared n room (suc k) xs g z =
    ap₂ (λ (a : List Held) (b : List (List Held)). a ∷ b) (held_stop n room (take (room * (n + 1)) g) (zero_piece g z (room * (n + 1)) 0 n))
    (cleared n room k (drop (2 + 2 * get_or xs 1 0) xs) (drop (room * (n + 1)) g) (λ i. get_or-drop (room * (n + 1)) g i 0 ∙ z (room * (n + 1) + i)))

-- no more deeds than stand there whole
most_fit : (n : ℕ) (xs out : List ℕ) → most_deeds n xs out * (n + 1) ≤ length xs
most_fit n xs out =
    pick_both (ltb (length xs / (n + 1)) (length out / 2)) (length xs / (n + 1)) (length out / 2) (λ k. k * (n + 1) ≤ length xs) (λ e. whole_fits (length xs) (n + 1))
    (λ e. fewer_fit (length out / 2) (length xs / (n + 1)) (n + 1) (length xs) (ltb-false (length xs / (n + 1)) (length out / 2) e) (whole_fits (length xs) (n + 1)))

-- a day from cleared cells
pub day_kept : (n : ℕ) (d g z g₁ xs out out₁ : List ℕ) (k : ℕ) → z ≡ replicate (length g) 0 → DeedsKept n d z g₁ xs out out₁ k → DayKept n d g g₁ xs out out₁ k
day_kept n d g z g₁ xs out out₁ k e w =
    let nil : (i : ℕ) → get_or z i 0 ≡ 0 = λ i. ap (λ (u : List ℕ). get_or u i 0) e ∙ zeros (length g) i in
    let r : room_of n d z ≡ room_of n d g = ap (λ (u : ℕ). u / (get_or d 0 0 * (n + 1))) (ap length e ∙ length-replicate (length g) 0) in
    let b : held_of n d z ≡ bare (design_in n d) = cleared n (room_of n d z) (get_or d 0 0) (drop 1 d) z nil in
    let held' : held_of n d g₁ ≡ day_end n (room_of n d g) (design_in n d) (bare (design_in n d)) (day_of n xs out)
    = w.held ∙ ap₂ (λ (u : ℕ) (hs : List (List Held)). day_end n u (design_in n d) hs (day_of n xs out)) r b in
    record {
      count = w.count;
      answers = w.answers ∙ ap₂ (λ (u : ℕ) (hs : List (List Held)). answers_of (day_told n u (design_in n d) hs (day_of n xs out)) ++ drop (2 * k) out) r b;
      held = held';
      clean = w.clean (λ p l j h. zero_piece z nil (room_of n d z * (n + 1)) (p * (room_of n d z * (n + 1))) j);
      past = λ j h.
          let a : ℕ = get_or d 0 0 * (room_of n d z * (n + 1)) in
          let h' : a ≤ j = subst (λ (u : ℕ). get_or d 0 0 * (u * (n + 1)) ≤ j) (sym r) h in
          let s : a + (j - a) ≡ j = omega arith in
          ap (λ (u : ℕ). get_or g₁ u 0) (sym s) ∙ sym (get_or-drop a g₁ (j - a) 0) ∙ ap (λ (u : List ℕ). get_or u (j - a) 0) w.past ∙ get_or-drop a z (j - a) 0 ∙ nil (a + (j - a));
      whole = day_whole n (room_of n d g) (design_in n d) (held_of n d g₁) (day_of n xs out) (deeds_whole n (most_deeds n xs out) xs (most_fit n xs out)) held';
    }
