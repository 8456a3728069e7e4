-- A day of deeds on lent memory, deed by deed.
use Rattle.std.proofs.Common.{◌≡◌, ℕ, zero, suc, ◌+◌, ◌-◌, ◌*◌, ◌/◌, ◌<◌, ◌≤◌, Bool, false, eqb, List, [], ◌∷◌, ◌++◌, length, get_or, take, drop, set, Ok, Err, Result, sym, refl, ap, ◌∙◌, subst, ap₂, append_assoc, arith}
use borrow.Rule.Slice.PartMut.{put_mid}
use Rattle.std.proofs.lemmas.Nat.{div-add-mod', mul-le}
use Rattle.std.proofs.lemmas.List.{take_rest, length-drop, drop-drop, take-append-drop, append-nil}
use Rattle.std.proofs.lemmas.Slice.{take-put_mid, drop-put_mid}
use Rattle.std.proofs.lemmas.Bool.{lt-ltb, le-ltb}
use Rattle.columns.specs.Cols.{pick}
use Rattle.dependencies.specs.Tables.{Row}
use Rattle.dependencies.specs.Told.{Told, told, number, place}
use Rattle.dependencies.specs.declared.refusals.Refusal.{Refusal}
use Rattle.dependencies.specs.declared.refusals.Refusal.TheVariants.{Columns, RuleCount, Set, ShortRow, KeyRoom, NotADesign, Cells, Present, Broken, Absent, PartFull}
use Rattle.schema.specs.Design.{Part}
use Rattle.schema.specs.Layout.{design_in}
use Rattle.parts.specs.Day.{Deed, insert, remove, Held}
use Rattle.parts.specs.Store.{room_of, held_of, CleanCells}
use Rattle.parts.specs.Answers.{outcome, After}
use Rattle.register.specs.Kinds.{asks}
use Rattle.register.specs.declared.deed_kind_type.DeedKind.{DeedKind}
use Rattle.register.specs.Deeds.{deed_in, deeds_in, most_deeds, day_of, deed_told, deed_held, is_done, deed_after, day_told, day_end, answers_of, DeedsKept}
use Rattle.parts.proofs.Spaces.{suc_row}

-- a quotient times the divisor
pub whole_fits : (x w : ℕ) → x / w * w ≤ x
whole_fits x w = omega (arith, div-add-mod' x w)

pub fewer_fit : (a b w x : ℕ) → a ≤ b → b * w ≤ x → a * w ≤ x
fewer_fit a b w x l h = omega (arith, mul-le a w b w l (omega arith))

pub two_written : (s : List ℕ) (a b : ℕ) → length s ≡ 2 → set (set s 0 a) 1 b ≡ a ∷ b ∷ []
two_written [] a b e = absurd (omega arith)
two_written (x ∷ []) a b e = absurd (omega arith)
two_written (x ∷ y ∷ []) a b e = refl
two_written (x ∷ y ∷ z ∷ s) a b e = absurd (omega arith)

-- the deed that a kind and the cells behind its number are
pub asked_deed : (n len : ℕ) (left : List ℕ) (kind : DeedKind)
    → ((r : Row) → asks kind r ≡ pick (eqb (get_or left 0 0) 0) (insert r) (remove r)) → len ≡ n + 1
    → asks kind (take (len - 1) (drop 1 left)) ≡ deed_in n left
unfolding deed_in
asked_deed n len left kind is long =
    let z : len - 1 ≡ n = omega arith in
    is (take (len - 1) (drop 1 left))
    ∙ ap (λ (k : ℕ). pick (eqb (get_or left 0 0) 0) (insert (take k (drop 1 left))) (remove (take k (drop 1 left)))) z

deeds_more : (n k : ℕ) (xs : List ℕ) → 0 < k → get_or xs 0 0 ≤ 1 → deeds_in n k xs ≡ deed_in n xs ∷ deeds_in n (k - 1) (drop (n + 1) xs)
unfolding deeds_in
deeds_more n zero xs l h = absurd (omega arith)
deeds_more n (suc k) xs l h =
    let z : k ≡ suc k - 1 = omega arith in
    ap (λ (b : Bool). pick b [] (deed_in n xs ∷ deeds_in n k (drop (n + 1) xs))) (le-ltb 1 (get_or xs 0 0) h) ∙ ap (λ (m : ℕ). deed_in n xs ∷ deeds_in n m (drop (n + 1) xs)) z

pub deeds_stop : (n k : ℕ) (xs : List ℕ) → 1 < get_or xs 0 0 → deeds_in n k xs ≡ []
unfolding deeds_in
deeds_stop n zero xs h = refl
deeds_stop n (suc k) xs h = ap (λ (b : Bool). pick b [] (deed_in n xs ∷ deeds_in n k (drop (n + 1) xs))) (lt-ltb 1 (get_or xs 0 0) h)

pub deeds_over : (n k : ℕ) (xs : List ℕ) → k ≤ 0 → deeds_in n k xs ≡ []
unfolding deeds_in
deeds_over n zero xs l = refl
deeds_over n (suc k) xs l = absurd (omega arith)

pub told_refuses : (e : Refusal) → is_done (told e) ≡ false
told_refuses Columns = refl
told_refuses (RuleCount k) = refl
told_refuses (Set i) = refl
told_refuses (ShortRow k) = refl
told_refuses (KeyRoom k) = refl
told_refuses (NotADesign c) = refl
told_refuses (Cells k) = refl
told_refuses Present = refl
told_refuses (Broken p r) = refl
told_refuses Absent = refl
told_refuses (PartFull p) = refl

-- what the parts hold after an answer
after_held : {A : Type 0} (n : ℕ) (d g g₁ : List ℕ) (hs : List (List Held)) (a : Result A Refusal) → After n d g g₁ hs a → held_of n d g₁ ≡ pick (is_done (outcome a)) hs (held_of n d g)
after_held n d g g₁ hs (Ok x) f = f.held
after_held n d g g₁ hs (Err e) f = ap (held_of n d) f ∙ sym (refused_pick (told e) (told_refuses e))
  where
    refused_pick : (t : Told) → is_done t ≡ false → pick (is_done t) hs (held_of n d g) ≡ held_of n d g
    refused_pick t z = ap (λ (b : Bool). pick b hs (held_of n d g)) z

after_clean : {A : Type 0} (n : ℕ) (d g g₁ : List ℕ) (hs : List (List Held)) (a : Result A Refusal) → After n d g g₁ hs a → CleanCells n d g → CleanCells n d g₁
after_clean n d g g₁ hs (Ok x) f c = f.clean c
after_clean n d g g₁ hs (Err e) f c = subst (λ (z : List ℕ). CleanCells n d z) (sym f) c

after_past : {A : Type 0} (n : ℕ) (d g g₁ : List ℕ) (hs : List (List Held)) (a : Result A Refusal) → After n d g g₁ hs a
    → drop (get_or d 0 0 * (room_of n d g * (n + 1))) g₁ ≡ drop (get_or d 0 0 * (room_of n d g * (n + 1))) g
after_past n d g g₁ hs (Ok x) f = f.past
after_past n d g g₁ hs (Err e) f = ap (λ (z : List ℕ). drop (get_or d 0 0 * (room_of n d g * (n + 1))) z) f

-- e deeds were answered, of at most k
pub record KeptSoFar (n k : ℕ) (d start xs out : List ℕ) (e : ℕ) (g left out₁ : List ℕ) : Type 0 where
  pub long : (k - e) * (n + 1) ≤ length left
  pub short : length left ≤ length xs
  pub answers : take (2 * e) out₁ ++ answers_of (day_told n (room_of n d start) (design_in n d) (held_of n d g) (deeds_in n (k - e) left))
      ≡ answers_of (day_told n (room_of n d start) (design_in n d) (held_of n d start) (deeds_in n k xs))
  pub end : day_end n (room_of n d start) (design_in n d) (held_of n d g) (deeds_in n (k - e) left) ≡ day_end n (room_of n d start) (design_in n d) (held_of n d start) (deeds_in n k xs)
  pub rest : drop (2 * e) out₁ ≡ drop (2 * e) out
  pub count : e + length (deeds_in n (k - e) left) ≡ length (deeds_in n k xs)
  pub clean : CleanCells n d start → CleanCells n d g
  pub past : drop (get_or d 0 0 * (room_of n d start * (n + 1))) g ≡ drop (get_or d 0 0 * (room_of n d start * (n + 1))) start

pub kept_start : (n k : ℕ) (d g xs out : List ℕ) → k * (n + 1) ≤ length xs → KeptSoFar n k d g xs out 0 g xs out
kept_start n k d g xs out l =
    let z : k - 0 ≡ k = omega arith in
    record {
      long = subst (λ (m : ℕ). m * (n + 1) ≤ length xs) (sym z) l;
      short = omega arith;
      answers = ap (λ (m : ℕ). answers_of (day_told n (room_of n d g) (design_in n d) (held_of n d g) (deeds_in n m xs))) z;
      end = ap (λ (m : ℕ). day_end n (room_of n d g) (design_in n d) (held_of n d g) (deeds_in n m xs)) z;
      rest = refl;
      count = ap (λ (m : ℕ). 0 + length (deeds_in n m xs)) z ∙ omega arith;
      clean = λ c. c;
      past = refl;
    }

module _ (n k : ℕ) (d start xs out : List ℕ) (e : ℕ) (g left out₁ : List ℕ) (w : KeptSoFar n k d start xs out e g left out₁) where
  pub deed_long : e < k → n + 1 ≤ length left
  deed_long l =
      let z : k - e ≡ suc (k - e - 1) = omega arith in
      let s : (k - e) * (n + 1) ≡ (n + 1) + (k - e - 1) * (n + 1) = ap (λ (m : ℕ). m * (n + 1)) z ∙ suc_row (k - e - 1) (n + 1) in
      omega (arith, w.long)

  pub kept_next : {A : Type 0} (len : ℕ) (g₁ slot behind : List ℕ) (a : Result A Refusal) → e < k → 2 * e + 2 ≤ length out₁ → length g ≡ length start → len ≡ n + 1 → get_or left 0 0 ≤ 1
      → (asked : Deed) → asked ≡ deed_in n left
      → outcome a ≡ deed_told n (room_of n d g) (design_in n d) (held_of n d g) asked
      → After n d g g₁ (deed_held (design_in n d) (held_of n d g) asked) a
      → slot ≡ number (outcome a) ∷ place (outcome a) ∷ [] → behind ≡ take (length left - len) (drop len left)
      → KeptSoFar n k d start xs out (e + 1) g₁ behind (put_mid (2 * e) (2 * e + 2 - 2 * e) out₁ slot)
  unfolding day_told day_end answers_of
  kept_next len g₁ slot behind a l room same is small asked deed t f s b =
      let E : Deed = deed_in n left in
      let R : ℕ = room_of n d start in
      let PS : List Part = design_in n d in
      let HS : List (List Held) = held_of n d g in
      let r : room_of n d g ≡ R = ap (λ (z : ℕ). z / (get_or d 0 0 * (n + 1))) same in
      let t' : outcome a ≡ deed_told n R PS HS E = t ∙ ap₂ (λ (z : ℕ) (x : Deed). deed_told n z PS HS x) r deed in
      let h : held_of n d g₁ ≡ deed_after n R PS HS E
      = after_held n d g g₁ _ a f ∙ ap₂ (λ (z : Told) (x : Deed). pick (is_done z) (deed_held PS HS x) HS) t' deed in
      let bl : behind ≡ drop (n + 1) left = b ∙ take_rest left len ∙ ap (λ (z : ℕ). drop z left) is in
      let m : k - e - 1 ≡ k - (e + 1) = omega arith in
      let more : deeds_in n (k - e) left ≡ E ∷ deeds_in n (k - (e + 1)) behind
      = deeds_more n (k - e) left (omega arith) small ∙ ap₂ (λ (z : ℕ) (x : List ℕ). E ∷ deeds_in n z x) m (sym bl) in
      let two : length slot ≡ 2 = ap length s in
      let w2 : 2 * e + 2 - 2 * e ≡ 2 = omega arith in
      let fr : take (2 * (e + 1)) (put_mid (2 * e) (2 * e + 2 - 2 * e) out₁ slot) ≡ take (2 * e) out₁ ++ slot
      = take-put_mid (2 * e) (2 * e + 2 - 2 * e) out₁ slot (2 * (e + 1)) (omega arith) (omega arith) in
      let rows : suc (k - (e + 1)) * (n + 1) ≡ (n + 1) + (k - (e + 1)) * (n + 1) = suc_row (k - (e + 1)) (n + 1) in
      let km : k - e ≡ suc (k - (e + 1)) = omega arith in
      let lw : suc (k - (e + 1)) * (n + 1) ≤ length left = subst (λ (z : ℕ). z * (n + 1) ≤ length left) km w.long in
      let lb : length behind ≡ length left - (n + 1) = ap length bl ∙ length-drop (n + 1) left in
      record {
        long = omega arith;
        short = omega (arith, w.short);
        answers =
            ap (λ (z : List ℕ). z ++ answers_of (day_told n R PS (held_of n d g₁) (deeds_in n (k - (e + 1)) behind))) fr
            ∙ append_assoc (take (2 * e) out₁) slot (answers_of (day_told n R PS (held_of n d g₁) (deeds_in n (k - (e + 1)) behind)))
            ∙ ap (λ (z : List ℕ). take (2 * e) out₁ ++ z)
            (ap₂ (λ (u : List ℕ) (z : List (List Held)). u ++ answers_of (day_told n R PS z (deeds_in n (k - (e + 1)) behind)))
            (s ∙ ap (λ (z : Told). number z ∷ place z ∷ []) t') h)
            ∙ sym (ap (λ (z : List Deed). take (2 * e) out₁ ++ answers_of (day_told n R PS HS z)) more) ∙ w.answers;
        end = ap (λ (z : List (List Held)). day_end n R PS z (deeds_in n (k - (e + 1)) behind)) h ∙ sym (ap (λ (z : List Deed). day_end n R PS HS z) more) ∙ w.end;
        rest =
            let de : 2 * (e + 1) ≡ 2 * e + 2 = omega arith in
            drop-put_mid (2 * e) (2 * e + 2 - 2 * e) out₁ slot (2 * (e + 1)) (omega arith) (omega arith) (omega arith)
            ∙ ap (λ (z : ℕ). drop z out₁) de ∙ sym (drop-drop 2 (2 * e) out₁) ∙ ap (λ (z : List ℕ). drop 2 z) w.rest ∙ drop-drop 2 (2 * e) out ∙ ap (λ (z : ℕ). drop z out) (sym de);
        count = let c = ap length more in omega (arith, w.count);
        clean = λ c. after_clean n d g g₁ _ a f (w.clean c);
        past = subst (λ (z : ℕ). drop (get_or d 0 0 * (z * (n + 1))) g₁ ≡ drop (get_or d 0 0 * (z * (n + 1))) g) r (after_past n d g g₁ _ a f) ∙ w.past;
      }

  -- no deed is left
  pub kept_end : k ≡ most_deeds n xs out → deeds_in n (k - e) left ≡ [] → DeedsKept n d start g xs out out₁ e
  unfolding day_told day_end answers_of
  kept_end q none =
      let all : deeds_in n k xs ≡ day_of n xs out = ap (λ (z : ℕ). deeds_in n z xs) q in
      let R : ℕ = room_of n d start in
      let PS : List Part = design_in n d in
      let front : take (2 * e) out₁ ≡ answers_of (day_told n R PS (held_of n d start) (day_of n xs out))
      = sym (append-nil (take (2 * e) out₁)) ∙ sym (ap (λ (z : List Deed). take (2 * e) out₁ ++ answers_of (day_told n R PS (held_of n d g) z)) none) ∙ w.answers
      ∙ ap (λ (z : List Deed). answers_of (day_told n R PS (held_of n d start) z)) all in
      record {
        count = (let c = ap length none in let f = w.count in omega arith) ∙ ap length all;
        answers = sym (take-append-drop (2 * e) out₁) ∙ ap₂ (λ (u v : List ℕ). u ++ v) front w.rest;
        held = sym (ap (λ (z : List Deed). day_end n R PS (held_of n d g) z) none) ∙ w.end ∙ ap (λ (z : List Deed). day_end n R PS (held_of n d start) z) all;
        clean = w.clean;
        past = w.past;
      }
