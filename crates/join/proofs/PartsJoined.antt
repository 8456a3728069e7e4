-- The parts of a register joined one after the other.
use Rattle.std.proofs.Common.{◌≡◌, ℕ, ◌+◌, ◌<◌, ◌≤◌, Bool, false, ◌&&◌, ◌||◌, List, [], ◌∷◌, ◌++◌, length, get_or, take, drop, replicate, sym, refl, ap, ◌∙◌, subst, ap₂, inl, inr, arith}
use Rattle.std.proofs.lemmas.List.{take_more, take_all, length-take-le, get_or_past, get_or-replicate, length-replicate}
use Rattle.std.proofs.lemmas.Bool.{false≢true, cases_lt}
use Rattle.columns.specs.Cols.{Cols, has}
use Rattle.columns.specs.Sets.{cols}
use Rattle.columns.specs.declared.set.ColumnSet.{ColumnSet}
use Rattle.columns.proofs.SetNumbers.{cols_bits}
use Rattle.columns.proofs.Within.{has_past}
use Rattle.dependencies.specs.Tables.{Row}
use Rattle.schema.specs.Design.{Part, no_part}
use Rattle.schema.specs.Layout.{design_in}
use Rattle.parts.specs.Day.{Held, all_hold}
use Rattle.parts.specs.Parts.{PartAt, held_by}
use Rattle.parts.specs.Store.{room_of, held_of}
use Rattle.parts.specs.declared.held_part.HeldPart.{HeldPart}
use Rattle.parts.proofs.Shares.{parts_length, held_count}
use Rattle.join.specs.Joined.{covered, Joined}
use Rattle.join.specs.Steps.{join_all}
use Rattle.join.proofs.OnePartMore.{covered_push, joined_more}

-- p parts are joined, and these are their columns
pub record JoinedSoFar (ps : List Part) (hs : List (List Held)) (p : ℕ) (rows : List Row) (C : Cols) : Type 0 where
  pub joined : Joined (take p ps) (take p hs) rows
  pub reach : (c : ℕ) → has C c ≡ covered (take p ps) c

zeros_at : (k c : ℕ) → get_or (replicate {A = ℕ} k 0) c 0 ≡ 0
zeros_at k c = elim (cases_lt c k) [
  | inl l ↦ get_or-replicate k c 0 0 l
  | inr l ↦ get_or_past (replicate k 0) c 0 (simp length-replicate l)
]

-- of no part one row is joined, with 0 in all columns
nothing_joined : Joined [] [] (replicate 16 0 ∷ [])
unfolding covered all_hold
nothing_joined =
    record {
      sound = λ r m. refl;
      complete = λ q e. (replicate 16 0, inl refl, λ c h. absurd (false≢true h));
      outside = λ r m c h. elim m [ inl e ↦ ap (λ (z : Row). get_or z c 0) (sym e) ∙ zeros_at 16 c | inr k ↦ absurd k ];
      in_turn = (λ s i. absurd i, tt);
    }

take_none : {A : Type 0} (xs : List A) → take 0 xs ≡ []
take_none [] = refl
take_none (x ∷ xs) = refl

pub so_far_start : (ps : List Part) (hs : List (List Held)) (rows : List Row) (C : Cols) → rows ≡ replicate 16 0 ∷ [] → C ≡ [] → JoinedSoFar ps hs 0 rows C
unfolding covered has
so_far_start ps hs rows C e f =
    record {
      joined = subst (λ (z : List Row). Joined (take 0 ps) (take 0 hs) z) (sym e)
          (subst (λ (a : List Part). Joined a (take 0 hs) (replicate 16 0 ∷ [])) (sym (take_none ps)) (subst (λ (b : List (List Held)). Joined [] b (replicate 16 0 ∷ [])) (sym (take_none hs)) nothing_joined));
      reach = λ c. ap (λ (z : Cols). has z c) f ∙ ap (λ (a : List Part). covered a c) (sym (take_none ps));
    }

narrow : (s : ColumnSet) (c : ℕ) → 16 ≤ c → has (cols s) c ≡ false
narrow s c l = ap (λ (z : Cols). has z c) (cols_bits s) ∙ has_past 16 s.bits c l

module _ (n : ℕ) (d g : List ℕ) where
  abbrev PS : List Part
  PS = design_in n d

  abbrev HS : List (List Held)
  HS = held_of n d g

  parts_are : length PS ≡ get_or d 0 0
  parts_are = parts_length n (get_or d 0 0) (drop 1 d)

  lists_are : length HS ≡ get_or d 0 0
  lists_are = held_count n (room_of n d g) (get_or d 0 0) g

  pub so_far_next : (p : ℕ) (h : HeldPart) (C S N : ColumnSet) (rows vs : List Row) → p < get_or d 0 0 → PartAt n d g p h
      → ((c : ℕ) → has (cols S) c ≡ (has (cols C) c && has (cols h.owned) c)) → ((c : ℕ) → has (cols N) c ≡ (has (cols C) c || has (cols h.owned) c))
      → vs ≡ join_all (cols S) (cols h.owned) (held_by h) rows → JoinedSoFar PS HS p rows (cols C) → JoinedSoFar PS HS (p + 1) vs (cols N)
  so_far_next p h C S N rows vs l at shared union e w =
      let P : Part = get_or PS p no_part in
      let H : List Held = get_or HS p [] in
      let a : take (p + 1) PS ≡ take p PS ++ P ∷ [] = take_more PS p no_part (omega (arith, parts_are)) in
      let b : take (p + 1) HS ≡ take p HS ++ H ∷ [] = take_more HS p [] (omega (arith, lists_are)) in
      let len : length (take p HS) ≡ length (take p PS) = length-take-le p HS (omega (arith, lists_are)) ∙ sym (length-take-le p PS (omega (arith, parts_are))) in
      let own : (c : ℕ) → has (cols h.owned) c ≡ has P.cols c = λ c. ap (λ (z : Cols). has z c) at.columns in
      let j : Joined (take p PS ++ P ∷ []) (take p HS ++ H ∷ []) (join_all (cols S) P.cols H rows) = joined_more (take p PS) (take p HS) rows P H (cols C) (cols S) w.reach
      (λ c. shared c ∙ ap (λ (z : Bool). has (cols C) c && z) (own c)) (narrow C) (λ c m. sym (own c) ∙ narrow h.owned c m) len w.joined in
      let v : vs ≡ join_all (cols S) P.cols H rows = e ∙ ap₂ (λ (z : Cols) (y : List Held). join_all (cols S) z y rows) at.columns at.holds in
      record {
        joined = subst (λ (z : List Row). Joined (take (p + 1) PS) (take (p + 1) HS) z) (sym v)
            (subst (λ (z : List Part). Joined z (take (p + 1) HS) (join_all (cols S) P.cols H rows)) (sym a)
            (subst (λ (z : List (List Held)). Joined (take p PS ++ P ∷ []) z (join_all (cols S) P.cols H rows)) (sym b) j));
        reach = λ c. union c ∙ ap₂ (λ (x y : Bool). x || y) (w.reach c) (own c) ∙ sym (covered_push P (take p PS) c) ∙ ap (λ (z : List Part). covered z c) (sym a);
      }

  pub so_far_all : (p : ℕ) (rows : List Row) (C : Cols) → get_or d 0 0 ≤ p → JoinedSoFar PS HS p rows C → Joined PS HS rows
  so_far_all p rows C l w =
      subst (λ (z : List (List Held)). Joined PS z rows) (take_all p HS (omega (arith, lists_are)))
      (subst (λ (z : List Part). Joined z (take p HS) rows) (take_all p PS (omega (arith, parts_are))) w.joined)
