-- What is joined of the parts so far, joined with the next part, is what is joined of all of them.
use Rattle.std.proofs.Common.{◌≡◌, ℕ, zero, suc, ◌<◌, ◌≤◌, Bool, true, false, ◌&&◌, ◌||◌, eqb, ltb, List, [], ◌∷◌, ◌++◌, length, get_or, Some, None, Option, sym, refl, ap, ◌∙◌, subst, ap₂, inl, inr, arith}
use mathlib.Core.Bool.{and_assoc}
use Rattle.std.specs.Option.{option_to_list}
use Rattle.std.proofs.lemmas.Bool.{false≢true, both_ways, lt-ltb, ltb-true, eqb-true, cases_Bool, cases_lt, and_parts, and_from, or_cases, or_parts, or_left, or_right}
use Rattle.columns.specs.Cols.{Cols, has, pick}
use Rattle.columns.specs.Every.{each}
use Rattle.columns.specs.Members.{In}
use Rattle.columns.specs.Order.{before}
use Rattle.columns.proofs.Columns.{has_in, in_has}
use Rattle.columns.proofs.Everyone.{in_each, each_in}
use Rattle.columns.proofs.InOrder.{before_cases, before_less, before_same}
use Rattle.columns.proofs.Lists.{or_assoc}
use Rattle.columns.proofs.Members.{in_left, in_right, in_either}
use Rattle.dependencies.specs.Tables.{Row, agree}
use Rattle.dependencies.proofs.Drawn.{drawn, past}
use Rattle.dependencies.proofs.Rows.{agree_same, same_agree}
use Rattle.schema.specs.Design.{Part}
use Rattle.parts.specs.Day.{Held, holds, all_hold}
use Rattle.parts.specs.Store.{place_in}
use Rattle.parts.proofs.Agree.{agree_sym, like_agree}
use Rattle.parts.proofs.Placed.{holds_place}
use Rattle.join.specs.Joined.{covered, places, InTurn, Joined}
use Rattle.join.specs.Steps.{merged, look_at, join_with, join_first, join_all}
use Rattle.join.proofs.RowsGrow.{with_joined}

-- rows that agree in a part's columns are the same to it
like_place : (p : Cols) (r q : Row) (hs : List Held) → agree p r q ≡ true → place_in p r hs ≡ place_in p q hs
unfolding place_in
like_place p r q [] a = refl
like_place p r q (h ∷ hs) a = ap₂ (λ (b : Bool) (k : ℕ). pick b 0 (suc k)) (like_agree p r q h.looks a) (like_place p r q hs a)

like_holds : (p : Cols) (r q : Row) (hs : List Held) → agree p r q ≡ true → holds p r hs ≡ holds p q hs
like_holds p r q hs a = holds_place p r hs ∙ ap (λ (k : ℕ). ltb k (length hs)) (like_place p r q hs a) ∙ sym (holds_place p q hs)

place_agrees : (p : Cols) (r : Row) (hs : List Held) → place_in p r hs < length hs → agree p r (look_at hs (place_in p r hs)) ≡ true
unfolding place_in
place_agrees p r [] l = absurd (omega arith)
place_agrees p r (h ∷ hs) l = go (agree p r h.looks) refl (place_agrees p r hs) l
  where
    go : (b : Bool) → agree p r h.looks ≡ b → (place_in p r hs < length hs → agree p r (look_at hs (place_in p r hs)) ≡ true)
        → pick b 0 (suc (place_in p r hs)) < suc (length hs) → agree p r (look_at (h ∷ hs) (pick b 0 (suc (place_in p r hs)))) ≡ true
    go true e f l = e
    go false e f l = f (omega arith)

-- rows that are equal wherever some part has a column are the same to all parts
abbrev pub Alike : List Part → Row → Row → Type 0
Alike ps r q = (c : ℕ) → covered ps c ≡ true → get_or r c 0 ≡ get_or q c 0

alike_first : (p : Part) (ps : List Part) (r q : Row) → Alike (p ∷ ps) r q → agree p.cols r q ≡ true
unfolding covered
alike_first p ps r q f = same_agree p.cols r q (λ c i. f c (or_left (has p.cols c) (covered ps c) (in_has p.cols c i)))

alike_rest : (p : Part) (ps : List Part) (r q : Row) → Alike (p ∷ ps) r q → Alike ps r q
unfolding covered
alike_rest p ps r q f c h = f c (or_right (has p.cols c) (covered ps c) h)

alike_hold : (ps : List Part) (hs : List (List Held)) (r q : Row) → Alike ps r q → all_hold ps hs r ≡ all_hold ps hs q
unfolding all_hold
alike_hold [] hs r q f = refl
alike_hold (p ∷ ps) [] r q f = refl
alike_hold (p ∷ ps) (h ∷ hs) r q f =
    ap₂ (λ (a b : Bool). a && b) (like_holds p.cols r q h (alike_first p ps r q f)) (alike_hold ps hs r q (alike_rest p ps r q f))

pub alike_places : (ps : List Part) (hs : List (List Held)) (r q : Row) → Alike ps r q → places ps hs r ≡ places ps hs q
unfolding places
alike_places [] hs r q f = refl
alike_places (p ∷ ps) [] r q f = refl
alike_places (p ∷ ps) (h ∷ hs) r q f =
    ap₂ (λ (k : ℕ) (ks : List ℕ). k ∷ ks) (like_place p.cols r q h (alike_first p ps r q f)) (alike_places ps hs r q (alike_rest p ps r q f))

-- one part behind the others
module _ (P : Part) (h : List Held) where
  hold_push : (ps : List Part) (hs : List (List Held)) (r : Row) → length hs ≡ length ps
      → all_hold (ps ++ P ∷ []) (hs ++ h ∷ []) r ≡ (all_hold ps hs r && holds P.cols r h)
  unfolding all_hold
  hold_push [] [] r l = go (holds P.cols r h)
    where
      go : (b : Bool) → (b && true) ≡ b
      go true = refl
      go false = refl
  hold_push [] (g ∷ hs) r l = absurd (omega arith)
  hold_push (p ∷ ps) [] r l = absurd (omega arith)
  hold_push (p ∷ ps) (g ∷ hs) r l =
      ap (λ (b : Bool). holds p.cols r g && b) (hold_push ps hs r (omega arith)) ∙ sym (and_assoc (holds p.cols r g) (all_hold ps hs r) (holds P.cols r h))

  places_push : (ps : List Part) (hs : List (List Held)) (r : Row) → length hs ≡ length ps
      → places (ps ++ P ∷ []) (hs ++ h ∷ []) r ≡ places ps hs r ++ place_in P.cols r h ∷ []
  unfolding places
  places_push [] [] r l = refl
  places_push [] (g ∷ hs) r l = absurd (omega arith)
  places_push (p ∷ ps) [] r l = absurd (omega arith)
  places_push (p ∷ ps) (g ∷ hs) r l = ap (λ (ks : List ℕ). place_in p.cols r g ∷ ks) (places_push ps hs r (omega arith))

pub covered_push : (P : Part) (ps : List Part) (c : ℕ) → covered (ps ++ P ∷ []) c ≡ (covered ps c || has P.cols c)
unfolding covered
covered_push P [] c = go (has P.cols c)
  where
    go : (b : Bool) → (b || false) ≡ b
    go true = refl
    go false = refl
covered_push P (p ∷ ps) c =
    ap (λ (b : Bool). has p.cols c || b) (covered_push P ps c) ∙ sym (or_assoc (has p.cols c) (covered ps c) (has P.cols c))

places_length : (ps : List Part) (hs : List (List Held)) (r : Row) → length hs ≡ length ps → length (places ps hs r) ≡ length ps
unfolding places
places_length [] hs r l = refl
places_length (p ∷ ps) [] r l = absurd (omega arith)
places_length (p ∷ ps) (h ∷ hs) r l = ap suc (places_length ps hs r (omega arith))

-- the order of places with one more at the end
none_before : before [] [] ≡ true → ⊥
unfolding before
none_before e = false≢true e

before_front : (xs ys : List ℕ) (a b : ℕ) → length xs ≡ length ys → before xs ys ≡ true → before (xs ++ a ∷ []) (ys ++ b ∷ []) ≡ true
before_front [] [] a b l e = absurd (none_before e)
before_front [] (y ∷ ys) a b l e = absurd (omega arith)
before_front (x ∷ xs) [] a b l e = absurd (omega arith)
before_front (x ∷ xs) (y ∷ ys) a b l e = elim (before_cases x y xs ys e) [
  | inl h ↦ before_less x y (xs ++ a ∷ []) (ys ++ b ∷ []) h
  | inr h ↦ before_same x y (xs ++ a ∷ []) (ys ++ b ∷ []) h.0 (before_front xs ys a b (omega arith) h.1)
]

before_last : (xs : List ℕ) (a b : ℕ) → a < b → before (xs ++ a ∷ []) (xs ++ b ∷ []) ≡ true
before_last [] a b l = before_less a b [] [] l
before_last (x ∷ xs) a b l = before_same x x (xs ++ a ∷ []) (xs ++ b ∷ []) refl (before_last xs a b l)

turn_append : (ps : List Part) (hs : List (List Held)) (xs ys : List Row) → InTurn ps hs xs → InTurn ps hs ys
    → ((x y : Row) → In x xs → In y ys → before (places ps hs x) (places ps hs y) ≡ true) → InTurn ps hs (xs ++ ys)
turn_append ps hs [] ys a b f = b
turn_append ps hs (x ∷ xs) ys a b f = (
  λ s i. elim (in_either xs ys s i) [ inl k ↦ a.0 s k | inr k ↦ f x s (inl refl) k ],
  turn_append ps hs xs ys a.1 b (λ u v i j. f u v (inr i) j),
)

-- what joined-with says of its row
module _ (S p : Cols) (hs : List Held) (r : Row) where
  with_made : (i : ℕ) (x : Row) → join_with S p hs r i ≡ Some x
      → (i < length hs) × (agree S r (look_at hs i) ≡ true) × (place_in p (look_at hs i) hs ≡ i) × (merged p (look_at hs i) r ≡ x)
  unfolding join_with
  with_made i x e = go (ltb i (length hs)) (agree S r (look_at hs i)) (eqb (place_in p (look_at hs i) hs) i) refl refl refl e
    where
      go : (a b d : Bool) → ltb i (length hs) ≡ a → agree S r (look_at hs i) ≡ b → eqb (place_in p (look_at hs i) hs) i ≡ d
          → pick a (pick b (pick d (Some (merged p (look_at hs i) r)) None) None) None ≡ Some x
          → (i < length hs) × (agree S r (look_at hs i) ≡ true) × (place_in p (look_at hs i) hs ≡ i) × (merged p (look_at hs i) r ≡ x)
      go true true true u v w e = (ltb-true i (length hs) u, v, eqb-true (place_in p (look_at hs i) hs) i w, cc)
      go true true false u v w e = let z : ◌≡◌ {A = ℕ} 0 1 = cc in absurd (omega arith)
      go true false d u v w e = let z : ◌≡◌ {A = ℕ} 0 1 = cc in absurd (omega arith)
      go false b d u v w e = let z : ◌≡◌ {A = ℕ} 0 1 = cc in absurd (omega arith)

  in_option : (o : Option Row) (x : Row) → In x (option_to_list o) → o ≡ Some x
  in_option None x i = absurd i
  in_option (Some y) x i = elim i [ inl e ↦ ap (λ (z : Row). Some z) e | inr k ↦ absurd k ]

  first_in_lem : (k : ℕ) (x : Row) → In x (join_first S p hs r k) → (i : ℕ) × (i < k) × (join_with S p hs r i ≡ Some x)
  unfolding join_first
  first_in_lem zero x m = absurd m
  first_in_lem (suc k) x m = elim (in_either (join_first S p hs r k) (option_to_list (join_with S p hs r k)) x m) [
    | inl a ↦ let w = first_in_lem k x a in (w.0, omega (arith, w.1), w.2)
    | inr b ↦ (k, omega arith, in_option (join_with S p hs r k) x b)
  ]

  in_first : (k i : ℕ) (x : Row) → i < k → join_with S p hs r i ≡ Some x → In x (join_first S p hs r k)
  unfolding join_first
  in_first zero i x l e = absurd (omega arith)
  in_first (suc k) i x l e = elim (cases_lt i k) [
    | inl h ↦ in_left (join_first S p hs r k) (option_to_list (join_with S p hs r k)) x (in_first k i x h e)
    | inr h ↦
        let s : i ≡ k = omega arith in
        let f : join_with S p hs r k ≡ Some x = subst (λ (j : ℕ). join_with S p hs r j ≡ Some x) s e in
        in_right (join_first S p hs r k) (option_to_list (join_with S p hs r k)) x (subst (λ (o : Option Row). In x (option_to_list o)) (sym f) (inl refl))
  ]

module _ (ps : List Part) (hs : List (List Held)) (rows : List Row) (P : Part) (h : List Held) (C S : Cols)
    (same : (c : ℕ) → has C c ≡ covered ps c) (shared : (c : ℕ) → has S c ≡ (has C c && has P.cols c))
    (low : (c : ℕ) → 16 ≤ c → has C c ≡ false) (low' : (c : ℕ) → 16 ≤ c → has P.cols c ≡ false)
    (len : length hs ≡ length ps) (J : Joined ps hs rows) where
  abbrev p : Cols
  p = P.cols

  abbrev ps' : List Part
  ps' = ps ++ P ∷ []

  abbrev hs' : List (List Held)
  hs' = hs ++ h ∷ []

  abbrev f : Row → List Row
  f r = join_first S p h r (length h)

  merged_at : (r look : Row) → In r rows → (c : ℕ) → get_or (merged p look r) c 0 ≡ pick (has p c) (get_or look c 0) (get_or r c 0)
  unfolding merged
  merged_at r look m c = elim (cases_lt c 16) [
    | inl l ↦ drawn (λ (k : ℕ). pick (has p k) (get_or look k 0) (get_or r k 0)) 16 c l
    | inr l ↦
        past (λ (k : ℕ). pick (has p k) (get_or look k 0) (get_or r k 0)) 16 c l
        ∙ sym (ap (λ (b : Bool). pick b (get_or look c 0) (get_or r c 0)) (low' c l) ∙ J.outside r m c (sym (same c) ∙ low c l))
  ]

  merged_in : (r look : Row) → In r rows → (c : ℕ) → has p c ≡ true → get_or (merged p look r) c 0 ≡ get_or look c 0
  merged_in r look m c e = merged_at r look m c ∙ ap (λ (b : Bool). pick b (get_or look c 0) (get_or r c 0)) e

  merged_out : (r look : Row) → In r rows → (c : ℕ) → has p c ≡ false → get_or (merged p look r) c 0 ≡ get_or r c 0
  merged_out r look m c e = merged_at r look m c ∙ ap (λ (b : Bool). pick b (get_or look c 0) (get_or r c 0)) e

  -- the merged row is the look in the part's columns, and the row in the columns before
  merged_look : (r look : Row) → In r rows → agree p (merged p look r) look ≡ true
  merged_look r look m = same_agree p (merged p look r) look (λ c i. merged_in r look m c (in_has p c i))

  merged_row : (r look : Row) → In r rows → agree S r look ≡ true → Alike ps (merged p look r) r
  merged_row r look m a c e = elim (cases_Bool (has p c)) [
    | inl t ↦ merged_in r look m c t ∙ sym (agree_same S r look a c (has_in S c (shared c ∙ and_from (has C c) (has p c) (same c ∙ e) t)))
    | inr t ↦ merged_out r look m c t
  ]

  -- a row of the next list beside the row that it comes from, and the place of its look
  from_with : (r : Row) → In r rows → (i : ℕ) (x : Row) → join_with S p h r i ≡ Some x
      → (i < length h) × Alike ps x r × (place_in p x h ≡ i) × ((c : ℕ) → has p c ≡ false → get_or x c 0 ≡ get_or r c 0)
  from_with r m i x e =
      let w = with_made S p h r i x e in
      let L : Row = look_at h i in
      let E : merged p L r ≡ x = w.3 in (
        w.0,
        subst (λ (z : Row). Alike ps z r) E (merged_row r L m w.1),
        ap (λ (z : Row). place_in p z h) (sym E) ∙ like_place p (merged p L r) L h (merged_look r L m) ∙ w.2,
        λ c o. ap (λ (z : Row). get_or z c 0) (sym E) ∙ merged_out r L m c o,
      )

  places_of : (r : Row) → In r rows → (i : ℕ) (x : Row) → join_with S p h r i ≡ Some x → places ps' hs' x ≡ places ps hs r ++ i ∷ []
  places_of r m i x e =
      let w = from_with r m i x e in
      places_push P h ps hs x len ∙ ap₂ (λ (a : List ℕ) (b : ℕ). a ++ b ∷ []) (alike_places ps hs x r w.1) w.2

  sound' : (x : Row) → In x (each rows f) → all_hold ps' hs' x ≡ true
  sound' x m =
      let a = each_in rows f x m in
      let b = first_in_lem S p h a.0 (length h) x a.2 in
      let w = from_with a.0 a.1 b.0 x b.2 in
      hold_push P h ps hs x len
      ∙ and_from (all_hold ps hs x) (holds p x h) (alike_hold ps hs x a.0 w.1 ∙ J.sound a.0 a.1)
      (holds_place p x h ∙ lt-ltb (place_in p x h) (length h) (omega (arith, w.0, w.2)))

  outside' : (x : Row) → In x (each rows f) → (c : ℕ) → covered ps' c ≡ false → get_or x c 0 ≡ 0
  outside' x m c e =
      let a = each_in rows f x m in
      let b = first_in_lem S p h a.0 (length h) x a.2 in
      let w = from_with a.0 a.1 b.0 x b.2 in
      let o = or_parts (covered ps c) (has p c) (sym (covered_push P ps c) ∙ e) in
      w.3 c o.1 ∙ J.outside a.0 a.1 c o.0

  complete' : (q : Row) → all_hold ps' hs' q ≡ true → (x : Row) × In x (each rows f) × ((c : ℕ) → covered ps' c ≡ true → get_or x c 0 ≡ get_or q c 0)
  complete' q e =
      let t = and_parts (all_hold ps hs q) (holds p q h) (sym (hold_push P h ps hs q len) ∙ e) in
      let j = J.complete q t.0 in
      let r : Row = j.0 in
      let i : ℕ = place_in p q h in
      let l : i < length h = ltb-true i (length h) (sym (holds_place p q h) ∙ t.1) in
      let L : Row = look_at h i in
      let a : agree p q L ≡ true = place_agrees p q h l in
      let s : agree S r L ≡ true = same_agree S r L (λ c k.
      let b = and_parts (has C c) (has p c) (sym (shared c) ∙ in_has S c k) in
      j.2 c (sym (same c) ∙ b.0) ∙ agree_same p q L a c (has_in p c b.1)) in
      let w : join_with S p h r i ≡ Some (merged p L r) = with_joined S p h r i l s (like_place p L q h (agree_sym p q L a)) in (
        merged p L r,
        in_each rows f r (merged p L r) j.1 (in_first S p h r (length h) i (merged p L r) l w),
        λ c o. elim (cases_Bool (has p c)) [
          | inl b ↦ merged_in r L j.1 c b ∙ sym (agree_same p q L a c (has_in p c b))
          | inr b ↦ merged_out r L j.1 c b ∙ j.2 c (in_before c b o)
        ],
      )
    where
      in_before : (c : ℕ) → has p c ≡ false → covered ps' c ≡ true → covered ps c ≡ true
      in_before c b o = elim (or_cases (covered ps c) (has p c) (sym (covered_push P ps c) ∙ o)) [ inl k ↦ k | inr k ↦ absurd (both_ways (has p c) b k) ]

  turn_first : (r : Row) → In r rows → (k : ℕ) → InTurn ps' hs' (join_first S p h r k)
  unfolding join_first
  turn_first r m zero = tt
  turn_first r m (suc k) = turn_append ps' hs' (join_first S p h r k) (option_to_list (join_with S p h r k)) (turn_first r m k) (one (join_with S p h r k))
      (λ x y i j.
      let a = first_in_lem S p h r k x i in
      let e : places ps' hs' x ≡ places ps hs r ++ a.0 ∷ [] = places_of r m a.0 x a.2 in
      let g : places ps' hs' y ≡ places ps hs r ++ k ∷ [] = places_of r m k y (in_option S p h r (join_with S p h r k) y j) in
      ap₂ (λ (u v : List ℕ). before u v) e g ∙ before_last (places ps hs r) a.0 k a.1)
    where
      one : (o : Option Row) → InTurn ps' hs' (option_to_list o)
      one None = tt
      one (Some x) = (λ s i. absurd i, tt)

  turn_each : (rs : List Row) → ((r : Row) → In r rs → In r rows) → InTurn ps hs rs → InTurn ps' hs' (each rs f)
  turn_each [] sub t = tt
  turn_each (r ∷ rs) sub t = turn_append ps' hs' (f r) (each rs f) (turn_first r (sub r (inl refl)) (length h)) (turn_each rs (λ s i. sub s (inr i)) t.1)
      (λ x y i j.
      let a = first_in_lem S p h r (length h) x i in
      let b = each_in rs f y j in
      let d = first_in_lem S p h b.0 (length h) y b.2 in
      ap₂ (λ (u v : List ℕ). before u v) (places_of r (sub r (inl refl)) a.0 x a.2) (places_of b.0 (sub b.0 (inr b.1)) d.0 y d.2)
      ∙ before_front (places ps hs r) (places ps hs b.0) a.0 d.0 (places_length ps hs r len ∙ sym (places_length ps hs b.0 len)) (t.0 b.0 b.1))

  pub joined_more : Joined ps' hs' (join_all S p h rows)
  joined_more = record { sound = sound'; complete = complete'; outside = outside'; in_turn = turn_each rows (λ r i. i) J.in_turn }
