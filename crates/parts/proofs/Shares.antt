-- Every part's share of the cells is written, one after the other.
use Rattle.std.proofs.Common.{◌≡◌, ℕ, zero, suc, ◌+◌, ◌-◌, ◌*◌, ◌/◌, ◌<◌, ◌≤◌, List, [], ◌∷◌, length, get_or, take, drop, sym, refl, ap, ◌∙◌, subst, ap₂, arith, below_more}
use borrow.Rule.Slice.PartMut.{put_mid}
use Rattle.std.specs.List.{between}
use Rattle.std.proofs.lemmas.Slice.{between_is, take-put_mid_below, between-put_mid, drop-put_mid}
use Rattle.std.proofs.lemmas.List.{drop-drop, drop_more, ext_get_or, length-take-le, length-drop}
use Rattle.columns.specs.Cols.{Cols}
use Rattle.dependencies.specs.Tables.{Row}
use Rattle.schema.specs.Design.{Part, no_part}
use Rattle.schema.specs.Layout.{parts_in, design_in}
use Rattle.parts.specs.Changes.{Apart, EachMay}
use Rattle.parts.specs.Day.{Held}
use Rattle.parts.specs.Store.{held_in, all_held, room_of, held_of, Clean}
use Rattle.parts.specs.Answers.{NowHolds}
use Rattle.parts.proofs.Spaces.{next_row, suc_row, row_fits}
use Rattle.parts.proofs.Walks.{shares_fit}

-- the parts and their lists, by their places
pub parts_length : (n k : ℕ) (xs : List ℕ) → length (parts_in n k xs) ≡ k
unfolding parts_in
parts_length n zero xs = refl
parts_length n (suc k) xs = ap suc (parts_length n k (drop (2 + 2 * get_or xs 1 0) xs))

pub held_count : (n room k : ℕ) (xs : List ℕ) → length (all_held n room k xs) ≡ k
unfolding all_held
held_count n room zero xs = refl
held_count n room (suc k) xs = ap suc (held_count n room k (drop (room * (n + 1)) xs))

pub held_part : (n room k p : ℕ) (xs : List ℕ) → p < k → get_or (all_held n room k xs) p [] ≡ held_in n room (take (room * (n + 1)) (drop (p * (room * (n + 1))) xs))
unfolding all_held
held_part n room zero p xs l = absurd (omega arith)
held_part n room (suc k) zero xs l =
    let z : 0 ≡ zero * (room * (n + 1)) = omega arith in ap (λ (a : ℕ). held_in n room (take (room * (n + 1)) (drop a xs))) z
held_part n room (suc k) (suc p) xs l =
    let s : ℕ = room * (n + 1) in
    held_part n room k p (drop s xs) (omega arith)
    ∙ ap (λ (z : List ℕ). held_in n room (take s z)) (drop-drop (p * s) s xs ∙ ap (λ (a : ℕ). drop a xs) (sym (suc_row p s)))

-- one share more is written; W says what is to hold of each
module _ (W : ℕ → List ℕ → Type 0) (xs ys e : List ℕ) (p s : ℕ) (fits : p * s + s ≤ length xs)
    (done : (q : ℕ) → q < p → W q (take s (drop (q * s) xs)))
    (rest : drop (p * s) xs ≡ drop (p * s) e) (long : length ys ≡ s) (is : W p ys) where
  abbrev zs : List ℕ
  zs = put_mid (p * s) (p * s + s - p * s) xs ys

  width : (a : ℕ) → a + s - a ≡ s
  width a = omega arith

  share : (a : ℕ) (vs : List ℕ) → take s (drop a vs) ≡ between a (a + s) vs
  share a vs = ap (λ (z : ℕ). take z (drop a vs)) (sym (width a))

  below : (q : ℕ) → q < p → W q (take s (drop (q * s) zs))
  below q l =
      subst (W q)
      (sym (share (q * s) zs ∙ between_is zs (q * s) (q * s + s)
      ∙ ap (λ (z : List ℕ). drop (q * s) z) (take-put_mid_below (p * s) (p * s + s - p * s) xs ys (q * s + s) (row_fits q p s l) (omega arith))
      ∙ sym (between_is xs (q * s) (q * s + s)) ∙ sym (share (q * s) xs)))
      (done q l)

  here : W p (take s (drop (p * s) zs))
  here = subst (W p) (sym (share (p * s) zs ∙ between-put_mid (p * s) (p * s + s - p * s) xs ys (p * s + s) (omega arith) (omega arith))) is

  share_written : ((q : ℕ) → q < p + 1 → W q (take s (drop (q * s) zs))) × (drop ((p + 1) * s) zs ≡ drop ((p + 1) * s) e)
  share_written = (
    below_more _ p below here,
    drop-put_mid (p * s) (p * s + s - p * s) xs ys ((p + 1) * s) (omega (arith, next_row p s)) (omega arith) (omega arith)
        ∙ rw (next_row p s) (sym (drop-drop s (p * s) xs) ∙ ap (λ (z : List ℕ). drop s z) rest ∙ drop-drop s (p * s) e),
  )

-- the share of part q is as it should be: its list was changed, and it is clean if it was
abbrev pub Changed : (Cols → Row → List Held → List Held) → ℕ → ℕ → List Part → List ℕ → Row → ℕ → List ℕ → Type 0
Changed one n room ps e r q ys =
    (held_in n room ys ≡ one (get_or ps q no_part).cols r (held_in n room (take (room * (n + 1)) (drop (q * (room * (n + 1))) e))))
    × (Clean n room (take (room * (n + 1)) (drop (q * (room * (n + 1))) e)) → Clean n room ys)

-- p parts were changed, these are left, and their cells are as they were
pub record SoFar (one : Cols → Row → List Held → List Held) (n room : ℕ) (d e : List ℕ) (r : Row) (p : ℕ) (left : List Part) (xs : List ℕ) : Type 0 where
  pub few : p ≤ get_or d 0 0
  pub parts : left ≡ drop p (design_in n d)
  pub changed : (q : ℕ) → q < p → Changed one n room (design_in n d) e r q (take (room * (n + 1)) (drop (q * (room * (n + 1))) xs))
  pub same : drop (p * (room * (n + 1))) xs ≡ drop (p * (room * (n + 1))) e

pub same_head : {a b : Part} {xs ys : List Part} → a ∷ xs ≡ b ∷ ys → a ≡ b
same_head q = cc

pub same_tail : {a b : Part} {xs ys : List Part} → a ∷ xs ≡ b ∷ ys → xs ≡ ys
same_tail q = cc

module _ (one : Cols → Row → List Held → List Held) (n room : ℕ) (d e : List ℕ) (r : Row) (is : room ≡ room_of n d e) where
  abbrev K : ℕ
  K = get_or d 0 0

  abbrev S : ℕ
  S = room * (n + 1)

  abbrev PS : List Part
  PS = design_in n d

  fits_all : K * S ≤ length e
  fits_all = subst (λ (z : ℕ). K * (z * (n + 1)) ≤ length e) (sym is) (shares_fit (length e) K (n + 1))

  module _ (p : ℕ) (left : List Part) (part : Part) (behind : List Part) (xs : List ℕ) (l : p < K) (w : SoFar one n room d e r p left xs) (turn : left ≡ part ∷ behind) (long : length xs ≡ length e) where
    pub share_fits : p * S + S ≤ length xs
    share_fits = let a = row_fits p K S l in let b = fits_all in omega arith

    both : get_or PS p no_part ∷ drop (p + 1) PS ≡ part ∷ behind
    both = sym (drop_more PS p no_part (omega (arith, parts_length n K (drop 1 d)))) ∙ sym w.parts ∙ turn

    cols_here : (get_or PS p no_part).cols ≡ part.cols
    cols_here = ap (λ (z : Part). z.cols) (same_head both)

    module _ (size at : ℕ) (es : size ≡ S) (ea : at ≡ p * size) where
      begin : at ≡ p * S
      begin = ea ∙ ap (λ (z : ℕ). p * z) es

      -- the share, as it is lent
      lent_is : take (at + size - at) (drop at xs) ≡ take S (drop (p * S) e)
      lent_is = ap₂ (λ (a : ℕ) (z : List ℕ). take a z) (omega (arith, es)) (ap (λ (z : ℕ). drop z xs) begin ∙ w.same)

      pub lent_long : length (take (at + size - at) (drop at xs)) ≡ room * (n + 1)
      lent_long =
          let h = share_fits in
          let b = begin in
          length-take-le (at + size - at) (drop at xs) (simp length-drop (omega (arith, es))) ∙ omega (arith, es)

      -- where all parts may change, this one may
      pub may_lent : (all_may : ℕ → List Part → List (List Held) → Row → Type 0) (may : ℕ → Cols → Row → List Held → Type 0) → EachMay all_may may → (set : Cols) → set ≡ part.cols
          → all_may (room_of n d e) PS (held_of n d e) r → may room set r (held_in n room (take (at + size - at) (drop at xs)))
      may_lent all_may may each set q f =
          let hs : List (List Held) = all_held n room K e in
          let f' : all_may room PS hs r = subst (λ (z : ℕ). all_may z PS (all_held n z K e) r) (sym is) f in
          subst (λ (c : Cols). may room c r (held_in n room (take (at + size - at) (drop at xs)))) (sym (q ∙ sym cols_here))
          (subst (λ (h : List Held). may room (get_or PS p no_part).cols r h) (sym (ap (λ (z : List ℕ). held_in n room z) lent_is ∙ sym (held_part n room K p e l)))
          (each room PS hs r f' p (omega (arith, parts_length n K (drop 1 d))) (held_count n room K e ∙ sym (parts_length n K (drop 1 d)))))

      pub so_far_next : (next : ℕ) (set : Cols) (ys : List ℕ) → next ≡ p + 1 → set ≡ part.cols
          → length ys ≡ length (take (at + size - at) (drop at xs))
          → held_in n room ys ≡ one set r (held_in n room (take (at + size - at) (drop at xs)))
          → (Clean n room (take (at + size - at) (drop at xs)) → Clean n room ys)
          → SoFar one n room d e r next behind (put_mid at (at + size - at) xs ys)
      so_far_next next set ys en q len h c =
          let here' : Changed one n room PS e r p ys = (
            h ∙ ap₂ (λ (a : Cols) (z : List ℕ). one a r (held_in n room z)) (q ∙ sym cols_here) lent_is,
            λ b. c (subst (λ (z : List ℕ). Clean n room z) (sym lent_is) b),
          ) in
          let W : ℕ → List ℕ → Type 0 = Changed one n room PS e r in
          let s = share_written W xs ys e p S share_fits w.changed w.same (len ∙ lent_long) here' in
          let z : put_mid at (at + size - at) xs ys ≡ put_mid (p * S) (p * S + S - p * S) xs ys = ap₂ (λ (a b : ℕ). put_mid a (a + b - a) xs ys) begin es in
          record {
            few = omega arith;
            parts = sym (same_tail both) ∙ ap (λ (k : ℕ). drop k PS) (sym en);
            changed = λ j b. subst (λ (u : List ℕ). W j (take S (drop (j * S) u))) (sym z) (s.0 j (omega arith));
            same = ap (λ (u : List ℕ). drop (next * S) u) z ∙ subst (λ (k : ℕ). drop (k * S) (put_mid (p * S) (p * S + S - p * S) xs ys) ≡ drop (k * S) e) (sym en) s.1;
          }

  pub so_far_end : (change : List Part → List (List Held) → Row → List (List Held)) → Apart change one → (p : ℕ) (left : List Part) (xs : List ℕ) → K ≤ p → p ≤ K → length xs ≡ length e
      → SoFar one n room d e r p left xs → NowHolds n d e xs (change PS (held_of n d e) r)
  so_far_end change apart p left xs l m long w =
      let at-end : p ≡ K = omega arith in
      let hs : List (List Held) = all_held n room K e in
      let same_room : room_of n d xs ≡ room = ap (λ (z : ℕ). z / (K * (n + 1))) long ∙ sym is in
      let many : length hs ≡ length PS = held_count n room K e ∙ sym (parts_length n K (drop 1 d)) in
      let each : all_held n room K xs ≡ change PS hs r = ext_get_or [] (all_held n room K xs) (change PS hs r)
      (held_count n room K xs ∙ sym (apart.lists PS hs r many ∙ parts_length n K (drop 1 d)))
      (λ i h. let b : i < K = omega (arith, held_count n room K xs) in
      held_part n room K i xs b ∙ (w.changed i (omega arith)).0 ∙ ap (λ (u : List Held). one (get_or PS i no_part).cols r u) (sym (held_part n room K i e b))
      ∙ sym (apart.list PS hs r i (omega (arith, parts_length n K (drop 1 d))) many)) in
      record {
        held = ap (λ (z : ℕ). all_held n z K xs) same_room ∙ each ∙ ap (λ (z : ℕ). change PS (all_held n z K e) r) is;
        clean = λ c q b.
            subst (λ (z : ℕ). Clean n z (take (z * (n + 1)) (drop (q * (z * (n + 1))) xs))) (sym same_room)
            ((w.changed q (omega arith)).1 (subst (λ (z : ℕ). Clean n z (take (z * (n + 1)) (drop (q * (z * (n + 1))) e))) (sym is) (c q b)));
        past = subst (λ (z : ℕ). drop (K * (z * (n + 1))) xs ≡ drop (K * (z * (n + 1))) e) is (subst (λ (z : ℕ). drop (z * S) xs ≡ drop (z * S) e) at-end w.same);
      }
