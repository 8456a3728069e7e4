-- One part counts a row once more or once less: what its cells hold then, and that behind what it holds every cell stays 0.
use Rattle.std.proofs.Common.{◌≡◌, ℕ, suc, ◌+◌, ◌-◌, ◌*◌, ◌<◌, ◌≤◌, true, ◌≢◌, List, ◌∷◌, ◌++◌, length, get_or, take, drop, set, replicate, sym, refl, ap, ◌∙◌, subst, inl, inr, arith}
use Rattle.std.proofs.lemmas.Bool.{ltb-true, cases_lt, cases_eq}
use Rattle.std.proofs.lemmas.List.{take_rest, length-take-le, take_at, drop_at, length-append, length-drop, length-replicate, get_or_append_left, get_or-append_right, get_or-replicate, get_or_past, get_or-drop, get_or-set_other}
use Rattle.columns.specs.Cols.{Cols}
use Rattle.dependencies.specs.Tables.{Row}
use Rattle.parts.specs.Day.{Held, masked, holds, one_more, one_less}
use Rattle.parts.specs.Store.{held_in, no_held, place_in, Clean}
use Rattle.parts.proofs.Spaces.{next_row, row_fits, rows_fit, zero_there}
use Rattle.parts.proofs.Decoded.{held_length, held_at, held_set, held_push, held_drop}
use Rattle.parts.proofs.Placed.{place_le, holds_place, more_at, more_new, less_last, less_at}
use Rattle.parts.proofs.Masking.{masked_length}
use Rattle.parts.proofs.Written.{put_end}
use borrow.Rule.Slice.PartMut.{put_mid}

module _ (n k : ℕ) (p : Cols) (r : Row) (xs : List ℕ) (long : length xs ≡ k * (n + 1)) where
  abbrev H : List Held
  H = held_in n k xs

  abbrev w : ℕ
  w = n + 1

  pub counted_more : (i t : ℕ) → i ≡ place_in p r H → i < length H → t ≡ get_or xs (i * w + n) 0 → held_in n k (set xs (i * w + n) (t + 1)) ≡ one_more p r H
  counted_more i t q l e =
      let h = held_at n i k xs l in
      held_set n i k (t + 1) xs long l (omega arith)
      ∙ ap (λ (z : ℕ). take i H ++ (record { looks = (get_or H i no_held).looks; times = z + 1 } ∷ drop (suc i) H)) (e ∙ sym h.1)
      ∙ subst (λ (z : ℕ). take z H ++ (record { looks = (get_or H z no_held).looks; times = (get_or H z no_held).times + 1 } ∷ drop (suc z) H) ≡ one_more p r H) (sym q)
      (sym (more_at p r H (subst (λ (z : ℕ). z < length H) q l)))

  pub counted_new : (i : ℕ) (ys rest : List ℕ) → length r ≡ n → i ≡ place_in p r H → length H ≤ i → i < k
      → ys ≡ take (i * w) xs ++ (masked p 0 r ++ (1 ∷ set rest n 0)) → held_in n k ys ≡ one_more p r H
  counted_new i ys rest m q l g e =
      let a = place_le p r H in
      let f = rows_fit i k w (omega arith) in
      let o : length (take (i * w) xs) ≡ i * w = length-take-le (i * w) xs (omega arith) in
      held_push n k xs ys (masked p 0 r) rest i (omega arith) g
      (ap (λ (z : List ℕ). take (i * w) z) e ∙ take_at (take (i * w) xs) _ (i * w) o)
      (ap (λ (z : List ℕ). drop (i * w) z) e ∙ drop_at (take (i * w) xs) _ (i * w) o)
      (masked_length p 0 r ∙ m)
      ∙ sym (more_new p r H (omega arith))

  pub counted_less : (i t : ℕ) → i ≡ place_in p r H → i < length H → t ≡ get_or xs (i * w + n) 0 → (t ≡ 1 → ⊥) → held_in n k (set xs (i * w + n) (t - 1)) ≡ one_less p r H
  counted_less i t q l e ne =
      let h = held_at n i k xs l in
      let o = h.2 in
      held_set n i k (t - 1) xs long l (omega arith)
      ∙ ap (λ (z : ℕ). take i H ++ (record { looks = (get_or H i no_held).looks; times = z - 1 } ∷ drop (suc i) H)) (e ∙ sym h.1)
      ∙ subst (λ (z : ℕ). take z H ++ (record { looks = (get_or H z no_held).looks; times = (get_or H z no_held).times - 1 } ∷ drop (suc z) H) ≡ one_less p r H) (sym q)
      (sym (less_at p r H (subst (λ (z : ℕ). z < length H) q l)
      (subst (λ (z : ℕ). (get_or H z no_held).times ≡ 1 → ⊥) q (λ b. ne (e ∙ sym h.1 ∙ b)))))

  pub counted_last : (i t : ℕ) (ys : List ℕ) → i ≡ place_in p r H → i < length H → t ≡ get_or xs (i * w + n) 0 → t ≡ 1
      → ys ≡ take (i * w) xs ++ (drop w (drop (i * w) xs) ++ replicate (n + 1) 0) → held_in n k ys ≡ one_less p r H
  counted_last i t ys q l e one d =
      let h = held_at n i k xs l in
      let a = held_length n k xs in
      let f = rows_fit i k w (omega arith) in
      let o : length (take (i * w) xs) ≡ i * w = length-take-le (i * w) xs (omega arith) in
      held_drop n i k xs ys (replicate (n + 1) 0) long l
      (ap (λ (z : List ℕ). take (i * w) z) d ∙ take_at (take (i * w) xs) _ (i * w) o)
      (ap (λ (z : List ℕ). drop (i * w) z) d ∙ drop_at (take (i * w) xs) _ (i * w) o)
      (get_or-replicate (n + 1) n 0 0 (omega arith))
      ∙ subst (λ (z : ℕ). take z H ++ drop (suc z) H ≡ one_less p r H) (sym q)
      (sym (less_last p r H (subst (λ (z : ℕ). z < length H) q l) (subst (λ (z : ℕ). (get_or H z no_held).times ≡ 1) q (h.1 ∙ sym e ∙ one))))

-- what is put in the place of one held look leaves as many
length_mid : {A : Type 0} (hs : List A) (i : ℕ) (h : A) → i < length hs → length (take i hs ++ (h ∷ drop (suc i) hs)) ≡ length hs
length_mid hs i h l =
    let a = length-take-le i hs (omega arith) in
    let b = length-drop (suc i) hs in
    length-append (take i hs) (h ∷ drop (suc i) hs) ∙ omega arith

length_less : {A : Type 0} (hs : List A) (i : ℕ) → i < length hs → length (take i hs ++ drop (suc i) hs) ≡ length hs - 1
length_less hs i l =
    let a = length-take-le i hs (omega arith) in
    let b = length-drop (suc i) hs in
    length-append (take i hs) (drop (suc i) hs) ∙ omega arith

pub zeros : (k j : ℕ) → get_or (replicate {A = ℕ} k 0) j 0 ≡ 0
zeros k j = elim (cases_lt j k) [ inl l ↦ get_or-replicate k j 0 0 l | inr l ↦ get_or_past (replicate k 0) j 0 (simp length-replicate l) ]

-- cells from a place on
module _ (n k : ℕ) (xs : List ℕ) (clean : Clean n k xs) where
  abbrev G : List Held
  G = held_in n k xs

  pub clean_set : (i v : ℕ) → i < length G → length (held_in n k (set xs (i * (n + 1) + n) v)) ≡ length G → Clean n k (set xs (i * (n + 1) + n) v)
  clean_set i v l e j h =
      let f = row_fits i (length G) (n + 1) l in
      let g : length G * (n + 1) ≤ j = subst (λ (z : ℕ). z * (n + 1) ≤ j) e h in
      let ne : j ≢ i * (n + 1) + n = (λ q. omega arith) in
      get_or-set_other xs (i * (n + 1) + n) j v 0 ne ∙ clean j g

  pub clean_new : (i : ℕ) (ys M : List ℕ) → length M ≡ n → length G ≤ i → i * (n + 1) ≤ length xs → ys ≡ take (i * (n + 1)) xs ++ (M ++ (1 ∷ set (drop (n + 1) (drop (i * (n + 1)) xs)) n 0))
      → length (held_in n k ys) ≡ i + 1 → Clean n k ys
  clean_new i ys M m l f e q j h =
      let w : ℕ = n + 1 in
      let g : (i + 1) * w ≤ j = subst (λ (z : ℕ). z * w ≤ j) q h in
      let s = next_row i w in
      let o : length (take (i * w) xs) ≡ i * w = length-take-le (i * w) xs f in
      let low = rows_fit (length G) i w l in
      let T : List ℕ = set (drop w (drop (i * w) xs)) n 0 in
      let a : get_or ys j 0 ≡ get_or (M ++ (1 ∷ T)) (j - i * w) 0 = ap (λ (z : List ℕ). get_or z j 0) e ∙ get_or-append_right (take (i * w) xs) (M ++ (1 ∷ T)) (i * w) j 0 o (omega arith) in
      let b : get_or (M ++ (1 ∷ T)) (j - i * w) 0 ≡ get_or (1 ∷ T) (j - i * w - n) 0 = get_or-append_right M (1 ∷ T) n (j - i * w) 0 m (omega arith) in
      let x : j - i * w - n ≡ suc (j - i * w - w) = omega arith in
      let d : get_or (drop w (drop (i * w) xs)) (j - i * w - w) 0 ≡ 0
      = get_or-drop w (drop (i * w) xs) (j - i * w - w) 0 ∙ get_or-drop (i * w) xs (w + (j - i * w - w)) 0 ∙ ap (λ (z : ℕ). get_or xs z 0) (omega arith) ∙ clean j (omega arith) in
      a ∙ b ∙ ap (λ (z : ℕ). get_or (1 ∷ T) z 0) x
      ∙ elim (cases_eq (j - i * w - w) n) [
        | inl y ↦ ap (λ (z : ℕ). get_or T z 0) y ∙ zero_there (drop w (drop (i * w) xs)) n
        | inr y ↦ get_or-set_other (drop w (drop (i * w) xs)) n (j - i * w - w) 0 0 y ∙ d
      ]

  pub clean_drop : (i : ℕ) (ys : List ℕ) → i < length G → i * (n + 1) ≤ length xs → ys ≡ take (i * (n + 1)) xs ++ (drop (n + 1) (drop (i * (n + 1)) xs) ++ replicate (n + 1) 0)
      → length (held_in n k ys) ≡ length G - 1 → Clean n k ys
  clean_drop i ys l f e q j h =
      let w : ℕ = n + 1 in
      let g : (length G - 1) * w ≤ j = subst (λ (z : ℕ). z * w ≤ j) q h in
      let s = next_row (length G - 1) w in
      let one : length G - 1 + 1 ≡ length G = omega arith in
      let s' : length G * w ≡ (length G - 1) * w + w = ap (λ (z : ℕ). z * w) (sym one) ∙ s in
      let low = rows_fit i (length G - 1) w (omega arith) in
      let o : length (take (i * w) xs) ≡ i * w = length-take-le (i * w) xs f in
      let D : List ℕ = drop w (drop (i * w) xs) in
      let a : get_or ys j 0 ≡ get_or (D ++ replicate w 0) (j - i * w) 0 = ap (λ (z : List ℕ). get_or z j 0) e ∙ get_or-append_right (take (i * w) xs) (D ++ replicate w 0) (i * w) j 0 o (omega arith) in
      a ∙ elim (cases_lt (j - i * w) (length D)) [
        | inl y ↦ get_or_append_left D (replicate w 0) 0 (j - i * w) y ∙ get_or-drop w (drop (i * w) xs) (j - i * w) 0 ∙ get_or-drop (i * w) xs (w + (j - i * w)) 0
            ∙ ap (λ (z : ℕ). get_or xs z 0) (omega arith) ∙ clean (j + w) (omega arith)
        | inr y ↦ get_or-append_right D (replicate w 0) (length D) (j - i * w) 0 refl y ∙ zeros w (j - i * w - length D)
      ]

module _ (n k : ℕ) (p : Cols) (r : Row) (xs : List ℕ) (long : length xs ≡ k * (n + 1)) (i : ℕ) (q : i ≡ place_in p r (held_in n k xs)) where
  abbrev L : List Held
  L = held_in n k xs

  fit : i ≤ k → i * (n + 1) ≤ length xs
  fit l = omega (arith, rows_fit i k (n + 1) l)

  room : i < length L → i ≤ k
  room l = let a = held_length n k xs in omega arith

  pub in_again : (t : ℕ) → i < length L → t ≡ get_or xs (i * (n + 1) + n) 0
      → (held_in n k (set xs (i * (n + 1) + n) (t + 1)) ≡ one_more p r L) × (Clean n k xs → Clean n k (set xs (i * (n + 1) + n) (t + 1)))
  in_again t l e =
      let h = counted_more n k p r xs long i t q l e in
      (h, λ clean. clean_set n k xs clean i (t + 1) l (ap length (held_set n i k (t + 1) xs long l (omega arith)) ∙ length_mid L i _ l))

  pub in_new : (ys : List ℕ) → length r ≡ n → length L ≤ i → i < k → ys ≡ take (i * (n + 1)) xs ++ (masked p 0 r ++ (1 ∷ set (drop (n + 1) (drop (i * (n + 1)) xs)) n 0))
      → (held_in n k ys ≡ one_more p r L) × (Clean n k xs → Clean n k ys)
  in_new ys m l g e =
      let h = counted_new n k p r xs long i ys (drop (n + 1) (drop (i * (n + 1)) xs)) m q l g e in
      let a = place_le p r L in (
        h,
        λ clean. clean_new n k xs clean i ys (masked p 0 r) (masked_length p 0 r ∙ m) l (fit (omega arith)) e
            (ap length (h ∙ more_new p r L (omega arith)) ∙ length-append L _ ∙ omega arith),
      )

  pub out_again : (t : ℕ) → i < length L → t ≡ get_or xs (i * (n + 1) + n) 0 → (t ≡ 1 → ⊥)
      → (held_in n k (set xs (i * (n + 1) + n) (t - 1)) ≡ one_less p r L) × (Clean n k xs → Clean n k (set xs (i * (n + 1) + n) (t - 1)))
  out_again t l e ne =
      let h = counted_less n k p r xs long i t q l e ne in
      let o = (held_at n i k xs l).2 in
      (h, λ clean. clean_set n k xs clean i (t - 1) l (ap length (held_set n i k (t - 1) xs long l (omega arith)) ∙ length_mid L i _ l))

  pub out_last : (t : ℕ) (ys : List ℕ) → i < length L → t ≡ get_or xs (i * (n + 1) + n) 0 → t ≡ 1
      → ys ≡ take (i * (n + 1)) xs ++ (drop (n + 1) (drop (i * (n + 1)) xs) ++ replicate (n + 1) 0)
      → (held_in n k ys ≡ one_less p r L) × (Clean n k xs → Clean n k ys)
  out_last t ys l e one d =
      let h = counted_last n k p r xs long i t ys q l e one d in
      let f = less_last p r L (omega arith) (sym (ap (λ (z : ℕ). (get_or L z no_held).times) q) ∙ (held_at n i k xs l).1 ∙ sym e ∙ one) in (
        h,
        λ clean. clean_drop n k xs clean i ys l (fit (room l)) d
            (ap length (h ∙ f) ∙ length_less L (place_in p r L) (omega arith)),
      )

  -- the same, as the code writes it from the place of the row on
  pub in_new_at : (at : ℕ) (zs : List ℕ) → at ≡ i * (n + 1) → length r ≡ n → length L ≤ i → i < k
      → zs ≡ masked p 0 r ++ (1 ∷ set (drop (n + 1) (take (length xs - at) (drop at xs))) n 0)
      → (held_in n k (put_mid at (length xs - at) xs zs) ≡ one_more p r L) × (Clean n k xs → Clean n k (put_mid at (length xs - at) xs zs))
  in_new_at at zs e m l g z =
      in_new (put_mid at (length xs - at) xs zs) m l g
      (put_end xs zs at ∙ ap (λ (u : List ℕ). take at xs ++ u) (z ∙ ap (λ (u : List ℕ). masked p 0 r ++ (1 ∷ set (drop (n + 1) u) n 0)) (take_rest xs at))
      ∙ ap (λ (a : ℕ). take a xs ++ (masked p 0 r ++ (1 ∷ set (drop (n + 1) (drop a xs)) n 0))) e)

  pub out_last_at : (t at : ℕ) (zs : List ℕ) → at ≡ i * (n + 1) → i < length L → t ≡ get_or xs (i * (n + 1) + n) 0 → t ≡ 1
      → zs ≡ drop (n + 1) (take (length xs - at) (drop at xs)) ++ replicate (n + 1) 0
      → (held_in n k (put_mid at (length xs - at) xs zs) ≡ one_less p r L) × (Clean n k xs → Clean n k (put_mid at (length xs - at) xs zs))
  out_last_at t at zs e l f one z =
      out_last t (put_mid at (length xs - at) xs zs) l f one
      (put_end xs zs at ∙ ap (λ (u : List ℕ). take at xs ++ u) (z ∙ ap (λ (u : List ℕ). drop (n + 1) u ++ replicate (n + 1) 0) (take_rest xs at))
      ∙ ap (λ (a : ℕ). take a xs ++ (drop (n + 1) (drop a xs) ++ replicate (n + 1) 0)) e)

pub held_place : (p : Cols) (r : Row) (hs : List Held) (i : ℕ) → i ≡ place_in p r hs → holds p r hs ≡ true → i < length hs
held_place p r hs i q h = subst (λ (z : ℕ). z < length hs) (sym q) (ltb-true (place_in p r hs) (length hs) (sym (holds_place p r hs) ∙ h))
