-- What a part's cells hold, row by row, and after a write to one row.
use Rattle.std.proofs.Common.{◌≡◌, ℕ, zero, suc, ◌+◌, ◌-◌, ◌*◌, ◌<◌, ◌≤◌, Bool, true, false, eqb, ◌⊎◌, List, [], ◌∷◌, ◌++◌, length, get_or, take, drop, set, sym, refl, ap, ◌∙◌, subst, ap₂, inl, inr, arith, drop-cons}
use Rattle.std.proofs.lemmas.Bool.{eq-eqb, ne_eqb}
use Rattle.std.proofs.lemmas.List.{get_or-take, take-take, drop-take, drop-drop, take-append-drop, append_cancel_left, get_or_at, take_at, drop_at, length-drop, nil_from_length, take-set-le, drop-set-add, drop-set-lt, get_or-set_same, get_or_append_left, take-append-le, drop-append-le, get_or-drop, take_all}
use Rattle.columns.specs.Cols.{pick}
use Rattle.parts.specs.Day.{Held}
use Rattle.parts.specs.Store.{held_row, held_in, no_held}
use Rattle.parts.proofs.Spaces.{row_fits, suc_row, rest_rows, zero_there}

pub held_stop : (n k : ℕ) (xs : List ℕ) → get_or xs n 0 ≡ 0 → held_in n k xs ≡ []
unfolding held_in
held_stop n zero xs e = refl
held_stop n (suc k) xs e = rw (eq-eqb (get_or xs n 0) 0 e)

pub held_more : (n k : ℕ) (xs : List ℕ) → 0 < k → (get_or xs n 0 ≡ 0 → ⊥) → held_in n k xs ≡ held_row n xs ∷ held_in n (k - 1) (drop (n + 1) xs)
unfolding held_in
held_more n zero xs l e = absurd (omega arith)
held_more n (suc k) xs l e =
    let z : k ≡ suc k - 1 = omega arith in
    rw (ne_eqb (get_or xs n 0) 0 e) (ap (λ (m : ℕ). held_row n xs ∷ held_in n m (drop (n + 1) xs)) z)

pub held_length : (n k : ℕ) (xs : List ℕ) → length (held_in n k xs) ≤ k
unfolding held_in
held_length n zero xs = omega arith
held_length n (suc k) xs = go (eqb (get_or xs n 0) 0) (held_length n k (drop (n + 1) xs))
  where
    go : (b : Bool) → length (held_in n k (drop (n + 1) xs)) ≤ k → length (pick b [] (held_row n xs ∷ held_in n k (drop (n + 1) xs))) ≤ suc k
    go true l = omega arith
    go false l = omega arith

-- a part that holds something has room for it, and its first row is held
pub held_first : (n k : ℕ) (xs : List ℕ) (h : Held) (hs : List Held) → held_in n k xs ≡ h ∷ hs → (0 < k) × (get_or xs n 0 ≡ 0 → ⊥)
unfolding held_in
held_first n zero xs h hs e = let z : ◌≡◌ {A = ℕ} 0 1 = cc in absurd (omega arith)
held_first n (suc k) xs h hs e = (omega arith, λ z. let f : [] ≡ h ∷ hs = sym (held_stop n (suc k) xs z) ∙ e in let y : ◌≡◌ {A = ℕ} 0 1 = cc in omega arith)

-- rows that are held stand as they stood, whatever follows them
pub held_front : (n i k : ℕ) (xs ys : List ℕ) → i ≤ length (held_in n k xs) → take (i * (n + 1)) ys ≡ take (i * (n + 1)) xs
    → held_in n k ys ≡ take i (held_in n k xs) ++ held_in n (k - i) (drop (i * (n + 1)) ys)
unfolding held_in held_row
held_front n zero k xs ys l e =
    let a : k ≡ k - zero = omega arith in
    let b : 0 ≡ zero * (n + 1) = omega arith in
    ap₂ (λ (u v : ℕ). held_in n u (drop v ys)) a b
held_front n (suc i) zero xs ys l e = absurd (omega arith)
held_front n (suc i) (suc m) xs ys l e =
    let w : ℕ = n + 1 in
    let s : suc i * w ≡ w + i * w = suc_row i w in
    let e' : take (w + i * w) ys ≡ take (w + i * w) xs = subst (λ (z : ℕ). take z ys ≡ take z xs) s e in
    let e1 : get_or ys n 0 ≡ get_or xs n 0
    = sym (get_or-take (w + i * w) ys n 0 (omega arith)) ∙ ap (λ (z : List ℕ). get_or z n 0) e' ∙ get_or-take (w + i * w) xs n 0 (omega arith) in
    let e2 : take n ys ≡ take n xs
    = sym (take-take n (w + i * w) ys (omega arith)) ∙ ap (λ (z : List ℕ). take n z) e' ∙ take-take n (w + i * w) xs (omega arith) in
    let e3 : take (i * w) (drop w ys) ≡ take (i * w) (drop w xs)
    = sym (drop-take w (i * w) ys) ∙ ap (λ (z : List ℕ). drop w z) e' ∙ drop-take w (i * w) xs in
    let d : drop (i * w) (drop w ys) ≡ drop (suc i * w) ys = drop-drop (i * w) w ys ∙ ap (λ (z : ℕ). drop z ys) (sym s) in
    go (eqb (get_or xs n 0) 0) (ap (λ (z : ℕ). eqb z 0) e1) l
    (ap₂ (λ (u : List ℕ) (v : ℕ). record { looks = u; times = v }) e2 e1)
    (λ g. held_front n i m (drop w xs) (drop w ys) g e3) d (omega arith)
  where
    go : (b : Bool) → eqb (get_or ys n 0) 0 ≡ b → suc i ≤ length (pick b [] (held_row n xs ∷ held_in n m (drop (n + 1) xs))) → held_row n ys ≡ held_row n xs
        → (i ≤ length (held_in n m (drop (n + 1) xs)) → held_in n m (drop (n + 1) ys) ≡ take i (held_in n m (drop (n + 1) xs)) ++ held_in n (m - i) (drop (i * (n + 1)) (drop (n + 1) ys)))
        → drop (i * (n + 1)) (drop (n + 1) ys) ≡ drop (suc i * (n + 1)) ys → m - i ≡ suc m - suc i
        → pick (eqb (get_or ys n 0) 0) [] (held_row n ys ∷ held_in n m (drop (n + 1) ys))
        ≡ take (suc i) (pick b [] (held_row n xs ∷ held_in n m (drop (n + 1) xs))) ++ held_in n (suc m - suc i) (drop (suc i * (n + 1)) ys)
    go true t l r f d z = absurd (omega arith)
    go false t l r f d z =
        rw t (ap₂ (λ (u : Held) (v : List Held). u ∷ v) r
        (f (omega arith) ∙ ap₂ (λ (u : ℕ) (v : List ℕ). take i (held_in n m (drop (n + 1) xs)) ++ held_in n u v) z d))

-- what is left of the rows holds what is left of the looks
pub held_left : (n i k : ℕ) (xs : List ℕ) → i ≤ length (held_in n k xs) → held_in n (k - i) (drop (i * (n + 1)) xs) ≡ drop i (held_in n k xs)
held_left n i k xs l =
    append_cancel_left (take i (held_in n k xs)) _ _ (sym (held_front n i k xs xs l refl) ∙ sym (take-append-drop i (held_in n k xs)))

-- the look at a place is the row at that place
pub held_cons : (n i k : ℕ) (xs : List ℕ) → i < length (held_in n k xs) → held_in n (k - i) (drop (i * (n + 1)) xs) ≡ get_or (held_in n k xs) i no_held ∷ drop (suc i) (held_in n k xs)
held_cons n i k xs l = held_left n i k xs (omega arith) ∙ drop-cons (held_in n k xs) i no_held l

pub held_step : (n i k : ℕ) (xs : List ℕ) → i < length (held_in n k xs)
    → (0 < k - i) × (get_or (drop (i * (n + 1)) xs) n 0 ≡ 0 → ⊥)
    × (held_row n (drop (i * (n + 1)) xs) ≡ get_or (held_in n k xs) i no_held)
    × (held_in n (k - i - 1) (drop (n + 1) (drop (i * (n + 1)) xs)) ≡ drop (suc i) (held_in n k xs))
held_step n i k xs l =
    let z : List ℕ = drop (i * (n + 1)) xs in
    let f = held_first n (k - i) z _ _ (held_cons n i k xs l) in
    let e : held_row n z ∷ held_in n (k - i - 1) (drop (n + 1) z) ≡ get_or (held_in n k xs) i no_held ∷ drop (suc i) (held_in n k xs)
    = sym (held_more n (k - i) z f.0 f.1) ∙ held_cons n i k xs l in
    (f.0, f.1, (cc), (cc))

pub held_at : (n i k : ℕ) (xs : List ℕ) → i < length (held_in n k xs)
    → ((get_or (held_in n k xs) i no_held).looks ≡ take n (drop (i * (n + 1)) xs)) × ((get_or (held_in n k xs) i no_held).times ≡ get_or xs (i * (n + 1) + n) 0)
    × (0 < get_or xs (i * (n + 1) + n) 0)
unfolding held_row
held_at n i k xs l =
    let s = held_step n i k xs l in
    let g = get_or-drop (i * (n + 1)) xs n 0 in
    let ne = s.1 in
    let p : 0 < get_or (drop (i * (n + 1)) xs) n 0 = elim (cases_zero (get_or (drop (i * (n + 1)) xs) n 0)) [ inl e ↦ absurd (ne e) | inr e ↦ e ] in
    (sym (ap (λ (h : Held). h.looks) s.2), sym (ap (λ (h : Held). h.times) s.2) ∙ g, subst (λ (z : ℕ). 0 < z) g p)
  where
    cases_zero : (a : ℕ) → (a ≡ 0) ⊎ (0 < a)
    cases_zero zero = inl refl
    cases_zero (suc a) = inr (omega arith)

-- another count in a held row
pub held_set : (n i k v : ℕ) (xs : List ℕ) → length xs ≡ k * (n + 1) → i < length (held_in n k xs) → 0 < v
    → held_in n k (set xs (i * (n + 1) + n) v)
    ≡ take i (held_in n k xs) ++ (record { looks = (get_or (held_in n k xs) i no_held).looks; times = v } ∷ drop (suc i) (held_in n k xs))
unfolding held_row
held_set n i k v xs len l o =
    let w : ℕ = n + 1 in
    let ys : List ℕ = set xs (i * w + n) v in
    let s = held_step n i k xs l in
    let fit = row_fits i k w (let a = held_length n k xs in omega arith) in
    let d : drop (i * w) ys ≡ set (drop (i * w) xs) n v = drop-set-add (i * w) xs n v in
    let len' : length (drop (i * w) xs) ≡ length xs - i * w = length-drop (i * w) xs in
    let c : get_or (set (drop (i * w) xs) n v) n 0 ≡ v = get_or-set_same (drop (i * w) xs) n v 0 (omega arith) in
    let t : take n (set (drop (i * w) xs) n v) ≡ take n (drop (i * w) xs) = take-set-le n (drop (i * w) xs) n v (omega arith) in
    let r : drop w (set (drop (i * w) xs) n v) ≡ drop w (drop (i * w) xs) = drop-set-lt w (drop (i * w) xs) n v (omega arith) in
    held_front n i k xs ys (omega arith) (take-set-le (i * w) xs (i * w + n) v (omega arith))
    ∙ ap (λ (z : List Held). take i (held_in n k xs) ++ z)
    (ap (λ (z : List ℕ). held_in n (k - i) z) d ∙ held_more n (k - i) (set (drop (i * w) xs) n v) s.0 (λ e. omega arith)
    ∙ ap₂ (λ (h : Held) (hs : List Held). h ∷ hs)
    (ap₂ (λ (a : List ℕ) (b : ℕ). record { looks = a; times = b }) (t ∙ ap (λ (h : Held). h.looks) s.2) c)
    (ap (λ (z : List ℕ). held_in n (k - i - 1) z) r ∙ s.3))

-- a new row behind all that are held, and the end behind it
pub held_push : (n k : ℕ) (xs ys M rest : List ℕ) → (i : ℕ) → i ≡ length (held_in n k xs) → i < k → take (i * (n + 1)) ys ≡ take (i * (n + 1)) xs
    → drop (i * (n + 1)) ys ≡ M ++ (1 ∷ set rest n 0) → length M ≡ n
    → held_in n k ys ≡ held_in n k xs ++ (record { looks = M; times = 1 } ∷ [])
unfolding held_row
held_push n k xs ys M rest i e l t d m =
    let zs : List ℕ = M ++ (1 ∷ set rest n 0) in
    let c : get_or zs n 0 ≡ 1 = get_or_at M 1 (set rest n 0) 0 n m in
    let f : take n zs ≡ M = take_at M (1 ∷ set rest n 0) n m in
    let r : drop (n + 1) zs ≡ set rest n 0 = sym (drop-drop 1 n zs) ∙ ap (λ (z : List ℕ). drop 1 z) (drop_at M (1 ∷ set rest n 0) n m) in
    held_front n i k xs ys (omega arith) t
    ∙ ap₂ (λ (a b : List Held). a ++ b) (take_all i (held_in n k xs) (omega arith))
    (ap (λ (z : List ℕ). held_in n (k - i) z) d ∙ held_more n (k - i) zs (omega arith) (λ q. omega arith)
    ∙ ap₂ (λ (h : Held) (hs : List Held). h ∷ hs)
    (ap₂ (λ (a : List ℕ) (b : ℕ). record { looks = a; times = b }) f c)
    (ap (λ (z : List ℕ). held_in n (k - i - 1) z) r ∙ held_stop n (k - i - 1) (set rest n 0) (zero_there rest n)))

-- a last row that counts nothing adds nothing
pub held_append : (n m : ℕ) (xs zs : List ℕ) → length xs ≡ m * (n + 1) → get_or zs n 0 ≡ 0 → held_in n (suc m) (xs ++ zs) ≡ held_in n m xs
unfolding held_in held_row
held_append n zero xs zs l e = let z : xs ≡ [] = nil_from_length xs (omega arith) in rw z (held_stop n 1 zs e)
held_append n (suc m) xs zs l e =
    let s : suc m * (n + 1) ≡ (n + 1) + m * (n + 1) = suc_row m (n + 1) in
    let a : get_or (xs ++ zs) n 0 ≡ get_or xs n 0 = get_or_append_left xs zs 0 n (omega arith) in
    let b : take n (xs ++ zs) ≡ take n xs = take-append-le n xs zs (omega arith) in
    let c : drop (n + 1) (xs ++ zs) ≡ drop (n + 1) xs ++ zs = drop-append-le (n + 1) xs zs (omega arith) in
    let f : length (drop (n + 1) xs) ≡ m * (n + 1) = length-drop (n + 1) xs ∙ omega arith in
    let r : held_in n (suc m) (drop (n + 1) (xs ++ zs)) ≡ held_in n m (drop (n + 1) xs)
    = ap (λ (z : List ℕ). held_in n (suc m) z) c ∙ held_append n m (drop (n + 1) xs) zs f e in
    let h : held_row n (xs ++ zs) ≡ held_row n xs = ap₂ (λ (u : List ℕ) (v : ℕ). record { looks = u; times = v }) b a in
    ap₂ (λ (t : Bool) (v : List Held). pick t [] v) (ap (λ (z : ℕ). eqb z 0) a) (ap₂ (λ (u : Held) (v : List Held). u ∷ v) h r)

-- a row dropped, the rows behind it moved up
pub held_drop : (n i k : ℕ) (xs ys zs : List ℕ) → length xs ≡ k * (n + 1) → i < length (held_in n k xs) → take (i * (n + 1)) ys ≡ take (i * (n + 1)) xs
    → drop (i * (n + 1)) ys ≡ drop (n + 1) (drop (i * (n + 1)) xs) ++ zs → get_or zs n 0 ≡ 0
    → held_in n k ys ≡ take i (held_in n k xs) ++ drop (suc i) (held_in n k xs)
held_drop n i k xs ys zs len l t d e =
    let w : ℕ = n + 1 in
    let s = held_step n i k xs l in
    let z : k - i ≡ suc (k - i - 1) = (let o = s.0 in omega arith) in
    let long : length (drop w (drop (i * w) xs)) ≡ (k - i - 1) * w
    = length-drop w (drop (i * w) xs) ∙ ap (λ (a : ℕ). a - w) (length-drop (i * w) xs) ∙ omega (arith, rest_rows i k w (let a = held_length n k xs in omega arith)) in
    held_front n i k xs ys (omega arith) t
    ∙ ap (λ (v : List Held). take i (held_in n k xs) ++ v)
    (ap₂ (λ (a : ℕ) (b : List ℕ). held_in n a b) z d ∙ held_append n (k - i - 1) (drop w (drop (i * w) xs)) zs long e ∙ s.3)
