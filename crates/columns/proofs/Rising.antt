-- The list of a number's columns rises, and a rising list names no column twice.
use Rattle.std.proofs.Common.{◌≡◌, ℕ, zero, suc, ◌+◌, ◌/◌, ◌%◌, ◌^◌, ◌<◌, ◌≤◌, Bool, true, false, ◌||◌, eqb, ltb, [], ◌∷◌, ◌++◌, sym, refl, ap, ◌∙◌, inl, inr, arith}
use native.Mathlib.Nat.{two-pow-succ}
use Rattle.std.proofs.lemmas.Bool.{ltb-true, and_parts}
use Rattle.columns.specs.Cols.{Cols, Rising, none, one, more, has, set_in}
use Rattle.columns.specs.Members.{In, Sub}
use Rattle.columns.proofs.Shrink.{keep, keep_case, keep_sub}
use Rattle.columns.specs.Order.{is_rising}
use Rattle.columns.proofs.Members.{pick_both, in_right}
use Rattle.columns.proofs.Lists.{has_cons}
use Rattle.columns.proofs.Within.{set_none}

pub rising_rest : {c : ℕ} {cs : Cols} → Rising (c ∷ cs) → Rising cs
rising_rest one = none
rising_rest (more l r) = r

abbrev pub Low : Cols → Type 0
Low [] = Unit {0}
Low (c ∷ cs) = (d : ℕ) → In d cs → c < d

pub rising_low : {cs : Cols} → Rising cs → Low cs
rising_low none = tt
rising_low one = λ d h. absurd h
rising_low (more l r) = let f = rising_low r in λ d h. elim h [ inl e ↦ omega arith | inr i ↦ omega (arith, f d i) ]

pub rising_put : (c : ℕ) (cs : Cols) → Rising cs → ((d : ℕ) → In d cs → c < d) → Rising (c ∷ cs)
rising_put c [] r f = one
rising_put c (d ∷ ds) r f = more (f d (inl refl)) r

pub keep_rising : (good : Cols → Bool) (pre cs : Cols) → Rising cs → Rising (keep good pre cs)
keep_rising good pre [] r = none
keep_rising good pre (c ∷ cs) r =
    keep_case good Rising pre c cs (λ e. keep_rising good pre cs (rising_rest r))
    (λ e.
    rising_put c (keep good (pre ++ c ∷ []) cs) (keep_rising good (pre ++ c ∷ []) cs (rising_rest r))
    (λ d h. rising_low r d (keep_sub good (pre ++ c ∷ []) cs d h)))

pub rising_told : (cs : Cols) → is_rising cs ≡ true → Rising cs
rising_told [] h = none
rising_told (c ∷ []) h = one
rising_told (c ∷ d ∷ ds) h = let w = and_parts (ltb c d) (is_rising (d ∷ ds)) h in more (ltb-true c d w.0) (rising_told (d ∷ ds) w.1)

pub set_low : (b k m d : ℕ) → In d (set_in b k m) → b ≤ d
unfolding set_in
set_low b zero m d h = absurd h
set_low b (suc k) m d h =
    let up : In d (set_in (suc b) k (m / 2)) → b ≤ d = λ i. let l : suc b ≤ d = set_low (suc b) k (m / 2) d i in omega arith in
    pick_both (eqb (m % 2) 1) (b ∷ set_in (suc b) k (m / 2)) (set_in (suc b) k (m / 2)) (λ v. In d v → b ≤ d)
    (λ e i. elim i [ inl q ↦ omega arith | inr j ↦ up j ]) (λ e. up) h

pub set_high : (b k m d : ℕ) → In d (set_in b k m) → d < b + k
unfolding set_in
set_high b zero m d h = absurd h
set_high b (suc k) m d h =
    let up : In d (set_in (suc b) k (m / 2)) → d < b + suc k = λ i. let l : d < suc b + k = set_high (suc b) k (m / 2) d i in omega arith in
    pick_both (eqb (m % 2) 1) (b ∷ set_in (suc b) k (m / 2)) (set_in (suc b) k (m / 2)) (λ v. In d v → d < b + suc k)
    (λ e i. elim i [ inl q ↦ omega arith | inr j ↦ up j ]) (λ e. up) h

pub set_rising : (b k m : ℕ) → Rising (set_in b k m)
unfolding set_in
set_rising b zero m = none
set_rising b (suc k) m =
    pick_both (eqb (m % 2) 1) (b ∷ set_in (suc b) k (m / 2)) (set_in (suc b) k (m / 2)) Rising
    (λ e. rising_put b (set_in (suc b) k (m / 2)) (set_rising (suc b) k (m / 2)) (λ d i. set_low (suc b) k (m / 2) d i))
    (λ e. set_rising (suc b) k (m / 2))

-- a rising list without one of its columns does not have it
pub rising_once : (xs ys : Cols) (c : ℕ) → Rising (xs ++ c ∷ ys) → In c (xs ++ ys) → ⊥
rising_once [] ys c r i = let l : c < c = rising_low r c i in omega arith
rising_once (x ∷ xs) ys c r i =
    elim i [
      | inl e ↦ let l : x < c = rising_low r c (in_right xs (c ∷ ys) c (inl refl)) in omega arith
      | inr j ↦ rising_once xs ys c (rising_rest r) j
    ]

-- two rising lists with the same columns are one
pub rising_same : (xs ys : Cols) → Rising xs → Rising ys → Sub xs ys → Sub ys xs → xs ≡ ys
rising_same [] [] r s f g = refl
rising_same [] (y ∷ ys) r s f g = absurd (g y (inl refl))
rising_same (x ∷ xs) [] r s f g = absurd (f x (inl refl))
rising_same (x ∷ xs) (y ∷ ys) r s f g =
    let e : x ≡ y = elim (f x (inl refl)) [
      | inl q ↦ sym q
      | inr a ↦ elim (g y (inl refl)) [ inl q ↦ q | inr b ↦ let p : y < x = rising_low s x a in let q : x < y = rising_low r y b in absurd (omega arith) ]
    ] in
    let f' : Sub xs ys = λ c i. elim (f c (inr i)) [ inl q ↦ let l : x < c = rising_low r c i in absurd (omega arith) | inr h ↦ h ] in
    let g' : Sub ys xs = λ c i. elim (g c (inr i)) [ inl q ↦ let l : y < c = rising_low s c i in absurd (omega arith) | inr h ↦ h ] in
    let t : xs ≡ ys = rising_same xs ys (rising_rest r) (rising_rest s) f' g' in
    cc

pub set_one : (b k j : ℕ) → j < k → set_in b k (2 ^ j) ≡ (b + j) ∷ []
unfolding set_in
set_one b zero j h = absurd (omega arith)
set_one b (suc k) zero h = let e : b ≡ b + 0 = omega arith in ap (λ (s : Cols). b ∷ s) (set_none (suc b) k) ∙ ap (λ (x : ℕ). x ∷ []) e
set_one b (suc k) (suc j) h =
    let d : 2 ^ suc j % 2 ≡ 0 = omega (arith, two-pow-succ j) in
    let e : 2 ^ suc j / 2 ≡ 2 ^ j = omega (arith, two-pow-succ j) in
    let f : suc b + j ≡ b + suc j = omega arith in
    rw (d, e) (set_one (suc b) k j (omega arith) ∙ ap (λ (x : ℕ). x ∷ []) f)

or_none : (b : Bool) → (b || false) ≡ b
or_none true = refl
or_none false = refl

pub has_single : (c d : ℕ) → has (c ∷ []) d ≡ eqb c d
unfolding has
has_single c d = has_cons c [] d ∙ or_none (eqb c d)
