-- Of a list of sets of columns, those that are not inside another. Assumes nothing.
use Rattle.std.proofs.Common.{◌≡◌, ℕ, zero, suc, ◌<◌, Bool, true, false, ◌&&◌, List, [], ◌∷◌, ◌++◌, length, get_or, sym, refl, ap, ◌∙◌, subst, inl, inr, arith}
use Rattle.std.proofs.lemmas.Bool.{true≢false, false≢true, cases_eq, and_parts, and_from}
use Rattle.columns.specs.Cols.{Cols, all_in, pick}
use Rattle.columns.specs.Members.{In, Sub}
use Rattle.columns.proofs.Members.{pick_both, in_left, in_right, in_either, in_at}
use Rattle.columns.proofs.Columns.{all_in_sub, sub_all_in}
use Rattle.columns.proofs.Shrink.{keep, keep_sub, keep_good, keep_least}

abbrev pub holder : Cols → List Cols → Bool
holder x [] = false
holder x (y ∷ ys) = pick (all_in x y) true (holder x ys)

-- a set of ys in which x lies
abbrev pub HeldIn : Cols → List Cols → Type 0
HeldIn x ys = (y : Cols) × In y ys × Sub x y

holder_held : (x : Cols) (ys : List Cols) → holder x ys ≡ true → HeldIn x ys
holder_held x [] h = absurd (false≢true h)
holder_held x (y ∷ ys) h =
    pick_both (all_in x y) true (holder x ys) (λ v. v ≡ true → HeldIn x (y ∷ ys)) (λ e k. (y, inl refl, all_in_sub x y e))
    (λ e k. let r = holder_held x ys k in (r.0, inr r.1, r.2)) h

held_holder : (x : Cols) (ys : List Cols) (y : Cols) → In y ys → Sub x y → holder x ys ≡ true
held_holder x [] y i f = absurd i
held_holder x (z ∷ ys) y i f =
    pick_both (all_in x z) true (holder x ys) (λ v. v ≡ true) (λ e. refl)
    (λ e.
    elim i
    [ inl q ↦ absurd (true≢false (sym (sub_all_in x z (subst (λ v. Sub x v) (sym q) f)) ∙ e)) | inr k ↦ held_holder x ys y k f ])

abbrev pub holders : List Cols → List Cols → Bool
holders [] ys = true
holders (x ∷ xs) ys = holder x ys && holders xs ys

abbrev pub AllHeld : List Cols → List Cols → Type 0
AllHeld xs ys = (x : Cols) → In x xs → HeldIn x ys

holders_held : (xs ys : List Cols) → holders xs ys ≡ true → AllHeld xs ys
holders_held [] ys h x i = absurd i
holders_held (z ∷ xs) ys h x i =
    let p = and_parts (holder z ys) (holders xs ys) h in
    elim i [ inl e ↦ subst (λ v. HeldIn v ys) e (holder_held z ys p.0) | inr k ↦ holders_held xs ys p.1 x k ]

held_holders : (xs ys : List Cols) → AllHeld xs ys → holders xs ys ≡ true
held_holders [] ys f = refl
held_holders (z ∷ xs) ys f =
    let r = f z (inl refl) in
    and_from (holder z ys) (holders xs ys) (held_holder z ys r.0 r.1 r.2) (held_holders xs ys (λ x i. f x (inr i)))

holders_monotone : (xs us vs : List Cols) → Sub us vs → holders xs us ≡ true → holders xs vs ≡ true
holders_monotone xs us vs f h = held_holders xs vs (λ x i. let r = holders_held xs us h x i in (r.0, f r.0 r.1, r.2))

abbrev pub widest : List Cols → List Cols
widest xs = keep (holders xs) [] xs

pub widest_held : (xs : List Cols) → AllHeld xs (widest xs)
widest_held xs = holders_held xs (widest xs) (keep_good (holders xs) [] xs (held_holders xs xs (λ x i. (x, i, λ c k. k))))

pub widest_sub : (xs : List Cols) → Sub (widest xs) xs
widest_sub xs = keep_sub (holders xs) [] xs

pub at_split : {A : Type 0} (ys : List A) (i : ℕ) (d : A) → i < length ys → (us vs : List A) × (ys ≡ us ++ get_or ys i d ∷ vs)
at_split [] i d h = absurd (omega arith)
at_split (y ∷ ys) zero d h = ([], ys, refl)
at_split (y ∷ ys) (suc i) d h = let r = at_split ys i d (omega arith) in (y ∷ r.0, r.1, ap (λ v. y ∷ v) r.2)

-- two places of a list: the second is still there where the first is left out
pub other_place : {A : Type 0} (ys : List A) (i j : ℕ) (d : A) → i < length ys → j < length ys → (i ≡ j → ⊥)
    → (us vs : List A) × (ys ≡ us ++ get_or ys i d ∷ vs) × In (get_or ys j d) (us ++ vs)
other_place [] i j d h k no· = absurd (omega arith)
other_place (y ∷ ys) zero zero d h k no· = absurd (no· refl)
other_place (y ∷ ys) zero (suc j) d h k no· = ([], ys, refl, in_at ys j d (omega arith))
other_place (y ∷ ys) (suc i) zero d h k no· =
    let r = at_split ys i d (omega arith) in (y ∷ r.0, r.1, ap (λ v. y ∷ v) r.2, inl refl)
other_place (y ∷ ys) (suc i) (suc j) d h k no· =
    let r = other_place ys i j d (omega arith) (omega arith) (λ e. no· (ap suc e)) in
    (y ∷ r.0, r.1, ap (λ v. y ∷ v) r.2, inr r.3)

pub widest_apart : (xs : List Cols) (i j : ℕ) → i < length (widest xs) → j < length (widest xs) → Sub (get_or (widest xs) i []) (get_or (widest xs) j [])
    → i ≡ j
widest_apart xs i j h k f =
    elim (cases_eq i j) [
      | inl e ↦ e
      | inr no· ↦
          let ys : List Cols = widest xs in
          let r = other_place ys i j [] h k no· in
          let held : AllHeld xs (r.0 ++ r.1)
          = λ x m.
          let w = widest_held xs x m in
          elim (in_either r.0 (get_or ys i [] ∷ r.1) w.0 (subst (λ v. In w.0 v) r.2 w.1)) [
            | inl a ↦ (w.0, in_left r.0 r.1 w.0 a, w.2)
            | inr b ↦
                elim b [
                  | inl e ↦ (get_or ys j [], r.3, λ c z. f c (subst (λ v. In c v) (sym e) (w.2 c z)))
                  | inr a ↦ (w.0, in_right r.0 r.1 w.0 a, w.2)
                ]
          ] in
          absurd (true≢false
          (sym (held_holders xs (r.0 ++ r.1) held) ∙ keep_least (holders xs) (holders_monotone xs) [] xs r.0 r.1 (get_or ys i []) r.2))
    ]
