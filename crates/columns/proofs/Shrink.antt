-- To leave out of a list, one element after the other, what a test that more never fails does not need. Assumes nothing.
use Rattle.std.proofs.Common.{◌≡◌, ℕ, suc, ◌≤◌, Bool, true, false, List, [], ◌∷◌, ◌++◌, length, sym, ap, ◌∙◌, subst, inl, inr, append_assoc, arith}
use Rattle.std.proofs.lemmas.Bool.{true≢false, cases_Bool}
use Rattle.columns.specs.Cols.{pick}
use Rattle.columns.specs.Members.{In, Sub}
use Rattle.columns.proofs.Members.{pick_both, in_left, in_right, in_either}

pub in_split : {A : Type 0} (xs : List A) (x : A) → In x xs → (us vs : List A) × (xs ≡ us ++ x ∷ vs)
in_split [] x h = absurd h
in_split (y ∷ ys) x h =
    elim h [
      | inl e ↦ ([], ys, ap (λ v. v ∷ ys) e)
      | inr k ↦ let r = in_split ys x k in (y ∷ r.0, r.1, ap (λ v. y ∷ v) r.2)
    ]

-- what lies in a list and is not one of its elements lies in the rest
pub sub_rest : {A : Type 0} (js us vs : List A) (c : A) → Sub js (us ++ c ∷ vs) → (In c js → ⊥) → Sub js (us ++ vs)
sub_rest js us vs c f no· x i =
    elim (in_either us (c ∷ vs) x (f x i)) [
      | inl a ↦ in_left us vs x a
      | inr b ↦ elim b [ inl e ↦ absurd (no· (subst (λ v. In v js) (sym e) i)) | inr k ↦ in_right us vs x k ]
    ]

pub rest_sub : {A : Type 0} (us vs : List A) (c : A) → Sub (us ++ vs) (us ++ c ∷ vs)
rest_sub us vs c x i = elim (in_either us vs x i) [ inl a ↦ in_left us (c ∷ vs) x a | inr b ↦ in_right us (c ∷ vs) x (inr b) ]

pub sub_front : {A : Type 0} (us vs ws : List A) → Sub vs ws → Sub (us ++ vs) (us ++ ws)
sub_front us vs ws f x i = elim (in_either us vs x i) [ inl a ↦ in_left us ws x a | inr b ↦ in_right us ws x (f x b) ]

-- what is kept of xs behind the list pre
abbrev pub keep : {A : Type 0} → (List A → Bool) → List A → List A → List A
keep good pre [] = []
keep good pre (x ∷ xs) = pick (good (pre ++ xs)) (keep good pre xs) (x ∷ keep good (pre ++ x ∷ []) xs)

module _ {A : Type 0} (good : List A → Bool) where
  pub keep_case : (P : List A → Type 0) (pre : List A) (x : A) (xs : List A) → (good (pre ++ xs) ≡ true → P (keep good pre xs))
      → (good (pre ++ xs) ≡ false → P (x ∷ keep good (pre ++ x ∷ []) xs)) → P (keep good pre (x ∷ xs))
  keep_case P pre x xs f g = pick_both (good (pre ++ xs)) (keep good pre xs) (x ∷ keep good (pre ++ x ∷ []) xs) P f g

  pub keep_sub : (pre xs : List A) → Sub (keep good pre xs) xs
  keep_sub pre [] = λ x i. i
  keep_sub pre (y ∷ ys) =
      keep_case (λ ks. Sub ks (y ∷ ys)) pre y ys (λ e x i. inr (keep_sub pre ys x i))
      (λ e x i. elim i [ inl q ↦ inl q | inr k ↦ inr (keep_sub (pre ++ y ∷ []) ys x k) ])

  pub keep_short : (pre xs : List A) → length (keep good pre xs) ≤ length xs
  keep_short pre [] = omega arith
  keep_short pre (y ∷ ys) =
      keep_case (λ ks. length ks ≤ suc (length ys)) pre y ys (λ e. omega (arith, keep_short pre ys)) (λ e. omega (arith, keep_short (pre ++ y ∷ []) ys))

  pub keep_good : (pre xs : List A) → good (pre ++ xs) ≡ true → good (pre ++ keep good pre xs) ≡ true
  keep_good pre [] h = h
  keep_good pre (y ∷ ys) h =
      keep_case (λ ks. good (pre ++ ks) ≡ true) pre y ys (λ e. keep_good pre ys e)
      (λ e.
      subst (λ v. good v ≡ true) (append_assoc pre (y ∷ []) (keep good (pre ++ y ∷ []) ys))
      (keep_good (pre ++ y ∷ []) ys (subst (λ v. good v ≡ true) (sym (append_assoc pre (y ∷ []) ys)) h)))

  -- nothing that is kept could be left out
  pub keep_least : ((us vs : List A) → Sub us vs → good us ≡ true → good vs ≡ true) → (pre xs us vs : List A) (x : A)
      → keep good pre xs ≡ us ++ x ∷ vs → good (pre ++ (us ++ vs)) ≡ false
  keep_least mono pre [] [] vs x e = absurd (let z : ◌≡◌ {A = ℕ} 0 1 = cc in omega arith)
  keep_least mono pre [] (u ∷ us) vs x e = absurd (let z : ◌≡◌ {A = ℕ} 0 1 = cc in omega arith)
  keep_least mono pre (y ∷ ys) us vs x e =
      keep_case (λ ks. ks ≡ us ++ x ∷ vs → good (pre ++ (us ++ vs)) ≡ false) pre y ys (λ q k. keep_least mono pre ys us vs x k)
      (λ q. kept us q (λ ws. keep_least mono (pre ++ y ∷ []) ys ws vs x)) e
    where
      kept : (us : List A) → good (pre ++ ys) ≡ false
          → ((ws : List A) → keep good (pre ++ y ∷ []) ys ≡ ws ++ x ∷ vs → good ((pre ++ y ∷ []) ++ (ws ++ vs)) ≡ false)
          → y ∷ keep good (pre ++ y ∷ []) ys ≡ us ++ x ∷ vs → good (pre ++ (us ++ vs)) ≡ false
      kept [] q ih k =
          elim (cases_Bool (good (pre ++ vs))) [
            | inl g ↦
                let same : keep good (pre ++ y ∷ []) ys ≡ vs = cc in
                let s : Sub vs ys = subst (λ w. Sub w ys) same (keep_sub (pre ++ y ∷ []) ys) in
                absurd (true≢false (sym (mono (pre ++ vs) (pre ++ ys) (sub_front pre vs ys s) g) ∙ q))
            | inr g ↦ g
          ]
      kept (u ∷ us) q ih k =
          let same : keep good (pre ++ y ∷ []) ys ≡ us ++ x ∷ vs = cc in
          let head : y ≡ u = cc in
          subst (λ v. good (pre ++ (v ∷ (us ++ vs))) ≡ false) head
          (subst (λ v. good v ≡ false) (append_assoc pre (y ∷ []) (us ++ vs)) (ih us same))
