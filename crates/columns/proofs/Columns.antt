-- The tests of sets of columns say what is in what. Assumes nothing.
use Rattle.std.proofs.Common.{◌≡◌, ℕ, zero, suc, ◌+◌, ◌<◌, ◌≤◌, true, false, eqb, ◌⊎◌, [], ◌∷◌, sym, refl, ◌∙◌, subst, inl, inr, arith}
use Rattle.std.proofs.lemmas.Bool.{true≢false, false≢true, eqb-true, eqb-false, and_parts, and_from, and_cases, cases_Bool}
use Rattle.columns.specs.Cols.{Cols, has, all_in, columns, less}
use Rattle.columns.specs.Members.{In, Sub}
use Rattle.columns.proofs.Members.{pick_both}

pub has_in : (cs : Cols) (c : ℕ) → has cs c ≡ true → In c cs
unfolding has
has_in [] c h = absurd (false≢true h)
has_in (d ∷ ds) c h =
    pick_both (eqb d c) true (has ds c) (λ v. v ≡ true → In c (d ∷ ds)) (λ e k. inl (eqb-true d c e)) (λ e k. inr (has_in ds c k)) h

pub in_has : (cs : Cols) (c : ℕ) → In c cs → has cs c ≡ true
unfolding has
in_has [] c h = absurd h
in_has (d ∷ ds) c h =
    pick_both (eqb d c) true (has ds c) (λ v. v ≡ true) (λ e. refl)
    (λ e. elim h [ inl q ↦ absurd (eqb-false d c e q) | inr i ↦ in_has ds c i ])

pub has_not_in : (cs : Cols) (c : ℕ) → has cs c ≡ false → In c cs → ⊥
has_not_in cs c e h = true≢false (subst (λ b. b ≡ false) (in_has cs c h) e)

pub not_in_has : (cs : Cols) (c : ℕ) → (In c cs → ⊥) → has cs c ≡ false
not_in_has cs c f = elim (cases_Bool (has cs c)) [ inl e ↦ absurd (f (has_in cs c e)) | inr e ↦ e ]

pub in_or_not : (cs : Cols) (c : ℕ) → In c cs ⊎ (In c cs → ⊥)
in_or_not cs c = elim (cases_Bool (has cs c)) [ inl e ↦ inl (has_in cs c e) | inr e ↦ inr (has_not_in cs c e) ]

pub all_in_sub : (cs ds : Cols) → all_in cs ds ≡ true → Sub cs ds
unfolding all_in
all_in_sub [] ds h x k = absurd k
all_in_sub (c ∷ cs) ds h x k =
    let p = and_parts (has ds c) (all_in cs ds) h in
    elim k [ inl e ↦ subst (λ v. In v ds) e (has_in ds c p.0) | inr i ↦ all_in_sub cs ds p.1 x i ]

pub sub_all_in : (cs ds : Cols) → Sub cs ds → all_in cs ds ≡ true
unfolding all_in
sub_all_in [] ds f = refl
sub_all_in (c ∷ cs) ds f = and_from (has ds c) (all_in cs ds) (in_has ds c (f c (inl refl))) (sub_all_in cs ds (λ x i. f x (inr i)))

-- a set that is not in another has a column that is not
pub not_all_in : (cs ds : Cols) → all_in cs ds ≡ false → (c : ℕ) × In c cs × (In c ds → ⊥)
unfolding all_in
not_all_in [] ds h = absurd (true≢false h)
not_all_in (c ∷ cs) ds h =
    elim (and_cases (has ds c) (all_in cs ds) h)
    [ inl e ↦ (c, inl refl, has_not_in ds c e) | inr e ↦ let r = not_all_in cs ds e in (r.0, inr r.1, r.2) ]

at_or_past : (x y : ℕ) → x ≤ y → (x ≡ y) ⊎ (suc x ≤ y)
at_or_past x y q = elim (cases_Bool (eqb x y)) [ inl e ↦ inl (eqb-true x y e) | inr e ↦ inr (let ne = eqb-false x y e in omega arith) ]

pub columns_in : (a k c : ℕ) → a ≤ c → c < a + k → In c (columns a k)
unfolding columns
columns_in a zero c h l = absurd (omega arith)
columns_in a (suc k) c h l = elim (at_or_past a c h) [ inl e ↦ inl e | inr q ↦ inr (columns_in (suc a) k c q (omega arith)) ]

pub in_columns : (a k c : ℕ) → In c (columns a k) → c < a + k
unfolding columns
in_columns a zero c h = absurd h
in_columns a (suc k) c h = elim h [ inl e ↦ omega arith | inr i ↦ omega (arith, in_columns (suc a) k c i) ]

pub below : (n c : ℕ) → In c (columns 0 n) → c < n
below n c i = omega (arith, in_columns 0 n c i)

pub below_in : (n c : ℕ) → c < n → In c (columns 0 n)
below_in n c l = columns_in 0 n c (omega arith) (omega arith)

pub in_less : (cs : Cols) (a c : ℕ) → In c (less cs a) → In c cs × (c ≡ a → ⊥)
in_less [] a c h = absurd h
in_less (d ∷ cs) a c h =
    pick_both (eqb d a) (less cs a) (d ∷ less cs a) (λ v. In c v → In c (d ∷ cs) × (c ≡ a → ⊥))
    (λ e i. let r = in_less cs a c i in (inr r.0, r.1))
    (λ e i. elim i [ inl q ↦ (inl q, λ k. eqb-false d a e (q ∙ k)) | inr j ↦ let r = in_less cs a c j in (inr r.0, r.1) ]) h

pub less_in : (cs : Cols) (a c : ℕ) → In c cs → (c ≡ a → ⊥) → In c (less cs a)
less_in [] a c h no· = absurd h
less_in (d ∷ cs) a c h no· =
    pick_both (eqb d a) (less cs a) (d ∷ less cs a) (λ v. In c v)
    (λ e. elim h [ inl q ↦ absurd (no· (sym q ∙ eqb-true d a e)) | inr j ↦ less_in cs a c j no· ])
    (λ e. elim h [ inl q ↦ inl q | inr j ↦ inr (less_in cs a c j no·) ])
