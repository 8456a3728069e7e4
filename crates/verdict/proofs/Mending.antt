-- What it does to a row and to a table to put a lower number in place of a higher in one column. Assumes nothing.
use Rattle.std.proofs.Common.{◌≡◌, ℕ, zero, suc, ◌+◌, ◌<◌, ◌≤◌, eqb, ◌⊎◌, List, [], ◌∷◌, get_or, sym, refl, ap, ◌∙◌, subst, inl, inr, arith}
use Rattle.std.proofs.lemmas.Bool.{eqb-true, eqb-false}
use Rattle.dependencies.specs.Tables.{Row}
use Rattle.verdict.specs.Chase.{Fault, put_low, mend, total_row, total}
use Rattle.columns.specs.Members.{In}
use Rattle.columns.proofs.Members.{pick_both}

-- a cell is as it was, or it was the higher number and is the lower
abbrev pub CellCases : ℕ → ℕ → ℕ → ℕ → Row → Type 0
CellCases c h l x r =
    (get_or (put_low c h l r) x 0 ≡ get_or r x 0) ⊎ ((c ≡ x) × (get_or r x 0 ≡ h) × (get_or (put_low c h l r) x 0 ≡ l))

pub cell_cases : (c h l x : ℕ) (r : Row) → CellCases c h l x r
cell_cases c h l x [] = inl refl
cell_cases zero h l zero (y ∷ r) =
    pick_both (eqb y h) l y (λ v. (v ≡ y) ⊎ ((◌≡◌ {A = ℕ} 0 0) × (y ≡ h) × (v ≡ l))) (λ e. inr (refl, eqb-true y h e, refl)) (λ e. inl refl)
cell_cases zero h l (suc x) (y ∷ r) = inl refl
cell_cases (suc c) h l zero (y ∷ r) = inl refl
cell_cases (suc c) h l (suc x) (y ∷ r) = elim (cell_cases c h l x r) [ inl e ↦ inl e | inr e ↦ inr (ap suc e.0, e.1, e.2) ]

pub zero_kept : (c h l x : ℕ) (r : Row) → l < h → get_or r x 0 ≡ 0 → get_or (put_low c h l r) x 0 ≡ 0
zero_kept c h l x r k e = elim (cell_cases c h l x r) [ inl q ↦ q ∙ e | inr q ↦ absurd (let a = q.1 in omega arith) ]

row_total : (c h l : ℕ) (r : Row) → l < h → total_row (put_low c h l r) ≤ total_row r
row_total c h l [] k = omega arith
row_total zero h l (x ∷ xs) k =
    pick_both (eqb x h) l x (λ v. v + total_row xs ≤ x + total_row xs) (λ e. let q = eqb-true x h e in omega arith) (λ e. omega arith)
row_total (suc c) h l (x ∷ xs) k = let q = row_total c h l xs k in omega arith

row_less : (c h l : ℕ) (r : Row) → l < h → get_or r c 0 ≡ h → total_row (put_low c h l r) < total_row r
row_less c h l [] k e = absurd (omega arith)
row_less zero h l (x ∷ xs) k e =
    pick_both (eqb x h) l x (λ v. v + total_row xs < x + total_row xs) (λ q. omega arith) (λ q. absurd (eqb-false x h q e))
row_less (suc c) h l (x ∷ xs) k e = let q = row_less c h l xs k e in omega arith

abbrev pub mended : Fault → Row → Row
mended f r = put_low f.column f.high f.low r

pub in_mend : (f : Fault) (t : List Row) (r : Row) → In r t → In (mended f r) (mend f t)
in_mend f [] r h = absurd h
in_mend f (s ∷ t) r h = elim h [ inl e ↦ inl (ap (mended f) e) | inr k ↦ inr (in_mend f t r k) ]

pub mend_in : (f : Fault) (t : List Row) (y : Row) → In y (mend f t) → (r : Row) × In r t × (mended f r ≡ y)
mend_in f [] y h = absurd h
mend_in f (s ∷ t) y h = elim h [ inl e ↦ (s, inl refl, e) | inr k ↦ let q = mend_in f t y k in (q.0, inr q.1, q.2) ]

mend_total : (f : Fault) (t : List Row) → f.low < f.high → total (mend f t) ≤ total t
mend_total f [] k = omega arith
mend_total f (r ∷ t) k = let a = row_total f.column f.high f.low r k in let b = mend_total f t k in omega arith

pub mend_less : (f : Fault) (t : List Row) → f.low < f.high → (s : Row) → In s t → get_or s f.column 0 ≡ f.high → total (mend f t) < total t
mend_less f [] k s h e = absurd h
mend_less f (r ∷ t) k s h e =
    elim h [
      | inl q ↦
          let a = row_less f.column f.high f.low r k (subst (λ v. get_or v f.column 0 ≡ f.high) (sym q) e) in
          let b = mend_total f t k in
          omega arith
      | inr j ↦ let a = row_total f.column f.high f.low r k in let b = mend_less f t k s j e in omega arith
    ]
