-- How many columns a set lacks: by this a loop that only adds columns ends.
use Rattle.std.proofs.Common.{◌≡◌, ℕ, zero, suc, ◌+◌, ◌<◌, ◌≤◌, Bool, true, false, eqb, [], ◌∷◌, sym, refl, ap, ◌∙◌, inl, inr, arith}
use Rattle.std.proofs.lemmas.Bool.{cases_Bool, cases_eq, and_cases, or_left, or_right, both_ways, eq-eqb}
use Rattle.columns.specs.Cols.{Cols, has, all_in}
use Rattle.columns.specs.Sets.{cols}
use Rattle.columns.specs.declared.set.ColumnSet.{ColumnSet}
use Rattle.columns.proofs.Lists.{Inside, has_cons, same_test, all_gives}
use Rattle.columns.proofs.SetNumbers.{cols_below, same_bits}

pub lacking : Bool → ℕ
lacking true = 0
lacking false = 1

-- of the columns below k, those that are not there
pub absent : ℕ → Cols → ℕ
absent zero cs = 0
absent (suc k) cs = lacking (has cs k) + absent k cs

lacking_le : (a b : Bool) → (a ≡ true → b ≡ true) → lacking b ≤ lacking a
unfolding lacking
lacking_le true true f = omega arith
lacking_le true false f = absurd (both_ways false refl (f refl))
lacking_le false true f = omega arith
lacking_le false false f = omega arith

lacking_lt : (a b : Bool) → a ≡ false → b ≡ true → lacking b < lacking a
unfolding lacking
lacking_lt true b p q = absurd (both_ways true p refl)
lacking_lt false true p q = omega arith
lacking_lt false false p q = absurd (both_ways false refl q)

absent_le : (k : ℕ) (xs ys : Cols) → Inside xs ys → absent k ys ≤ absent k xs
unfolding absent
absent_le zero xs ys f = omega arith
absent_le (suc k) xs ys f = omega (arith, absent_le k xs ys f, lacking_le (has xs k) (has ys k) (f k))

pub absent_less : (k : ℕ) (xs ys : Cols) (c : ℕ) → Inside xs ys → c < k → has xs c ≡ false → has ys c ≡ true → absent k ys < absent k xs
unfolding absent
absent_less zero xs ys c f h p q = absurd (omega arith)
absent_less (suc k) xs ys c f h p q =
    elim (cases_eq c k) [
      | inl e ↦ let low : lacking (has ys k) < lacking (has xs k) = lacking_lt (has xs k) (has ys k) (ap (has xs) (sym e) ∙ p) (ap (has ys) (sym e) ∙ q) in
          omega (arith, absent_le k xs ys f)
      | inr ne ↦ let less : c < k = omega arith in omega (arith, absent_less k xs ys c f less p q, lacking_le (has xs k) (has ys k) (f k))
    ]

-- a list that is not inside another has a column that the other lacks
pub outside : (xs ys : Cols) → all_in xs ys ≡ false → (c : ℕ) × (has xs c ≡ true) × (has ys c ≡ false)
unfolding all_in
outside [] ys e = absurd (both_ways true e refl)
outside (x ∷ xs) ys e =
    elim (and_cases (has ys x) (all_in xs ys) e) [
      | inl p ↦ (x, has_cons x xs x ∙ or_left (eqb x x) (has xs x) (eq-eqb x x refl), p)
      | inr p ↦ let r = outside xs ys p in (r.0, has_cons x xs r.0 ∙ or_right (eqb x r.0) (has xs r.0) r.1, r.2)
    ]

-- a set that another one goes beyond lacks more
pub grows : (s t : ColumnSet) → Inside (cols s) (cols t) → (t.bits ≡ s.bits → ⊥) → absent 16 (cols t) < absent 16 (cols s)
grows s t f ne =
    elim (cases_Bool (all_in (cols t) (cols s))) [
      | inl e ↦ absurd (ne (same_bits t s (λ c. same_test (has (cols t) c) (has (cols s) c) (all_gives (cols t) (cols s) e c) (f c))))
      | inr e ↦ let r = outside (cols t) (cols s) e in absent_less 16 (cols s) (cols t) r.0 f (cols_below t r.0 r.1) r.2 r.1
    ]
