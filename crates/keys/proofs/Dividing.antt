-- What holds of the columns that are chosen and of those that are free, as the lowest free one, c, is taken.
use Rattle.std.proofs.Common.{◌≡◌, ℕ, ◌<◌, true, eqb, [], ◌∷◌, sym, refl, ◌∙◌, subst, inl, inr, arith}
use Rattle.std.proofs.lemmas.Bool.{or_cases, eqb-true}
use Rattle.columns.specs.Cols.{Cols, has, all_in, Rising}
use Rattle.columns.specs.Members.{In, Sub}
use Rattle.columns.proofs.Columns.{has_in, in_has, all_in_sub, sub_all_in}
use Rattle.columns.proofs.Rising.{rising_low}
use Rattle.keys.specs.Walks.{With}

-- every column of s is below every one of l
abbrev pub Apart : Cols → Cols → Type 0
Apart s l = (c d : ℕ) → has s c ≡ true → has l d ≡ true → c < d

pub apart_none : (s l : Cols) → s ≡ [] → Apart s l
apart_none s l e c d h k = absurd (subst (λ v. In c v) e (has_in s c h))

pub none_inside : (s p : Cols) → s ≡ [] → all_in s p ≡ true
none_inside s p e = sub_all_in s p (λ c i. absurd (subst (λ v. In c v) e i))

pub inside_self : (p : Cols) → all_in p p ≡ true
inside_self p = sub_all_in p p (λ c i. i)

module _ (s l t m : Cols) (c : ℕ) (first : l ≡ c ∷ m) where
  rest_in : Sub m l
  rest_in d i = subst (λ v. In d v) (sym first) (inr i)

  lowest_in : In c l
  lowest_in = subst (λ v. In c v) (sym first) (inl refl)

  pub rest_within : (p : Cols) → all_in l p ≡ true → all_in m p ≡ true
  rest_within p h = sub_all_in m p (λ d i. all_in_sub l p h d (rest_in d i))

  pub rest_apart : Apart s l → Apart s m
  rest_apart f a d h k = f a d h (in_has l d (rest_in d (has_in m d k)))

  -- the lowest column lies between the chosen ones and the rest
  pub above : Apart s l → (d : ℕ) → In d s → d < c
  above f d i = f d c (in_has s d i) (in_has l c lowest_in)

  pub under : Rising l → (d : ℕ) → In d m → c < d
  under r d i = rising_low (subst Rising first r) d i

  pub with_inside : (p : Cols) → With s c t → all_in s p ≡ true → all_in l p ≡ true → all_in t p ≡ true
  with_inside p w h k =
      sub_all_in t p (λ d i.
      elim (or_cases (has s d) (eqb c d) (sym (w d) ∙ in_has t d i)) [
        | inl a ↦ all_in_sub s p h d (has_in s d a)
        | inr b ↦ subst (λ v. In v p) (eqb-true c d b) (all_in_sub l p k c lowest_in)
      ])

  pub with_apart : With s c t → Rising l → Apart s l → Apart t m
  with_apart w r f a d h k =
      elim (or_cases (has s a) (eqb c a) (sym (w a) ∙ h)) [
        | inl q ↦ rest_apart f a d q k
        | inr q ↦ let e : c ≡ a = eqb-true c a q in let lt : c < d = under r d (has_in m d k) in omega arith
      ]
