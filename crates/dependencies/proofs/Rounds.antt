-- Rounds of the rules: they look only at which columns there are, and as many rounds as rules are enough.
use Rattle.std.proofs.Common.{◌≡◌, ℕ, zero, suc, ◌+◌, ◌-◌, ◌<◌, ◌≤◌, Bool, true, false, ◌||◌, ◌⊎◌, List, [], ◌∷◌, ◌++◌, length, sym, refl, ap, ◌∙◌, inl, inr, arith}
use Rattle.std.proofs.lemmas.Bool.{cases_Bool, cases_lt, or_left, or_right, or_cases, both_ways}
use Rattle.columns.specs.Cols.{Cols, pick, has, all_in, Same}
use Rattle.columns.proofs.Lists.{Inside, has_append, same_test, all_from, all_gives, all_same}
use Rattle.columns.specs.Sets.{cols}
use Rattle.columns.specs.declared.set.ColumnSet.{ColumnSet}
use Rattle.dependencies.specs.Tables.{Dep}
use Rattle.dependencies.specs.Closure.{round, rounds, closure}
use Rattle.dependencies.specs.Rules.{dep, deps}
use Rattle.dependencies.specs.declared.rules.Rule.{Rule}

pub same_sym : (xs ys : Cols) → Same xs ys → Same ys xs
same_sym xs ys p c = sym (p c)

pub same_trans : (xs ys zs : Cols) → Same xs ys → Same ys zs → Same xs zs
same_trans xs ys zs p q c = p c ∙ q c

pub append_same : (xs xs' ys ys' : Cols) → Same xs xs' → Same ys ys' → Same (xs ++ ys) (xs' ++ ys')
append_same xs xs' ys ys' p q c =
    has_append xs ys c ∙ ap (λ (b : Bool). b || has ys c) (p c) ∙ ap (λ (b : Bool). has xs' c || b) (q c) ∙ sym (has_append xs' ys' c)

-- what one rule adds
abbrev pub step : Dep → Cols → Cols
step d cs = pick (all_in d.left cs) (cs ++ d.right) cs

pick_same : (t u : Bool) (xs xs' ys ys' : Cols) → t ≡ u → Same xs xs' → Same ys ys' → Same (pick t xs ys) (pick u xs' ys')
pick_same true true xs xs' ys ys' e p q = p
pick_same false false xs xs' ys ys' e p q = q
pick_same true false xs xs' ys ys' e p q = absurd (both_ways true e refl)
pick_same false true xs xs' ys ys' e p q = absurd (both_ways true (sym e) refl)

pub step_same : (d : Dep) (xs ys : Cols) → Same xs ys → Same (step d xs) (step d ys)
step_same d xs ys p =
    pick_same (all_in d.left xs) (all_in d.left ys) (xs ++ d.right) (ys ++ d.right) xs ys
    (all_same d.left d.left xs ys (λ c. refl) p) (append_same xs ys d.right d.right p (λ c. refl)) p

pub round_same : (ds : List Dep) (xs ys : Cols) → Same xs ys → Same (round ds xs) (round ds ys)
unfolding round
round_same [] xs ys p = p
round_same (d ∷ ds) xs ys p = round_same ds (step d xs) (step d ys) (step_same d xs ys p)

pub rounds_same : (k : ℕ) (ds : List Dep) (xs ys : Cols) → Same xs ys → Same (rounds k ds xs) (rounds k ds ys)
unfolding rounds
rounds_same zero ds xs ys p = p
rounds_same (suc k) ds xs ys p = rounds_same k ds (round ds xs) (round ds ys) (round_same ds xs ys p)

pub rounds_last : (k : ℕ) (ds : List Dep) (xs : Cols) → rounds (suc k) ds xs ≡ round ds (rounds k ds xs)
unfolding rounds
rounds_last zero ds xs = refl
rounds_last (suc k) ds xs = rounds_last k ds (round ds xs)

pub rounds_more : (k j : ℕ) (ds : List Dep) (xs : Cols) → rounds (k + j) ds xs ≡ rounds j ds (rounds k ds xs)
unfolding rounds
rounds_more zero j ds xs = let e : 0 + j ≡ j = omega arith in ap (λ (n : ℕ). rounds n ds xs) e
rounds_more (suc k) j ds xs =
    let e : suc k + j ≡ suc (k + j) = omega arith in
    ap (λ (n : ℕ). rounds n ds xs) e ∙ rounds_more k j ds (round ds xs)

-- ---- rounds add
step_grows : (d : Dep) (xs : Cols) → Inside xs (step d xs)
step_grows d xs c h =
    elim (all_in d.left xs) as (λ b. has (pick b (xs ++ d.right) xs) c ≡ true)
    [ true ↦ has_append xs d.right c ∙ or_left (has xs c) (has d.right c) h | false ↦ h ]

pub round_grows : (ds : List Dep) (xs : Cols) → Inside xs (round ds xs)
unfolding round
round_grows [] xs c h = h
round_grows (d ∷ ds) xs c h = round_grows ds (step d xs) c (step_grows d xs c h)

-- ---- how many rules have all that they give
one_if : Bool → ℕ
one_if true = 1
one_if false = 0

given : List Dep → Cols → ℕ
given [] xs = 0
given (d ∷ ds) xs = one_if (all_in d.right xs) + given ds xs

one_if_le : (b : Bool) → one_if b ≤ 1
unfolding one_if
one_if_le true = omega arith
one_if_le false = omega arith

one_if_more : (a b : Bool) → (a ≡ true → b ≡ true) → one_if a ≤ one_if b
unfolding one_if
one_if_more true true f = omega arith
one_if_more false b f = omega arith
one_if_more true false f = absurd (both_ways false refl (f refl))

given_le : (ds : List Dep) (xs : Cols) → given ds xs ≤ length ds
unfolding given
given_le [] xs = omega arith
given_le (d ∷ ds) xs = omega (arith, given_le ds xs, one_if_le (all_in d.right xs))

inside_more : (r xs ys : Cols) → Inside xs ys → all_in r xs ≡ true → all_in r ys ≡ true
inside_more r xs ys f e = all_from r ys (λ c h. f c (all_gives r xs e c h))

given_more : (ds : List Dep) (xs ys : Cols) → Inside xs ys → given ds xs ≤ given ds ys
unfolding given
given_more [] xs ys f = omega arith
given_more (d ∷ ds) xs ys f =
    omega (arith, given_more ds xs ys f, one_if_more (all_in d.right xs) (all_in d.right ys) (inside_more d.right xs ys f))

one_if_lt : one_if false < one_if true
unfolding one_if
one_if_lt = omega arith

abbrev Fixed : List Dep → Cols → Type 0
Fixed ds xs = Same (round ds xs) xs

append_inside : (xs ys : Cols) → all_in ys xs ≡ true → Same (xs ++ ys) xs
append_inside xs ys e c =
    same_test (has (xs ++ ys) c) (has xs c)
    (λ h. elim (or_cases (has xs c) (has ys c) (sym (has_append xs ys c) ∙ h)) [ inl p ↦ p | inr p ↦ all_gives ys xs e c p ])
    (λ h. has_append xs ys c ∙ or_left (has xs c) (has ys c) h)

-- a round that adds something gives some rule all of its right side that had it not yet
gains : (ds : List Dep) (xs : Cols) → Same (round ds xs) xs ⊎ (given ds xs < given ds (round ds xs))
unfolding round given
gains [] xs = inl (λ c. refl)
gains (d ∷ ds) xs =
    let up : Inside xs (round ds (step d xs)) = λ c h. round_grows ds (step d xs) c (step_grows d xs c h) in
    let head : one_if (all_in d.right xs) ≤ one_if (all_in d.right (round ds (step d xs)))
    = one_if_more (all_in d.right xs) (all_in d.right (round ds (step d xs))) (inside_more d.right xs (round ds (step d xs)) up) in
    let rest : given ds xs ≤ given ds (step d xs) = given_more ds xs (step d xs) (step_grows d xs) in
    let same : Same (step d xs) xs → Same (round ds (step d xs)) xs ⊎ (one_if (all_in d.right xs) + given ds xs < one_if (all_in d.right (round ds (step d xs))) + given ds (round ds (step d xs)))
    = λ p. elim (gains ds (step d xs)) [
      | inl q ↦ inl (same_trans (round ds (step d xs)) (step d xs) xs q p)
      | inr q ↦ inr (omega arith)
    ] in
    elim (cases_Bool (all_in d.left xs)) [
      | inr no-left ↦ same (λ c. ap (λ (b : Bool). has (pick b (xs ++ d.right) xs) c) no-left)
      | inl fires ↦ elim (cases_Bool (all_in d.right xs)) [
        | inl old ↦ same (λ c. ap (λ (b : Bool). has (pick b (xs ++ d.right) xs) c) fires ∙ append_inside xs d.right old c)
        | inr new ↦ inr (
            let gets : Inside d.right (step d xs)
            = λ c h. ap (λ (b : Bool). has (pick b (xs ++ d.right) xs) c) fires ∙ has_append xs d.right c ∙ or_right (has xs c) (has d.right c) h in
            let then : all_in d.right (round ds (step d xs)) ≡ true
            = all_from d.right (round ds (step d xs)) (λ c h. round_grows ds (step d xs) c (gets c h)) in
            let was : one_if (all_in d.right xs) ≡ one_if false = ap one_if new in
            let is : one_if (all_in d.right (round ds (step d xs))) ≡ one_if true = ap one_if then in
            let low : one_if false < one_if true = one_if_lt in
            omega (arith, given_more ds xs (round ds (step d xs)) up))
      ]
    ]

-- after k rounds nothing changes any more, or k rules have given
reach : (k : ℕ) (ds : List Dep) (xs : Cols) → Fixed ds (rounds k ds xs) ⊎ (k ≤ given ds (rounds k ds xs))
reach zero ds xs = inr (omega arith)
reach (suc k) ds xs =
    rw rounds_last (elim (gains ds (rounds k ds xs)) [
      | inl p ↦ inl (round_same ds (round ds (rounds k ds xs)) (rounds k ds xs) p)
      | inr q ↦ elim (reach k ds xs) [
        | inl p ↦ inl (round_same ds (round ds (rounds k ds xs)) (rounds k ds xs) p)
        | inr r ↦ inr (omega arith)
      ]
    ])

-- AS MANY ROUNDS AS RULES ARE ENOUGH
pub closure_fixed : (ds : List Dep) (xs : Cols) → Same (round ds (closure ds xs)) (closure ds xs)
unfolding closure
closure_fixed ds xs =
    elim (reach (length ds) ds xs) [
      | inl p ↦ p
      | inr r ↦ elim (gains ds (rounds (length ds) ds xs)) [
        | inl p ↦ p
        | inr q ↦ absurd (omega (arith, given_le ds (round ds (rounds (length ds) ds xs))))
      ]
    ]

pub fixed_stays : (k : ℕ) (ds : List Dep) (xs : Cols) → Same (round ds xs) xs → Same (rounds k ds xs) xs
unfolding rounds
fixed_stays zero ds xs p = λ c. refl
fixed_stays (suc k) ds xs p = same_trans (rounds k ds (round ds xs)) (rounds k ds xs) xs (rounds_same k ds (round ds xs) xs p) (fixed_stays k ds xs p)

-- wherever the rounds come to rest, there is the closure
pub rest_is_closure : (k : ℕ) (ds : List Dep) (xs : Cols) → Same (round ds (rounds k ds xs)) (rounds k ds xs) → Same (rounds k ds xs) (closure ds xs)
unfolding closure
rest_is_closure k ds xs p c =
    let n : ℕ = length ds in
    elim (cases_lt k n) [
      | inl h ↦ let e : k + (n - k) ≡ n = omega arith in
          sym (ap (λ (m : ℕ). has (rounds m ds xs) c) (sym e) ∙ ap (λ (ys : Cols). has ys c) (rounds_more k (n - k) ds xs) ∙ fixed_stays (n - k) ds (rounds k ds xs) p c)
      | inr h ↦ let e : n + (k - n) ≡ k = omega arith in
          ap (λ (m : ℕ). has (rounds m ds xs) c) (sym e) ∙ ap (λ (ys : Cols). has ys c) (rounds_more n (k - n) ds xs) ∙ fixed_stays (k - n) ds (rounds n ds xs) (closure_fixed ds xs) c
    ]

-- ---- one turn of the loop over the rules
pub step_fires : (x : Rule) (s t : ColumnSet) → all_in (cols x.left) (cols s) ≡ true
    → ((c : ℕ) → has (cols t) c ≡ (has (cols s) c || has (cols x.right) c)) → Same (cols t) (step (dep x) (cols s))
step_fires x s t e f c =
    f c ∙ sym (ap (λ (b : Bool). has (pick b (cols s ++ cols x.right) (cols s)) c) e ∙ has_append (cols s) (cols x.right) c)

pub step_idle : (x : Rule) (s : ColumnSet) → all_in (cols x.left) (cols s) ≡ false → Same (cols s) (step (dep x) (cols s))
step_idle x s e c = sym (ap (λ (b : Bool). has (pick b (cols s ++ cols x.right) (cols s)) c) e)

pub turn : (x : Rule) (xs : List Rule) (s t : ColumnSet) (goal : Cols) → Same (cols t) (step (dep x) (cols s))
    → Same (round (deps (x ∷ xs)) (cols s)) goal → Same (round (deps xs) (cols t)) goal
unfolding deps round
turn x xs s t goal p q = same_trans (round (deps xs) (cols t)) (round (deps xs) (step (dep x) (cols s))) goal (round_same (deps xs) (cols t) (step (dep x) (cols s)) p) q
