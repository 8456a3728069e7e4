-- As many rounds us there are rules are enough: a round that changes anything brings in one more rule for good. Assumes nothing.
use Rattle.std.proofs.Common.{◌≡◌, ℕ, zero, suc, ◌+◌, ◌<◌, ◌≤◌, Bool, true, false, ◌&&◌, ◌⊎◌, List, [], ◌∷◌, length, sym, refl, ap, subst, inl, inr, arith}
use Rattle.std.proofs.lemmas.Bool.{true≢false, and_parts, and_from, and_right, cases_Bool}
use Rattle.columns.specs.Cols.{Cols, all_in}
use Rattle.dependencies.specs.Tables.{Dep}
use Rattle.dependencies.specs.Closure.{round, rounds, closure}
use Rattle.columns.specs.Members.{In, Sub}
use Rattle.columns.proofs.Columns.{all_in_sub, sub_all_in}
use Rattle.dependencies.proofs.Closures.{Closed, round_sound, round_grows, round_fires}

-- both sides of the rule are in the set
abbrev fired : Dep → Cols → Bool
fired d cs = all_in d.left cs && all_in d.right cs

abbrev one_if : Bool → ℕ
one_if true = 1
one_if false = 0

abbrev count : List Dep → Cols → ℕ
count [] cs = 0
count (d ∷ ds) cs = one_if (fired d cs) + count ds cs

one_if_small : (b : Bool) → one_if b ≤ 1
one_if_small true = omega arith
one_if_small false = omega arith

one_if_grows : (a b : Bool) → (a ≡ true → b ≡ true) → one_if a ≤ one_if b
one_if_grows true b f = rw (f refl) (omega arith)
one_if_grows false b f = omega arith

fired_grows : (d : Dep) (us vs : Cols) → Sub us vs → fired d us ≡ true → fired d vs ≡ true
fired_grows d us vs f h =
    let p = and_parts (all_in d.left us) (all_in d.right us) h in
    and_from (all_in d.left vs) (all_in d.right vs)
    (sub_all_in d.left vs (λ x i. f x (all_in_sub d.left us p.0 x i)))
    (sub_all_in d.right vs (λ x i. f x (all_in_sub d.right us p.1 x i)))

count_small : (ds : List Dep) (cs : Cols) → count ds cs ≤ length ds
count_small [] cs = omega arith
count_small (d ∷ ds) cs = omega (arith, one_if_small (fired d cs), count_small ds cs)

count_grows : (ds : List Dep) (us vs : Cols) → Sub us vs → count ds us ≤ count ds vs
count_grows [] us vs f = omega arith
count_grows (d ∷ ds) us vs f = omega (arith, one_if_grows (fired d us) (fired d vs) (fired_grows d us vs f), count_grows ds us vs f)

count_more : (ds : List Dep) (us vs : Cols) → Sub us vs → (d : Dep) → In d ds → fired d us ≡ false → fired d vs ≡ true → count ds us < count ds vs
count_more [] us vs f d h no· yes· = absurd h
count_more (e ∷ ds) us vs f d h no· yes· =
    elim h [
      | inl q ↦
          let a : one_if (fired e us) ≡ 0 = ap one_if (subst (λ v. fired v us ≡ false) (sym q) no·) in
          let b : one_if (fired e vs) ≡ 1 = ap one_if (subst (λ v. fired v vs ≡ true) (sym q) yes·) in
          omega (arith, count_grows ds us vs f)
      | inr k ↦ omega (arith, one_if_grows (fired e us) (fired e vs) (fired_grows e us vs f), count_more ds us vs f d k no· yes·)
    ]

one_if_full : (b : Bool) → 1 ≤ one_if b → b ≡ true
one_if_full true h = refl
one_if_full false h = absurd (omega arith)

count_full : (ds : List Dep) (cs : Cols) → length ds ≤ count ds cs → (d : Dep) → In d ds → fired d cs ≡ true
count_full [] cs l d h = absurd h
count_full (e ∷ ds) cs l d h =
    elim h [
      | inl q ↦ subst (λ v. fired v cs ≡ true) q (one_if_full (fired e cs) (omega (arith, count_small ds cs)))
      | inr k ↦ count_full ds cs (omega (arith, one_if_small (fired e cs))) d k
    ]

abbrev Shut : List Dep → Cols → Type 0
Shut ds cs = Closed ds (λ c. In c cs)

-- a rule leads out of the set, or none does
abbrev Open : List Dep → Cols → Type 0
Open ds cs = (d : Dep) × In d ds × Sub d.left cs × (all_in d.right cs ≡ false)

also : (e : Dep) (ds : List Dep) (cs : Cols) → (Sub e.left cs → Sub e.right cs) → Shut ds cs ⊎ Open ds cs → Shut (e ∷ ds) cs ⊎ Open (e ∷ ds) cs
also e ds cs f (inl s) =
    inl (λ d h l. elim h [ inl q ↦ subst (λ v. Sub v.right cs) q (f (subst (λ v. Sub v.left cs) (sym q) l)) | inr k ↦ s d k l ])
also e ds cs f (inr o) = inr (o.0, inr o.1, o.2, o.3)

find_open : (ds : List Dep) (cs : Cols) → Shut ds cs ⊎ Open ds cs
find_open [] cs = inl (λ d h. absurd h)
find_open (e ∷ ds) cs =
    elim (cases_Bool (all_in e.left cs)) [
      | inl p ↦
          elim (cases_Bool (all_in e.right cs))
          [ inl q ↦ also e ds cs (λ f. all_in_sub e.right cs q) (find_open ds cs) | inr q ↦ inr (e, inl refl, all_in_sub e.left cs p, q) ]
      | inr p ↦ also e ds cs (λ f. absurd (true≢false (subst (λ v. v ≡ false) (sub_all_in e.left cs f) p))) (find_open ds cs)
    ]

shut_round : (ds : List Dep) (cs : Cols) → Shut ds cs → Shut ds (round ds cs)
shut_round ds cs s d h l c i =
    round_grows ds cs c (s d h (λ x k. round_sound ds (λ v. In v cs) s cs (λ v q. q) x (l x k)) c i)

shut_rounds : (k : ℕ) (ds : List Dep) (cs : Cols) → Shut ds cs → Shut ds (rounds k ds cs)
unfolding rounds
shut_rounds zero ds cs s = s
shut_rounds (suc k) ds cs s = shut_rounds k ds (round ds cs) (shut_round ds cs s)

progress : (ds : List Dep) (cs : Cols) → Shut ds cs ⊎ (count ds cs < count ds (round ds cs))
progress ds cs =
    elim (find_open ds cs) [
      | inl s ↦ inl s
      | inr o ↦
          inr (count_more ds cs (round ds cs) (round_grows ds cs) o.0 o.1 (and_right (all_in o.0.left cs) (all_in o.0.right cs) o.3)
          (and_from (all_in o.0.left (round ds cs)) (all_in o.0.right (round ds cs))
          (sub_all_in o.0.left (round ds cs) (λ x i. round_grows ds cs x (o.2 x i)))
          (sub_all_in o.0.right (round ds cs) (round_fires ds cs o.0 o.1 o.2))))
    ]

reached : (k : ℕ) (ds : List Dep) (cs : Cols) → Shut ds (rounds k ds cs) ⊎ (k + count ds cs ≤ count ds (rounds k ds cs))
unfolding rounds
reached zero ds cs = inr (omega arith)
reached (suc k) ds cs =
    elim (progress ds cs) [
      | inl s ↦ inl (shut_rounds k ds (round ds cs) (shut_round ds cs s))
      | inr m ↦ elim (reached k ds (round ds cs)) [ inl s ↦ inl s | inr n ↦ inr (omega arith) ]
    ]

pub closure_closed : (ds : List Dep) (cs : Cols) → Closed ds (λ c. In c (closure ds cs))
unfolding closure
closure_closed ds cs =
    elim (reached (length ds) ds cs) [
      | inl s ↦ s
      | inr m ↦
          λ d h l.
          all_in_sub d.right (rounds (length ds) ds cs)
          (and_parts (all_in d.left (rounds (length ds) ds cs)) (all_in d.right (rounds (length ds) ds cs))
          (count_full ds (rounds (length ds) ds cs) (omega arith) d h)).1
    ]
