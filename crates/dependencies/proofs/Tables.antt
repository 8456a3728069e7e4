-- A table obeys a rule exactly if each two of its rows do. Assumes nothing.
use Rattle.std.proofs.Common.{◌≡◌, true, List, [], ◌∷◌, get_or, subst, inl, inr}
use Rattle.dependencies.specs.Tables.{Row, Dep, agree, Obeys, ObeysAll, no_dep}
use Rattle.columns.specs.Members.{In, Sub}
use Rattle.columns.proofs.Members.{in_at, at_in}

abbrev pub PairObeys : Row → Row → Dep → Type 0
PairObeys r s d = agree d.left r s ≡ true → agree d.right r s ≡ true

pub obeys_pair : (t : List Row) (d : Dep) → Obeys t d → (r s : Row) → In r t → In s t → PairObeys r s d
unfolding Obeys
obeys_pair t d o r s hr hs =
    let i = at_in t r [] hr in
    let j = at_in t s [] hs in
    subst (λ x. PairObeys x s d) i.2 (subst (λ y. PairObeys (get_or t i.0 []) y d) j.2 (o i.0 j.0 i.1 j.1))

pub pair_obeys : (t : List Row) (d : Dep) → ((r s : Row) → In r t → In s t → PairObeys r s d) → Obeys t d
unfolding Obeys
pair_obeys t d f i j hi hj = f _ _ (in_at t i [] hi) (in_at t j [] hj)

pub obeys_each : (t : List Row) (ds : List Dep) → ObeysAll t ds → (d : Dep) → In d ds → Obeys t d
unfolding ObeysAll
obeys_each t ds o d h = let i = at_in ds d no_dep h in subst (λ x. Obeys t x) i.2 (o i.0 i.1)

pub each_obeys : (t : List Row) (ds : List Dep) → ((d : Dep) → In d ds → Obeys t d) → ObeysAll t ds
unfolding ObeysAll
each_obeys t ds f i h = f _ (in_at ds i no_dep h)

-- fewer rows obey what more rows obey
pub fewer_rows : (t u : List Row) (ds : List Dep) → Sub u t → ObeysAll t ds → ObeysAll u ds
fewer_rows t u ds f o = each_obeys u ds (λ d h. pair_obeys u d (λ r s hr hs. obeys_pair t d (obeys_each t ds o d h) r s (f r hr) (f s hs)))

pub two_rows_in : (t : List Row) (r s : Row) → In r t → In s t → Sub (r ∷ s ∷ []) t
two_rows_in t r s hr hs x k =
    elim k [ inl e ↦ subst (λ v. In v t) e hr | inr q ↦ elim q [ inl e ↦ subst (λ v. In v t) e hs | inr z ↦ absurd z ] ]
