-- The last tableau is a table that obeys the rules, and in each part the row of zeros looks like one of its rows. Assumes nothing.
use Rattle.std.proofs.Common.{◌≡◌, ℕ, suc, ◌<◌, true, ltb, List, [], ◌∷◌, length, get_or, sym, refl, ◌∙◌, subst, inl, inr}
use Rattle.std.proofs.lemmas.Bool.{ltb-true, ltb-false, cases_Bool}
use Rattle.dependencies.specs.Tables.{Row, Dep, agree, draw}
use Rattle.columns.specs.Cols.{columns, pick}
use Rattle.schema.specs.Design.{Part, LosesNothing}
use Rattle.verdict.specs.Chase.{Fault, faults, mend, chase, tableau, total, first_cell, does_lose_nothing}
use Rattle.verdict.specs.Decided.{ChaseDecides}
use Rattle.columns.specs.Members.{In}
use Rattle.columns.proofs.Columns.{in_has}
use Rattle.dependencies.proofs.Rows.{same_agree}
use Rattle.schema.proofs.Looks.{loses_seen}
use Rattle.columns.proofs.Everyone.{any_from}
use Rattle.dependencies.proofs.Drawn.{drawn, past}
use Rattle.dependencies.proofs.Smalls.{proper_small}
use Rattle.verdict.proofs.Mending.{mended, in_mend, zero_kept}
use Rattle.verdict.proofs.Faults.{fault_why, Faultless, faultless_obeys}
use Rattle.verdict.proofs.Chased.{chase_keeps, chase_faultless}
use Rattle.verdict.proofs.ChaseSound.{chase_sound}

-- each part has a row with zeros in its columns
abbrev pub Zeros : List Part → List Row → Type 0
Zeros ps t = (p : Part) → In p ps → (x : Row) × In x t × ((c : ℕ) → In c p.cols → get_or x c 0 ≡ 0)

pub start_zeros : (n i : ℕ) (ps : List Part) → Zeros ps (tableau n i ps)
start_zeros n i [] p h = absurd h
start_zeros n i (q ∷ ps) p h =
    elim h [
      | inl e ↦ (
        draw (first_cell q.cols (suc i)) 0 n,
        inl refl,
        λ c j.
            elim (cases_Bool (ltb c n)) [
              | inl l ↦
                  drawn (first_cell q.cols (suc i)) n c (ltb-true c n l)
                  ∙ subst (λ b. pick b 0 (suc i) ≡ 0) (sym (in_has q.cols c (subst (λ v. In c v.cols) (sym e) j))) refl
              | inr l ↦ past (first_cell q.cols (suc i)) n c (ltb-false c n l)
            ],
      )
      | inr k ↦ let r = start_zeros n (suc i) ps p k in (r.0, inr r.1, r.2)
    ]

pub mend_zeros : (ds : List Dep) (ps : List Part) (t : List Row) (f : Fault) → In f (faults ds t) → Zeros ps t → Zeros ps (mend f t)
mend_zeros ds ps t f h z p k =
    let r = z p k in
    (mended f r.0, in_mend f t r.0 r.1, λ c i. zero_kept f.column f.high f.low c r.0 (fault_why ds t f h).lower (r.2 c i))

-- a table without faults that has the zeros of each part has a row of zeros, if the parts lose nothing
pub faultless_zeros : (n : ℕ) (ds : List Dep) (ps : List Part) → 0 < length ps → LosesNothing n ds ps → (t : List Row) → Faultless ds t → Zeros ps t
    → (x : Row) × In x t × (agree (columns 0 n) [] x ≡ true)
faultless_zeros n ds ps some· loses t no· z =
    let s = loses_seen n ds ps loses t [] (faultless_obeys ds t no·) (λ p h. let r = z p h in (r.0, r.1, λ c i. sym (r.2 c i))) some· in
    (s.0, s.1, same_agree (columns 0 n) [] s.0 s.2)

pub chase_complete : (n : ℕ) (ds : List Dep) (ps : List Part) → 0 < length ps → LosesNothing n ds ps → does_lose_nothing n ds ps ≡ true
chase_complete n ds ps some· loses =
    let k = total (tableau n 0 ps) in
    let t = chase k ds (tableau n 0 ps) in
    let s =
    faultless_zeros n ds ps some· loses t (chase_faultless ds (tableau n 0 ps))
    (chase_keeps ds (Zeros ps) (mend_zeros ds ps) k (tableau n 0 ps) (start_zeros n 0 ps))
    in
    any_from t (λ r. agree (columns 0 n) [] r) s.0 s.1 s.2

pub chase_decides_lem : ChaseDecides
unfolding ChaseDecides
chase_decides_lem n ds ps proper some· = (chase_sound n ds ps (proper_small n ds proper), chase_complete n ds ps some·)
