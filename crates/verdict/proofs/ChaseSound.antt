-- Read by a table that obeys the rules, the rows of the tableau are rows of the table, from the first to the last. Assumes nothing.
use Rattle.std.proofs.Common.{◌≡◌, ℕ, zero, suc, ◌+◌, ◌<◌, true, List, [], ◌∷◌, get_or, sym, refl, ap, ◌∙◌, subst, inl, inr, arith}
use Rattle.dependencies.specs.Tables.{Row, Dep, agree, ObeysAll}
use Rattle.columns.specs.Cols.{has, columns}
use Rattle.schema.specs.Design.{Part, LosesNothing}
use Rattle.verdict.specs.Chase.{Fault, faults, mend, chase, tableau, total, first_cell, does_lose_nothing}
use Rattle.columns.specs.Members.{In}
use Rattle.columns.proofs.Members.{pick_both}
use Rattle.dependencies.proofs.Rows.{Same, agree_same}
use Rattle.columns.proofs.Columns.{has_in, below}
use Rattle.dependencies.proofs.Closures.{Within}
use Rattle.schema.proofs.Looks.{SeenApart, seen_loses}
use Rattle.dependencies.proofs.Exact.{same_closed}
use Rattle.columns.proofs.Everyone.{any_some}
use Rattle.dependencies.proofs.Drawn.{drawn}
use Rattle.dependencies.proofs.Smalls.{Small}
use Rattle.verdict.proofs.Mending.{mend_in, cell_cases}
use Rattle.verdict.proofs.Faults.{fault_why}
use Rattle.verdict.proofs.Chased.{chase_keeps}

-- each row of the tableau, its numbers read by v, is a row of t
abbrev pub Reads : ℕ → List Row → (ℕ → ℕ → ℕ) → List Row → Type 0
Reads n t v a = (x : Row) → In x a → (u : Row) × In u t × ((c : ℕ) → c < n → v c (get_or x c 0) ≡ get_or u c 0)

pub reads_mend : (n : ℕ) (ds : List Dep) → Small n ds → (t : List Row) → ObeysAll t ds → (v : ℕ → ℕ → ℕ) → (a : List Row) (f : Fault) → In f (faults ds a)
    → Reads n t v a → Reads n t v (mend f a)
reads_mend n ds small t o v a f h reads y k =
    let w = fault_why ds a f h in
    let p = reads w.one w.one_there in
    let q = reads w.two w.two_there in
    let l = (small w.rule w.rule_there f.column).1 w.right_of in
    let same : Same p.0 q.0 f.column
    = same_closed ds t o p.0 q.0 p.1 q.1 w.rule w.rule_there
    (λ c i.
    let m = (small w.rule w.rule_there c).0 i in
    sym (p.2 c m) ∙ ap (v c) (agree_same w.rule.left w.one w.two w.agrees c i) ∙ q.2 c m)
    f.column w.right_of in
    let merged : v f.column f.low ≡ v f.column f.high
    = ap (v f.column) w.low_is ∙ p.2 f.column l ∙ same ∙ sym (q.2 f.column l) ∙ ap (v f.column) w.high_is in
    let z = mend_in f a y k in
    let u = reads z.0 z.1 in (
      u.0,
      u.1,
      λ c m.
          subst (λ s. v c (get_or s c 0) ≡ get_or u.0 c 0) z.2
          (elim (cell_cases f.column f.high f.low c z.0) [
            | inl e ↦ ap (v c) e ∙ u.2 c m
            | inr e ↦ ap (v c) e.2 ∙ subst (λ x. v x f.low ≡ v x f.high) e.0 merged ∙ ap (v c) (sym e.1) ∙ u.2 c m
          ]),
    )

-- rows of the table, one for each part, that look there like r
abbrev pub Chosen : List Row → Row → List Part → List Row → Type 0
Chosen t r [] us = Unit {0}
Chosen t r (p ∷ ps) [] = ⊥
Chosen t r (p ∷ ps) (u ∷ us) = In u t × Within p.cols (Same r u) × Chosen t r ps us

pub choose : (t : List Row) (r : Row) (ps : List Part) → SeenApart t r ps → (us : List Row) × Chosen t r ps us
choose t r [] f = ([], tt)
choose t r (p ∷ ps) f =
    let u = f p (inl refl) in
    let rest = choose t r ps (λ q h. f q (inr h)) in
    (u.0 ∷ rest.0, (u.1, u.2, rest.1))

pub start_reads : (n : ℕ) (t : List Row) (r : Row) (v : ℕ → ℕ → ℕ) → ((c : ℕ) → v c 0 ≡ get_or r c 0) → (i : ℕ) (ps : List Part) (us : List Row) → Chosen t r ps us
    → ((c j : ℕ) → v c (suc (i + j)) ≡ get_or (get_or us j []) c 0) → Reads n t v (tableau n i ps)
start_reads n t r v nought i [] us ch own x h = absurd h
start_reads n t r v nought i (p ∷ ps) [] ch own x h = absurd ch
start_reads n t r v nought i (p ∷ ps) (u ∷ us) ch own x h =
    elim h [
      | inl e ↦ (
        u,
        ch.0,
        λ c l.
            subst (λ s. v c (get_or s c 0) ≡ get_or u c 0) e
            (ap (v c) (drawn (first_cell p.cols (suc i)) n c l)
            ∙ pick_both (has p.cols c) 0 (suc i) (λ k. v c k ≡ get_or u c 0) (λ q. nought c ∙ ch.1 c (has_in p.cols c q))
            (λ q. ap (v c) (omega arith) ∙ own c 0)),
      )
      | inr k ↦ start_reads n t r v nought (suc i) ps us ch.2 (λ c j. ap (v c) (omega arith) ∙ own c (suc j)) x k
    ]

abbrev pub value : Row → List Row → ℕ → ℕ → ℕ
value r us c zero = get_or r c 0
value r us c (suc i) = get_or (get_or us i []) c 0

-- a row of zeros at any time of the chase is a row of the table that looks like r
pub zeros_seen : (n : ℕ) (ds : List Dep) → Small n ds → (ps : List Part) (k : ℕ) (x : Row) → In x (chase k ds (tableau n 0 ps)) → agree (columns 0 n) [] x ≡ true → LosesNothing n ds ps
zeros_seen n ds small ps k x h e =
    seen_loses n ds ps (λ t r o looks.
    let us = choose t r ps looks in
    let v = value r us.0 in
    let start : Reads n t v (tableau n 0 ps) = start_reads n t r v (λ c. refl) 0 ps us.0 us.1 (λ c j. let e : suc (0 + j) ≡ suc j = omega arith in ap (v c) e) in
    let u = chase_keeps ds (Reads n t v) (reads_mend n ds small t o v) k (tableau n 0 ps) start x h in
    (u.0, u.1, λ c i. ap (v c) (agree_same (columns 0 n) [] x e c i) ∙ u.2 c (below n c i)))

pub chase_sound : (n : ℕ) (ds : List Dep) (ps : List Part) → Small n ds → does_lose_nothing n ds ps ≡ true → LosesNothing n ds ps
chase_sound n ds ps small h =
    let s = any_some (chase (total (tableau n 0 ps)) ds (tableau n 0 ps)) (λ r. agree (columns 0 n) [] r) h in
    zeros_seen n ds small ps (total (tableau n 0 ps)) s.0 s.1 s.2
