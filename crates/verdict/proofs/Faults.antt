-- A fault is two rows of the table that a rule makes equal in a column where they are not; a table without one obeys the rules. Assumes nothing.
use Rattle.std.proofs.Common.{◌≡◌, ℕ, ◌<◌, true, ltb, List, [], ◌∷◌, get_or, sym, refl, ◌∙◌, subst, inl, inr, arith}
use Rattle.std.proofs.lemmas.Bool.{true≢false, ltb-true, ltb-false, lt-ltb, cases_Bool}
use Rattle.dependencies.specs.Tables.{Row, Dep, agree, ObeysAll}
use Rattle.columns.specs.Every.{each}
use Rattle.verdict.specs.Chase.{Fault, fault_in, faults_between, faults}
use Rattle.columns.specs.Members.{In}
use Rattle.columns.proofs.Members.{pick_both}
use Rattle.dependencies.proofs.Rows.{agree_same, same_agree}
use Rattle.dependencies.proofs.Tables.{pair_obeys, each_obeys}
use Rattle.columns.proofs.Everyone.{in_each, each_in}

pub record Why (ds : List Dep) (t : List Row) (f : Fault) : Type 0 where
  pub rule : Dep
  pub one : Row
  pub two : Row
  pub rule_there : In rule ds
  pub one_there : In one t
  pub two_there : In two t
  pub agrees : agree rule.left one two ≡ true
  pub right_of : In f.column rule.right
  pub low_is : f.low ≡ get_or one f.column 0
  pub high_is : get_or two f.column 0 ≡ f.high
  pub lower : f.low < f.high

abbrev IsFault : Row → Row → ℕ → Fault → Type 0
IsFault r s c f = (f.column ≡ c) × (f.low ≡ get_or r c 0) × (get_or s c 0 ≡ f.high) × (f.low < f.high)

fault_is : (r s : Row) (c : ℕ) (f : Fault) → In f (fault_in r s c) → IsFault r s c f
fault_is r s c f =
    let one : Fault = record { column = c; low = get_or r c 0; high = get_or s c 0 } in
    pick_both (ltb (get_or r c 0) (get_or s c 0)) (one ∷ []) [] (λ v. In f v → IsFault r s c f)
    (λ e h. elim h [ inl q ↦ subst (λ v. IsFault r s c v) q (refl, refl, refl, ltb-true (get_or r c 0) (get_or s c 0) e) | inr z ↦ absurd z ])
    (λ e h. absurd h)

pub fault_why : (ds : List Dep) (t : List Row) (f : Fault) → In f (faults ds t) → Why ds t f
fault_why ds t f h =
    let a = each_in ds (λ d. each t (λ r. each t (λ s. faults_between d r s))) f h in
    let b = each_in t (λ r. each t (λ s. faults_between a.0 r s)) f a.2 in
    let c = each_in t (λ s. faults_between a.0 b.0 s) f b.2 in
    pick_both (agree a.0.left b.0 c.0) (each a.0.right (fault_in b.0 c.0)) [] (λ v. In f v → Why ds t f)
    (λ e k.
    let x = each_in a.0.right (fault_in b.0 c.0) f k in
    let w = fault_is b.0 c.0 x.0 f x.2 in
    record {
      rule = a.0;
      one = b.0;
      two = c.0;
      rule_there = a.1;
      one_there = b.1;
      two_there = c.1;
      agrees = e;
      right_of = subst (λ v. In v a.0.right) (sym w.0) x.1;
      low_is = subst (λ v. f.low ≡ get_or b.0 v 0) (sym w.0) w.1;
      high_is = subst (λ v. get_or c.0 v 0 ≡ f.high) (sym w.0) w.2;
      lower = w.3;
    })
    (λ e k. absurd k) c.2

pub fault_there : (ds : List Dep) (t : List Row) (d : Dep) (r s : Row) (c : ℕ) → In d ds → In r t → In s t → agree d.left r s ≡ true → In c d.right
    → get_or r c 0 < get_or s c 0 → In (record { column = c; low = get_or r c 0; high = get_or s c 0 }) (faults ds t)
fault_there ds t d r s c hd hr hs e i l =
    let f : Fault = record { column = c; low = get_or r c 0; high = get_or s c 0 } in
    in_each ds (λ x. each t (λ y. each t (λ z. faults_between x y z))) d f hd
    (in_each t (λ y. each t (λ z. faults_between d y z)) r f hr
    (in_each t (λ z. faults_between d r z) s f hs
    (pick_both (agree d.left r s) (each d.right (fault_in r s)) [] (λ v. In f v)
    (λ q.
    in_each d.right (fault_in r s) c f i
    (pick_both (ltb (get_or r c 0) (get_or s c 0)) (f ∷ []) [] (λ v. In f v) (λ p. inl refl)
    (λ p. absurd (true≢false (sym (lt-ltb (get_or r c 0) (get_or s c 0) l) ∙ p)))))
    (λ q. absurd (true≢false (sym e ∙ q))))))

abbrev pub Faultless : List Dep → List Row → Type 0
Faultless ds t = (f : Fault) → In f (faults ds t) → ⊥

pub faultless_obeys : (ds : List Dep) (t : List Row) → Faultless ds t → ObeysAll t ds
faultless_obeys ds t no· =
    each_obeys t ds (λ d h. pair_obeys t d (λ r s hr hs e. same_agree d.right r s (λ c i.
    let back : agree d.left s r ≡ true = same_agree d.left s r (λ x k. sym (agree_same d.left r s e x k)) in
    elim (cases_Bool (ltb (get_or r c 0) (get_or s c 0))) [
      | inl a ↦ absurd (no· _ (fault_there ds t d r s c h hr hs e i (ltb-true (get_or r c 0) (get_or s c 0) a)))
      | inr a ↦
          elim (cases_Bool (ltb (get_or s c 0) (get_or r c 0))) [
            | inl b ↦ absurd (no· _ (fault_there ds t d s r c h hs hr back i (ltb-true (get_or s c 0) (get_or r c 0) b)))
            | inr b ↦ let x = ltb-false (get_or r c 0) (get_or s c 0) a in let y = ltb-false (get_or s c 0) (get_or r c 0) b in omega arith
          ]
    ])))
