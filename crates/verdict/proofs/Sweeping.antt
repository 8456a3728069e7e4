-- Sweeps of the chase: what mendings one after the other keep, and how a sweep over rows, pairs and rules is put together. Assumes nothing.
use Rattle.std.proofs.Common.{◌≡◌, ℕ, zero, suc, ◌<◌, ◌≤◌, Bool, true, false, ◌||◌, eqb, ◌⊎◌, List, [], ◌∷◌, ◌++◌, length, get_or, sym, refl, ap, ◌∙◌, subst, inl, inr, arith}
use Rattle.std.proofs.lemmas.Bool.{true≢false, both_ways, eqb-false, cases_Bool, or_cases, or_parts}
use Rattle.columns.specs.Cols.{Cols}
use Rattle.columns.specs.Every.{each}
use Rattle.columns.specs.Members.{In, Sub}
use Rattle.columns.proofs.Everyone.{in_each, each_in}
use Rattle.columns.proofs.Members.{pick_both, in_at}
use Rattle.dependencies.specs.Tables.{Row, Dep, agree}
use Rattle.dependencies.proofs.Rows.{agree_same, same_agree}
use Rattle.verdict.specs.Chase.{Fault, faults, faults_between, put_low, mend, total}
use Rattle.verdict.specs.Sweeps.{mend_all, InTurn, Chased, Sweep, PairQuiet, Between, Merged}
use Rattle.verdict.proofs.Mending.{mended, cell_cases, mend_less}
use Rattle.verdict.proofs.Faults.{fault_there}

module _ (ds : List Dep) where
  pub chased_none : (t : List Row) → Chased ds t t
  chased_none t = ([], tt, refl)

  all_append : (fs gs : List Fault) (t : List Row) → mend_all (fs ++ gs) t ≡ mend_all gs (mend_all fs t)
  all_append [] gs t = refl
  all_append (f ∷ fs) gs t = all_append fs gs (mend f t)

  turns_append : (fs gs : List Fault) (t : List Row) → InTurn ds fs t → InTurn ds gs (mend_all fs t) → InTurn ds (fs ++ gs) t
  turns_append [] gs t a b = b
  turns_append (f ∷ fs) gs t a b = (a.0, turns_append fs gs (mend f t) a.1 b)

  pub chased_then : (t u v : List Row) → Chased ds t u → Chased ds u v → Chased ds t v
  chased_then t u v a b = (
    a.0 ++ b.0,
    turns_append a.0 b.0 t a.1 (subst (InTurn ds b.0) (sym a.2) b.1),
    all_append a.0 b.0 t ∙ ap (mend_all b.0) a.2 ∙ b.2,
  )

  kept : (P : List Row → Type 0) → ((t : List Row) (f : Fault) → In f (faults ds t) → P t → P (mend f t)) → (fs : List Fault) (t : List Row) → InTurn ds fs t → P t → P (mend_all fs t)
  kept P g [] t a h = h
  kept P g (f ∷ fs) t a h = kept P g fs (mend f t) a.1 (g t f a.0 h)

  -- what each mending keeps, the chase keeps
  pub chased_kept : (P : List Row → Type 0) → ((t : List Row) (f : Fault) → In f (faults ds t) → P t → P (mend f t)) → (t u : List Row) → Chased ds t u → P t → P u
  chased_kept P g t u a h = subst P a.2 (kept P g a.0 t a.1 h)

-- a fault of one rule is a fault of all
fault_more : (d : Dep) (ds : List Dep) (t : List Row) (f : Fault) → In d ds → In f (faults (d ∷ []) t) → In f (faults ds t)
fault_more d ds t f h i =
    let g : Dep → List Fault = λ x. each t (λ r. each t (λ s. faults_between x r s)) in
    let w = each_in (d ∷ []) g f i in
    elim w.1 [ inl e ↦ in_each ds g d f h (subst (λ x. In f (g x)) (sym e) w.2) | inr z ↦ absurd z ]

turns_more : (d : Dep) (ds : List Dep) → In d ds → (fs : List Fault) (t : List Row) → InTurn (d ∷ []) fs t → InTurn ds fs t
turns_more d ds h [] t a = tt
turns_more d ds h (f ∷ fs) t a = (fault_more d ds t f h a.0, turns_more d ds h fs (mend f t) a.1)

pub sweep_none : (ds : List Dep) (Q : Type 0) (t : List Row) → Q → Sweep ds Q t t false
sweep_none ds Q t q = record { steps = chased_none ds t; moved = λ e. absurd (true≢false (sym e)); still = λ e. (refl, q) }

pub sweep_map : (ds : List Dep) (Q R : Type 0) (t u : List Row) (b : Bool) → (Q → R) → Sweep ds Q t u b → Sweep ds R t u b
sweep_map ds Q R t u b f s = record { steps = s.steps; moved = s.moved; still = λ e. ((s.still e).0, f (s.still e).1) }

pub sweep_more : (d : Dep) (ds : List Dep) (Q : Type 0) (t u : List Row) (b : Bool) → In d ds → Sweep (d ∷ []) Q t u b → Sweep ds Q t u b
sweep_more d ds Q t u b h s =
    record { steps = (s.steps.0, turns_more d ds h s.steps.0 t s.steps.1, s.steps.2); moved = s.moved; still = s.still }

no_higher : (ds : List Dep) (Q : Type 0) (t u : List Row) (a : Bool) → Sweep ds Q t u a → total u ≤ total t
no_higher ds Q t u a s =
    elim (cases_Bool a) [ inl e ↦ (let l = s.moved e in omega arith) | inr e ↦ (let l : total u ≡ total t = ap total (s.still e).0 in omega arith) ]

pub sweep_then : (ds : List Dep) (Q : Type 0) (R : List Row → Type 0) (t u v : List Row) (a b : Bool) → Sweep ds Q t u a → Sweep ds (R u) u v b
    → Sweep ds (Q × R t) t v (a || b)
sweep_then ds Q R t u v a b s w =
    record {
      steps = chased_then ds t u v s.steps w.steps;
      moved = λ e.
          elim (cases_Bool b) [
            | inl k ↦ let x = w.moved k in let y = no_higher ds Q t u a s in omega arith
            | inr k ↦
                elim (or_cases a b e) [
                  | inl j ↦ let x = s.moved j in let y : total v ≡ total u = ap total (w.still k).0 in omega arith
                  | inr j ↦ absurd (both_ways b k j)
                ]
          ];
      still = λ e.
          let p = or_parts a b e in
          let x = s.still p.0 in
          let y = w.still p.1 in
          (y.0 ∙ x.0, (x.1, subst R x.0 y.1));
    }

-- a cell that holds the higher number holds the lower one after
lowered_here : (c h l : ℕ) (r : Row) → 0 < h → get_or r c 0 ≡ h → get_or (put_low c h l r) c 0 ≡ l
lowered_here c h l [] k e = absurd (omega arith)
lowered_here zero h l (y ∷ r) k e = pick_both (eqb y h) l y (λ v. v ≡ l) (λ q. refl) (λ q. absurd (eqb-false y h q e))
lowered_here (suc c) h l (y ∷ r) k e = lowered_here c h l r k e

same_after : (c h l x : ℕ) (r s : Row) → 0 < h → get_or r x 0 ≡ get_or s x 0 → get_or (put_low c h l r) x 0 ≡ get_or (put_low c h l s) x 0
same_after c h l x r s k e =
    elim (cell_cases c h l x r) [
      | inl a ↦
          elim (cell_cases c h l x s) [
            | inl b ↦ a ∙ e ∙ sym b
            | inr b ↦
                let here : get_or (put_low c h l r) x 0 ≡ l
                = subst (λ (v : ℕ). get_or (put_low c h l r) v 0 ≡ l) b.0 (lowered_here c h l r k (subst (λ (v : ℕ). get_or r v 0 ≡ h) (sym b.0) (e ∙ b.1))) in
                here ∙ sym b.2
          ]
      | inr a ↦
          let here : get_or (put_low c h l s) x 0 ≡ l
          = subst (λ (v : ℕ). get_or (put_low c h l s) v 0 ≡ l) a.0 (lowered_here c h l s k (subst (λ (v : ℕ). get_or s v 0 ≡ h) (sym a.0) (sym e ∙ a.1))) in
          a.2 ∙ sym here
    ]

pub mend_at : (f : Fault) (t : List Row) (i : ℕ) → get_or (mend f t) i [] ≡ mended f (get_or t i [])
mend_at f [] i = refl
mend_at f (r ∷ t) zero = refl
mend_at f (r ∷ t) (suc i) = mend_at f t i

-- rows that agree still do after a mending
agree_after : (f : Fault) (cs : Cols) (r s : Row) → 0 < f.high → agree cs r s ≡ true → agree cs (mended f r) (mended f s) ≡ true
agree_after f cs r s k e =
    same_agree cs (mended f r) (mended f s) (λ c i. same_after f.column f.high f.low c r s k (agree_same cs r s e c i))

-- two rows that agree on the left side are a fault where they differ in a right column
between_fault : (d : Dep) (t : List Row) (i j : ℕ) (f : Fault) → i < length t → j < length t → agree d.left (get_or t i []) (get_or t j []) ≡ true
    → In f.column d.right → Between f (get_or t i []) (get_or t j []) → In f (faults (d ∷ []) t)
between_fault d t i j f a b e h w =
    let r = get_or t i [] in
    let s = get_or t j [] in
    elim w.1 [
      | inl q ↦ named r s (in_at t i [] a) (in_at t j [] b) e q.0 q.1
      | inr q ↦ named s r (in_at t j [] b) (in_at t i [] a) (same_agree d.left s r (λ c k. sym (agree_same d.left r s e c k))) q.0 q.1
    ]
  where
    named : (r s : Row) → In r t → In s t → agree d.left r s ≡ true → f.low ≡ get_or r f.column 0 → get_or s f.column 0 ≡ f.high → In f (faults (d ∷ []) t)
    named r s x y g l m =
        let low : get_or r f.column 0 < get_or s f.column 0 = (let z = w.0 in omega arith) in
        subst (λ (v : ℕ). In (record { column = f.column; low = v; high = f.high }) (faults (d ∷ []) t)) (sym l)
        (subst (λ (v : ℕ). In (record { column = f.column; low = get_or r f.column 0; high = v }) (faults (d ∷ []) t)) m
        (fault_there (d ∷ []) t d r s f.column (inl refl) x y g h low))

-- what the columns of a right side that were looked at leave, whatever left side the two rows agree on
pub record Equating (t u : List Row) (i j : ℕ) (right todo : Cols) (changed : Bool) : Type 0 where
  pub steps : (left : Cols) → agree left (get_or t i []) (get_or t j []) ≡ true
      → Chased (record { left = left; right = right } ∷ []) t u × (agree left (get_or u i []) (get_or u j []) ≡ true)
  pub moved : changed ≡ true → total u < total t
  pub still : changed ≡ false → (u ≡ t) × ((c : ℕ) → In c right → In c todo ⊎ (get_or (get_or t i []) c 0 ≡ get_or (get_or t j []) c 0))
  pub inside : Sub todo right

module _ (t u v : List Row) (i j : ℕ) (right before todo : Cols) (c : ℕ) where
  not_moved : (a b : Bool) → before ≡ c ∷ todo → b ≡ false → Equating t u i j right before a → Merged c i j u v b → Equating t v i j right todo (a || b)
  not_moved a b is k s m =
      let w = m.0 k in
      record {
        steps = λ left e. subst (λ x. Chased (record { left = left; right = right } ∷ []) t x × (agree left (get_or x i []) (get_or x j []) ≡ true)) (sym w.0) (s.steps left e);
        moved = λ e.
            elim (or_cases a b e) [
              | inl q ↦ let x = s.moved q in let y : total v ≡ total u = ap total w.0 in omega arith
              | inr q ↦ absurd (both_ways b k q)
            ];
        still = λ e.
            let p = s.still (or_parts a b e).0 in (
              w.0 ∙ p.0,
              λ x h.
                  elim (p.1 x h) [
                    | inl q ↦
                        elim (subst (λ ys. In x ys) is q) [
                          | inl z ↦ inr (subst (λ (y : ℕ). get_or (get_or t i []) y 0 ≡ get_or (get_or t j []) y 0) z (subst (λ ys. get_or (get_or ys i []) c 0 ≡ get_or (get_or ys j []) c 0) p.0 w.1))
                          | inr z ↦ inl z
                        ]
                    | inr q ↦ inr q
                  ],
            );
        inside = λ x h. s.inside x (subst (λ ys. In x ys) (sym is) (inr h));
      }

  one_moved : (a b : Bool) → before ≡ c ∷ todo → b ≡ true → i < length u → j < length u → Equating t u i j right before a → Merged c i j u v b → Equating t v i j right todo (a || b)
  one_moved a b is k li lj s m =
      let w = m.1 k in
      let f = w.0 in
      let there : In f.column right = s.inside f.column (subst (λ ys. In f.column ys) (sym is) (inl (sym w.1))) in
      let high : 0 < f.high = (let z = w.3.0 in omega arith) in
      let lower : total (mend f u) < total u = fall f w.3 in
      record {
        steps = λ left e.
            let d : Dep = record { left = left; right = right } in
            let z = s.steps left e in
            let is-fault = between_fault d u i j f li lj z.1 there w.3 in (
              chased_then (d ∷ []) t u v z.0 (f ∷ [], (is-fault, tt), sym w.2),
              subst (λ x. agree left (get_or x i []) (get_or x j []) ≡ true) (sym w.2)
                  (subst (λ x. agree left x (get_or (mend f u) j []) ≡ true) (sym (mend_at f u i))
                  (subst (λ x. agree left (mended f (get_or u i [])) x ≡ true) (sym (mend_at f u j)) (agree_after f left (get_or u i []) (get_or u j []) high z.1))),
            );
        moved = λ e.
            let y : total v ≡ total (mend f u) = ap total w.2 in
            elim (cases_Bool a) [ inl q ↦ (let x = s.moved q in omega arith) | inr q ↦ (let x : total u ≡ total t = ap total (s.still q).0 in omega arith) ];
        still = λ e. absurd (both_ways b (or_parts a b e).1 k);
        inside = λ x h. s.inside x (subst (λ ys. In x ys) (sym is) (inr h));
      }
    where
      fall : (f : Fault) → Between f (get_or u i []) (get_or u j []) → total (mend f u) < total u
      fall f w =
          elim w.1 [
            | inl q ↦ mend_less f u w.0 (get_or u j []) (in_at u j [] lj) q.1
            | inr q ↦ mend_less f u w.0 (get_or u i []) (in_at u i [] li) q.1
          ]

  pub equating_turn : (a b : Bool) → before ≡ c ∷ todo → i < length u → j < length u → Equating t u i j right before a → Merged c i j u v b → Equating t v i j right todo (a || b)
  equating_turn a b is li lj s m = elim (cases_Bool b) [ inl k ↦ one_moved a b is k li lj s m | inr k ↦ not_moved a b is k s m ]

pub equating_end : (d : Dep) (t u : List Row) (i j : ℕ) (todo : Cols) (b : Bool) → todo ≡ [] → agree d.left (get_or t i []) (get_or t j []) ≡ true
    → Equating t u i j d.right todo b → Sweep (d ∷ []) (PairQuiet d t i j) t u b
equating_end d t u i j todo b e h s =
    record {
      steps = (s.steps d.left h).0;
      moved = s.moved;
      still = λ q. (
        (s.still q).0,
        λ z. same_agree d.right (get_or t i []) (get_or t j []) (λ c k. elim ((s.still q).1 c k) [ inl x ↦ absurd (subst (λ ys. In c ys) e x) | inr x ↦ x ]),
      );
    }
