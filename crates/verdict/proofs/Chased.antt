-- The chase keeps what each mending keeps, and ends without a fault. Assumes nothing.
use Rattle.std.proofs.Common.{◌≡◌, ℕ, zero, suc, ◌+◌, ◌<◌, ◌≤◌, ◌⊎◌, List, [], ◌∷◌, sym, refl, subst, inl, inr, arith}
use Rattle.dependencies.specs.Tables.{Row, Dep}
use Rattle.verdict.specs.Chase.{Fault, faults, mend, mend_first, chase, total}
use Rattle.columns.specs.Members.{In}
use Rattle.verdict.proofs.Mending.{mend_less}
use Rattle.verdict.proofs.Faults.{fault_why, Faultless}

first_keeps : (P : List Row → Type 0) (fs : List Fault) (t : List Row) → ((f : Fault) → In f fs → P t → P (mend f t)) → P t → P (mend_first fs t)
first_keeps P [] t g h = h
first_keeps P (f ∷ fs) t g h = g f (inl refl) h

module _ (ds : List Dep) where
  pub chase_keeps : (P : List Row → Type 0) → ((t : List Row) (f : Fault) → In f (faults ds t) → P t → P (mend f t)) → (k : ℕ) (t : List Row) → P t → P (chase k ds t)
  chase_keeps P g zero t h = h
  chase_keeps P g (suc k) t h = chase_keeps P g k (mend_first (faults ds t) t) (first_keeps P (faults ds t) t (g t) h)

  less : (t : List Row) (f : Fault) → In f (faults ds t) → total (mend f t) < total t
  less t f h = let w = fault_why ds t f h in mend_less f t w.lower w.two w.two_there w.high_is

  abbrev First : List Fault → List Row → Type 0
  First fs t = (((f : Fault) → In f fs → ⊥) × (mend_first fs t ≡ t)) ⊎ ((f : Fault) × In f fs × (mend_first fs t ≡ mend f t))

  first_or_none : (fs : List Fault) (t : List Row) → First fs t
  first_or_none [] t = inl (λ f h. h, refl)
  first_or_none (f ∷ fs) t = inr (f, inl refl, refl)

  reached : (k : ℕ) (t : List Row) → Faultless ds (chase k ds t) ⊎ (k + total (chase k ds t) ≤ total t)
  reached zero t = inr (omega arith)
  reached (suc k) t =
      elim (first_or_none (faults ds t) t) [
        | inl n ↦
            inl (chase_keeps (Faultless ds) (λ u f i no·. absurd (no· f i)) k (mend_first (faults ds t) t) (subst (Faultless ds) (sym n.1) n.0))
        | inr m ↦
            elim (reached k (mend_first (faults ds t) t)) [
              | inl a ↦ inl a
              | inr b ↦
                  let l : total (mend_first (faults ds t) t) < total t = subst (λ v. total v < total t) (sym m.2) (less t m.0 m.1) in
                  inr (omega arith)
            ]
      ]

  pub chase_faultless : (t : List Row) → Faultless ds (chase (total t) ds t)
  chase_faultless t =
      elim (reached (total t) t) [ inl a ↦ a | inr b ↦ λ f i. absurd (let l = less (chase (total t) ds t) f i in omega arith) ]
