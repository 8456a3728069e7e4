-- A rule follows exactly if its right columns are in the closure of its left ones. Assumes nothing.
use Rattle.std.proofs.Common.{ℕ, suc, ◌+◌, List, [], ◌∷◌, sym, refl, inl, inr, arith}
use Rattle.std.proofs.lemmas.Bool.{cases_Bool}
use Rattle.dependencies.specs.Tables.{Row, Dep, ObeysAll, Implied}
use Rattle.columns.specs.Cols.{all_in}
use Rattle.dependencies.specs.Closure.{closure}
use Rattle.dependencies.specs.Theorems.{ClosureExact}
use Rattle.columns.specs.Members.{In, Sub}
use Rattle.dependencies.proofs.Rows.{Same, agree_same, same_agree}
use Rattle.columns.proofs.Columns.{all_in_sub, not_all_in}
use Rattle.dependencies.proofs.Tables.{obeys_pair, pair_obeys, obeys_each}
use Rattle.dependencies.proofs.Closures.{Closed, Within, closure_sound, closure_grows}
use Rattle.dependencies.proofs.Fired.{closure_closed}
use Rattle.dependencies.proofs.Marks.{mark, mark_in, mark_out, tops, marks_obey}

-- where two rows of a table that obeys the rules are equal, the rules do not lead out of
pub same_closed : (ds : List Dep) (t : List Row) → ObeysAll t ds → (r s : Row) → In r t → In s t → Closed ds (Same r s)
same_closed ds t o r s hr hs d h l =
    agree_same d.right r s (obeys_pair t d (obeys_each t ds o d h) r s hr hs (same_agree d.left r s l))

pub closure_implied : (ds : List Dep) (d : Dep) → Sub d.right (closure ds d.left) → Implied ds d
unfolding Implied
closure_implied ds d f t o =
    pair_obeys t d (λ r s hr hs a.
    same_agree d.right r s (λ c i.
    closure_sound ds (Same r s) (same_closed ds t o r s hr hs) d.left (agree_same d.left r s a) c (f c i)))

pub closure_exact : ClosureExact
unfolding ClosureExact
closure_exact ds d = (
  λ h. closure_implied ds d (all_in_sub d.right (closure ds d.left) h),
  λ h.
      let w = not_all_in d.right (closure ds d.left) h in
      let k : ℕ = suc w.0 + tops ds in
      let s : Row = mark (closure ds d.left) 0 k in (
        [],
        s,
        marks_obey ds (closure ds d.left) k (closure_closed ds d.left) (omega arith),
        λ o.
            let a =
            agree_same d.right [] s
            (obeys_pair ([] ∷ s ∷ []) d o [] s (inl refl) (inr (inl refl))
            (same_agree d.left [] s (λ c i. sym (mark_in (closure ds d.left) k c (closure_grows ds d.left c i)))))
            w.0 w.1
            in
            omega (arith, a, mark_out (closure ds d.left) k w.0 (omega arith) w.2),
      ),
)

pub implied_closure : (ds : List Dep) (d : Dep) → Implied ds d → Sub d.right (closure ds d.left)
unfolding Implied ClosureExact
implied_closure ds d f =
    elim (cases_Bool (all_in d.right (closure ds d.left))) [
      | inl e ↦ all_in_sub d.right (closure ds d.left) e
      | inr e ↦ let w = (closure_exact ds d).1 e in absurd (w.3 (f (w.0 ∷ w.1 ∷ []) w.2))
    ]

-- what follows leads out of nothing that the rules do not lead out of
pub implied_sound : (ds : List Dep) (d : Dep) → Implied ds d → (E : ℕ → Type 0) → Closed ds E → Within d.left E → Within d.right E
implied_sound ds d f E k l c i = closure_sound ds E k d.left l c (implied_closure ds d f c i)
