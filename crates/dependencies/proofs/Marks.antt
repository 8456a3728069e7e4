-- A table of two rows that are equal in a closed set of columns alone. Assumes nothing.
use Rattle.std.proofs.Common.{◌≡◌, ℕ, zero, suc, ◌+◌, ◌<◌, ◌≤◌, Bool, true, false, List, [], ◌∷◌, get_or, sym, refl, ap, subst, inl, inr, arith}
use Rattle.dependencies.specs.Tables.{Row, Dep, ObeysAll}
use Rattle.columns.specs.Cols.{Cols, has}
use Rattle.columns.specs.Members.{In}
use Rattle.columns.proofs.Columns.{in_has, not_in_has, in_or_not}
use Rattle.dependencies.proofs.Rows.{agree_same, same_agree}
use Rattle.dependencies.proofs.Tables.{PairObeys, pair_obeys, each_obeys}
use Rattle.dependencies.proofs.Closures.{Closed}

abbrev bit : Bool → ℕ
bit true = 0
bit false = 1

-- 0 in the columns of cs and 1 in the others, k columns from a on
abbrev pub mark : Cols → ℕ → ℕ → Row
mark cs a zero = []
mark cs a (suc k) = bit (has cs a) ∷ mark cs (suc a) k

mark_in_from : (cs : Cols) (a k i : ℕ) → In (a + i) cs → get_or (mark cs a k) i 0 ≡ 0
mark_in_from cs a zero i h = refl
mark_in_from cs a (suc k) zero h = ap bit (in_has cs a (subst (λ v. In v cs) (omega arith) h))
mark_in_from cs a (suc k) (suc i) h = mark_in_from cs (suc a) k i (subst (λ v. In v cs) (omega arith) h)

mark_out_from : (cs : Cols) (a k i : ℕ) → i < k → (In (a + i) cs → ⊥) → get_or (mark cs a k) i 0 ≡ 1
mark_out_from cs a zero i l h = absurd (omega arith)
mark_out_from cs a (suc k) zero l h = ap bit (not_in_has cs a (λ j. h (subst (λ v. In v cs) (omega arith) j)))
mark_out_from cs a (suc k) (suc i) l h = mark_out_from cs (suc a) k i (omega arith) (λ j. h (subst (λ v. In v cs) (omega arith) j))

pub mark_in : (cs : Cols) (k c : ℕ) → In c cs → get_or (mark cs 0 k) c 0 ≡ 0
mark_in cs k c h = mark_in_from cs 0 k c (subst (λ v. In v cs) (omega arith) h)

pub mark_out : (cs : Cols) (k c : ℕ) → c < k → (In c cs → ⊥) → get_or (mark cs 0 k) c 0 ≡ 1
mark_out cs k c l h = mark_out_from cs 0 k c l (λ j. h (subst (λ v. In v cs) (omega arith) j))

pub marked : (cs : Cols) (k c : ℕ) → c < k → get_or (mark cs 0 k) c 0 ≡ 0 → In c cs
marked cs k c l e = elim (in_or_not cs c) [ inl h ↦ h | inr h ↦ absurd (omega (arith, mark_out cs k c l h)) ]

-- more than any column that is named
abbrev top : Cols → ℕ
top [] = 0
top (c ∷ cs) = suc c + top cs

abbrev pub tops : List Dep → ℕ
tops [] = 0
tops (d ∷ ds) = top d.left + top d.right + tops ds

top_past : (cs : Cols) (c : ℕ) → In c cs → c < top cs
top_past [] c h = absurd h
top_past (x ∷ xs) c h = elim h [ inl e ↦ omega arith | inr k ↦ omega (arith, top_past xs c k) ]

pub tops_left : (ds : List Dep) (d : Dep) → In d ds → (c : ℕ) → In c d.left → c < tops ds
tops_left [] d h c k = absurd h
tops_left (e ∷ ds) d h c k =
    elim h [
      | inl q ↦ omega (arith, top_past e.left c (subst (λ v. In c v.left) (sym q) k))
      | inr j ↦ omega (arith, tops_left ds d j c k)
    ]

pub tops_right : (ds : List Dep) (d : Dep) → In d ds → (c : ℕ) → In c d.right → c < tops ds
tops_right [] d h c k = absurd h
tops_right (e ∷ ds) d h c k =
    elim h [
      | inl q ↦ omega (arith, top_past e.right c (subst (λ v. In c v.right) (sym q) k))
      | inr j ↦ omega (arith, tops_right ds d j c k)
    ]

pub self_obeys : (r : Row) (d : Dep) → PairObeys r r d
self_obeys r d h = same_agree d.right r r (λ c i. refl)

pub turn_obeys : (r s : Row) (d : Dep) → PairObeys r s d → PairObeys s r d
turn_obeys r s d f h =
    same_agree d.right s r (λ c i.
    sym (agree_same d.right r s (f (same_agree d.left r s (λ x k. sym (agree_same d.left s r h x k)))) c i))

pub two_obey : (r s : Row) (ds : List Dep) → ((d : Dep) → In d ds → PairObeys r s d) → ObeysAll (r ∷ s ∷ []) ds
two_obey r s ds f = each_obeys (r ∷ s ∷ []) ds (λ d h. pair_obeys (r ∷ s ∷ []) d (λ x y hx hy. go d (f d h) x y hx hy))
  where
    go : (d : Dep) → PairObeys r s d → (x y : Row) → In x (r ∷ s ∷ []) → In y (r ∷ s ∷ []) → PairObeys x y d
    go d p x y (inl a) (inl b) = subst (λ v. PairObeys v y d) a (subst (λ v. PairObeys r v d) b (self_obeys r d))
    go d p x y (inl a) (inr (inl b)) = subst (λ v. PairObeys v y d) a (subst (λ v. PairObeys r v d) b p)
    go d p x y (inl a) (inr (inr z)) = absurd z
    go d p x y (inr (inl a)) (inl b) = subst (λ v. PairObeys v y d) a (subst (λ v. PairObeys s v d) b (turn_obeys r s d p))
    go d p x y (inr (inl a)) (inr (inl b)) = subst (λ v. PairObeys v y d) a (subst (λ v. PairObeys s v d) b (self_obeys s d))
    go d p x y (inr (inl a)) (inr (inr z)) = absurd z
    go d p x y (inr (inr z)) q = absurd z

pub marks_obey : (ds : List Dep) (cs : Cols) (k : ℕ) → Closed ds (λ c. In c cs) → tops ds ≤ k → ObeysAll ([] ∷ mark cs 0 k ∷ []) ds
marks_obey ds cs k s l =
    two_obey [] (mark cs 0 k) ds (λ d h a.
    same_agree d.right [] (mark cs 0 k) (λ c i.
    sym (mark_in cs k c (s d h
    (λ x j. marked cs k x (omega (arith, tops_left ds d h x j)) (sym (agree_same d.left [] (mark cs 0 k) a x j)))
    c i))))
