-- Rules that name only columns of a table of n: what the test says, fine rules made of them, and how many columns a side can have.
use Rattle.std.proofs.Common.{◌≡◌, ℕ, zero, suc, ◌+◌, ◌<◌, ◌≤◌, true, ◌&&◌, List, [], ◌∷◌, length, refl, subst, inl, inr, arith}
use Rattle.std.proofs.lemmas.Bool.{and_parts, and_from}
use Rattle.columns.specs.Cols.{Cols, all_in, columns, Rising}
use Rattle.columns.specs.Members.{In, Sub}
use Rattle.columns.specs.Sets.{cols}
use Rattle.columns.specs.declared.set.ColumnSet.{ColumnSet}
use Rattle.columns.proofs.Columns.{in_has, all_in_sub, sub_all_in, below}
use Rattle.columns.proofs.Rising.{rising_low, rising_rest}
use Rattle.columns.proofs.SetNumbers.{cols_rising, cols_below}
use Rattle.dependencies.specs.Tables.{Dep, is_proper}
use Rattle.cover.specs.Fine.{Fines}

pub proper_at : (n : ℕ) (ds : List Dep) → is_proper n ds ≡ true → (d : Dep) → In d ds → Sub d.left (columns 0 n) × Sub d.right (columns 0 n)
proper_at n [] h d i = absurd i
proper_at n (x ∷ ds) h d i =
    let both = and_parts (all_in x.left (columns 0 n) && all_in x.right (columns 0 n)) (is_proper n ds) h in
    let sides = and_parts (all_in x.left (columns 0 n)) (all_in x.right (columns 0 n)) both.0 in
    elim i [
      | inl e ↦
          subst (λ v. Sub v.left (columns 0 n) × Sub v.right (columns 0 n)) e
          (all_in_sub x.left (columns 0 n) sides.0, all_in_sub x.right (columns 0 n) sides.1)
      | inr j ↦ proper_at n ds both.1 d j
    ]

pub fines_proper : (n : ℕ) (ds ms : List Dep) → is_proper n ds ≡ true → Fines ds ms → is_proper n ms ≡ true
fines_proper n ds [] p f = refl
fines_proper n ds (m ∷ ms) p f =
    let g = f m (inl refl) in
    let o = proper_at n ds p g.origin g.given in
    and_from (all_in m.left (columns 0 n) && all_in m.right (columns 0 n)) (is_proper n ms)
    (and_from (all_in m.left (columns 0 n)) (all_in m.right (columns 0 n))
    (sub_all_in m.left (columns 0 n) (λ c i. o.0 c (all_in_sub m.left g.origin.left g.reduced.inside c i)))
    (sub_all_in m.right (columns 0 n) (λ c i. elim (subst (λ v. In c v) g.right_is i) [ inl e ↦ subst (λ v. In v (columns 0 n)) e (o.1 g.column g.of_right) | inr z ↦ absurd z ])))
    (fines_proper n ds ms p (λ d i. f d (inr i)))

-- a rising list between a and a + k has at most k columns
rising_short : (cs : Cols) (a k : ℕ) → Rising cs → ((c : ℕ) → In c cs → (a ≤ c) × (c < a + k)) → length cs ≤ k
rising_short [] a k r f = omega arith
rising_short (c ∷ cs) a zero r f = let h = f c (inl refl) in absurd (omega (arith, h.0, h.1))
rising_short (c ∷ cs) a (suc k) r f =
    let here = f c (inl refl) in
    let rest : length cs ≤ k
    = rising_short cs (suc a) k (rising_rest r) (λ d i. let low : c < d = rising_low r d i in let h = f d (inr i) in (omega (arith, here.0), omega (arith, h.1))) in
    omega arith

pub set_short : (s : ColumnSet) → length (cols s) ≤ 16
set_short s = rising_short (cols s) 0 16 (cols_rising s) (λ c i. let l : c < 16 = cols_below s c (in_has (cols s) c i) in (omega arith, omega arith))

pub set_short_in : (s : ColumnSet) (n : ℕ) → Sub (cols s) (columns 0 n) → length (cols s) ≤ n
set_short_in s n f = rising_short (cols s) 0 n (cols_rising s) (λ c i. let l : c < n = below n c (f c i) in (omega arith, omega arith))
