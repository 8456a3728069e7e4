use Rattle.std.proofs.Common.{◌≡◌, ℕ, zero, suc, ◌+◌, ◌/◌, ◌%◌, ◌^◌, ◌<◌, ◌≤◌, Bool, not, ◌&&◌, ◌||◌, eqb, List, ◌∷◌, length, sym, ap, ◌∙◌, subst, ap₂, inl, inr, arith, pow_mono, rules, eq-eqb}
use Rattle.std.proofs.lemmas.Bool.{or_cases, or_left, or_right, eqb-true}
use Rattle.columns.specs.Cols.{Cols, has, set_in}
use Rattle.columns.specs.Members.{Sub}
use Rattle.columns.specs.Sets.{cols}
use Rattle.columns.specs.declared.set.ColumnSet.{ColumnSet}
use Rattle.columns.proofs.Columns.{has_in, in_has}
use Rattle.columns.proofs.Members.{pick_both}
use Rattle.columns.proofs.SetNumbers.{cols_bits}
use Rattle.dependencies.specs.Rules.{deps}
use Rattle.dependencies.specs.Tables.{Dep}
use Rattle.verdict.specs.Superkeys.{superkeys, is_in_keys, is_loose, Finds, Joins}
use Rattle.verdict.specs.declared.third.Found.{Found}
use Rattle.verdict.proofs.SuperkeyCounts.{superkeys_few, counts_even}
use Rattle.verdict.proofs.third.+walk.Goals as goal

set_short : (b k m : ℕ) → length (set_in b k m) ≤ k
unfolding set_in
set_short b zero m = omega arith
set_short b (suc k) m =
    let a = set_short (suc b) k (m / 2) in
    pick_both (eqb (m % 2) 1) (b ∷ set_in (suc b) k (m / 2)) (set_in (suc b) k (m / 2)) (λ v. length v ≤ suc k) (λ e. omega arith) (λ e. omega arith)

cols_short : (s : ColumnSet) → length (cols s) ≤ 16
cols_short s = subst (λ v. length v ≤ 16) (sym (cols_bits s)) (set_short 0 16 s.bits)

-- of the sets on both sides of a column there are few enough to count
few : (ds : List Dep) (p x rest left : Cols) (c : ℕ) → left ≡ c ∷ rest → length left ≤ 16 → superkeys ds p x rest + superkeys ds p (c ∷ x) rest < 2 ^ 32
unfolding superkeys
few ds p x rest left c e l =
    let long = ap length e in
    let a = superkeys_few ds p (c ∷ rest) x in
    let b = pow_mono {i = suc (length rest)} {j = 16} (omega arith) in
    omega arith

added : (s t : ColumnSet) (c : ℕ) → ((d : ℕ) → has (cols t) d ≡ (has (cols s) d || eqb c d)) → Sub (cols t) (c ∷ cols s) × Sub (c ∷ cols s) (cols t)
added s t c f = (
  λ d i. elim (or_cases (has (cols s) d) (eqb c d) (sym (f d) ∙ in_has (cols t) d i)) [ inl h ↦ inr (has_in (cols s) d h) | inr h ↦ inl (eqb-true c d h) ],
  λ d i.
      has_in (cols t) d
      (f d ∙ elim i [ inl e ↦ or_right (has (cols s) d) (eqb c d) (eq-eqb c d e) | inr k ↦ or_left (has (cols s) d) (eqb c d) (in_has (cols s) d k) ]),
)

finds_even : (ds : List Dep) (p x y cs : Cols) (f : Found) → Sub x y × Sub y x → Finds ds p x cs f → Finds ds p y cs f
finds_even ds p x y cs f s h =
    let e = counts_even ds p cs x y s in
    record { count = h.count ∙ e.0; primes = λ a. h.primes a ∙ e.1 a; loosed = λ a. h.loosed a ∙ e.2 a }

finds_both : (ds : List Dep) (p x rest : Cols) (c : ℕ) (f g r : Found) → Finds ds p x rest f → Finds ds p (c ∷ x) rest g → Joins c f g r → Finds ds p x (c ∷ rest) r
unfolding superkeys is_in_keys is_loose
finds_both ds p x rest c f g r a b j =
    record {
      count = j.count ∙ ap₂ (λ (m n : ℕ). m + n) a.count b.count;
      primes = λ d.
          j.primes d
          ∙ ap₂ (λ (m n : Bool). (m || n) || (not (eqb f.superkeys g.superkeys) && eqb c d)) (a.primes d) (b.primes d)
          ∙ ap₂ (λ (m n : ℕ). (is_in_keys ds p x rest d || is_in_keys ds p (c ∷ x) rest d) || (not (eqb m n) && eqb c d)) a.count b.count;
      loosed = λ d. j.loosed d ∙ ap₂ (λ (m n : Bool). m || n) (a.loosed d) (b.loosed d);
    }

pub returns-in_default : goal.returns-in_default
returns-in_default t c =
    subst (λ (v : Cols). Finds (deps c.args.rules.now) (cols c.args.branch.part) (cols c.args.branch.set) v c.visit.result)
    (sym c.in_default.ensures.0) c.visit.ensures

pub walk-without-requires : goal.walk-without-requires
walk-without-requires t c =
    let e : length (cols c.args.branch.left) ≡ length (c.in-Some.c.index ∷ cols c.take_first.new.self) = ap length c.in-Some.ensures in
    search rules

pub walk-with-requires : goal.walk-with-requires
walk-with-requires t c =
    let e : length (cols c.args.branch.left) ≡ length (c.in-Some.c.index ∷ cols c.take_first.new.self) = ap length c.in-Some.ensures in
    search rules

pub joined-requires : goal.joined-requires
joined-requires t c =
    let ds = deps c.args.rules.now in
    let p = cols c.args.branch.part in
    let x = cols c.args.branch.set in
    let rest = cols c.take_first.new.self in
    let i = c.in-Some.c.index in
    let y = cols c.with-set.result in
    let a = c.walk-without.ensures.count in
    let b = c.walk-with.ensures.count ∙ (counts_even ds p rest y (i ∷ x) (added c.args.branch.set c.with-set.result i c.with-set.ensures)).0 in
    let f = few ds p x rest (cols c.args.branch.left) i c.in-Some.ensures (cols_short c.args.branch.left) in
    omega arith

pub returns : goal.returns
returns t c =
    let ds = deps c.args.rules.now in
    let p = cols c.args.branch.part in
    let x = cols c.args.branch.set in
    let rest = cols c.take_first.new.self in
    let i = c.in-Some.c.index in
    let y = cols c.with-set.result in
    subst (λ (v : Cols). Finds ds p x v c.joined.result) (sym c.in-Some.ensures)
    (finds_both ds p x rest i c.walk-without.result c.walk-with.result c.joined.result c.walk-without.ensures
    (finds_even ds p y (i ∷ x) rest c.walk-with.result (added c.args.branch.set c.with-set.result i c.with-set.ensures) c.walk-with.ensures)
    c.joined.ensures)
