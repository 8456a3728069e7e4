-- Columns taken out of all as parts have them: what is missing in the end is in no part. Assumes nothing.
use Rattle.std.proofs.Common.{◌≡◌, ℕ, zero, suc, ◌+◌, ◌*◌, ◌<◌, ◌≤◌, Bool, true, false, not, ◌&&◌, List, [], ◌∷◌, get_or, drop, sym, refl, ap, ◌∙◌, subst, inl, inr, arith}
use Rattle.std.proofs.lemmas.Bool.{both_ways, cases_Bool, and_parts, not-true}
use Rattle.columns.specs.Cols.{Cols, has, all_in, columns}
use Rattle.columns.specs.Members.{In, Sub}
use Rattle.columns.proofs.Columns.{has_in, in_has, not_in_has, not_all_in, all_in_sub, sub_all_in, below, below_in}
use Rattle.columns.proofs.Members.{in_at, at_in}
use Rattle.columns.proofs.Rising.{set_high}
use Rattle.dependencies.specs.Tables.{Dep}
use Rattle.verdict.specs.Decided.{Condition}
use Rattle.verdict.specs.Deciding.{Decides}
use Rattle.schema.specs.Design.{Part, no_part}
use Rattle.schema.specs.Layout.{parts_in}

abbrev pub Covered : ℕ → List Part → Type 0
Covered c ps = (p : Part) × In p ps × (has p.cols c ≡ true)

pub record CoveringSo (all : Cols) (ps : List Part) (missing : Cols) (todo : List Part) : Type 0 where
  pub left : (c : ℕ) → has missing c ≡ true → (has all c ≡ true) × (Covered c ps → Covered c todo)
  pub done : (c : ℕ) → has all c ≡ true → has missing c ≡ false → Covered c ps
  pub inside : Sub todo ps

pub covering_turn : (all : Cols) (ps : List Part) (missing next : Cols) (x : Part) (todo rest : List Part) → todo ≡ x ∷ rest
    → ((c : ℕ) → has next c ≡ (has missing c && not (has x.cols c))) → CoveringSo all ps missing todo → CoveringSo all ps next rest
covering_turn all ps missing next x todo rest e d h =
    let part = x.cols in
    record {
      left = λ c k.
          let w = and_parts (has missing c) (not (has part c)) (sym (d c) ∙ k) in
          let old = h.left c w.0 in (
            old.0,
            λ v.
                let z = old.1 v in
                elim (subst (λ ys. In z.0 ys) e z.1) [
                  | inl q ↦ absurd (both_ways (has part c) (not-true (has part c) w.1) (subst (λ (y : Part). has y.cols c ≡ true) (sym q) z.2))
                  | inr q ↦ (z.0, q, z.2)
                ],
          );
      done = λ c a k.
          elim (cases_Bool (has missing c)) [
            | inr m ↦ h.done c a m
            | inl m ↦
                elim (cases_Bool (has part c)) [
                  | inl q ↦ (x, h.inside x (subst (λ ys. In x ys) (sym e) (inl refl)), q)
                  | inr q ↦ absurd (both_ways (has next c) k (d c ∙ ap (λ (b : Bool). b && not (has part c)) m ∙ ap not q))
                ]
          ];
      inside = λ p i. h.inside p (subst (λ ys. In p ys) (sym e) (inr i));
    }

-- parts from numbers name columns of the table only
pub parts_within : (n k : ℕ) (xs : List ℕ) (p : Part) → In p (parts_in n k xs) → Sub p.cols (columns 0 n)
unfolding parts_in
parts_within n zero xs p h c i = absurd h
parts_within n (suc k) xs p h c i =
    elim h [
      | inl e ↦ below_in n c (let l = set_high 0 n (get_or xs 0 0) c (subst (λ (v : Part). In c v.cols) (sym e) i) in omega arith)
      | inr m ↦ parts_within n k (drop (2 + 2 * get_or xs 1 0) xs) p m c i
    ]

pub covering_end : (n : ℕ) (ds : List Dep) (ps : List Part) (all missing : Cols) (todo : List Part) → 1 ≤ n → ((p : Part) → In p ps → Sub p.cols (columns 0 n))
    → all ≡ columns 0 n → todo ≡ [] → CoveringSo all ps missing todo → (r : Bool) → r ≡ all_in missing [] → Decides (Condition n ds ps 1) r
unfolding Condition
covering_end n ds ps all missing todo one within a e h true q =
    let none : (c : ℕ) → has missing c ≡ false = λ c. not_in_has missing c (λ i. all_in_sub missing [] (sym q) c i) in
    let cover : (c : ℕ) → c < n → Covered c ps = λ c l. h.done c (subst (λ v. has v c ≡ true) (sym a) (in_has (columns 0 n) c (below_in n c l))) (none c) in
    let first = cover 0 (omega arith) in
    let at = at_in ps first.0 no_part first.1 in (
      (let l = at.1 in omega arith),
      λ i l. sub_all_in (get_or ps i no_part).cols (columns 0 n) (within (get_or ps i no_part) (in_at ps i no_part l)),
      λ c l. let z = cover c l in let i = at_in ps z.0 no_part z.1 in (i.0, i.1, subst (λ (p : Part). has p.cols c ≡ true) (sym i.2) z.2),
    )
covering_end n ds ps all missing todo one within a e h false q =
    λ cond.
    let w = not_all_in missing [] (sym q) in
    let c = w.0 in
    let old = h.left c (in_has missing c w.1) in
    let l = below n c (has_in (columns 0 n) c (subst (λ v. has v c ≡ true) a old.0)) in
    let i = cond.2 c l in
    let z = old.1 (get_or ps i.0 no_part, in_at ps i.0 no_part i.1, i.2) in
    absurd (subst (λ ys. In z.0 ys) e z.1)
