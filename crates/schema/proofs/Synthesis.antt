-- The parts made from sets of columns: each set with the rules that lie in it. Assumes nothing.
use Rattle.std.proofs.Common.{◌≡◌, ℕ, zero, suc, ◌+◌, ◌≤◌, Bool, true, false, List, [], ◌∷◌, length, get_or, sym, refl, ap, ◌∙◌, subst, inl, inr, arith, length-append}
use Rattle.std.proofs.lemmas.Bool.{and_parts, and_from, true≢false, cases_Bool}
use Rattle.columns.specs.Cols.{Cols, all_in, pick}
use Rattle.dependencies.specs.Tables.{Dep}
use Rattle.schema.specs.Design.{Part, no_part, all_rules}
use Rattle.schema.specs.Made.{lies, lying, left_over, parts_of}
use Rattle.columns.specs.Members.{In, Sub}
use Rattle.columns.proofs.Members.{pick_both, in_left, in_right}
use Rattle.columns.proofs.Columns.{all_in_sub, sub_all_in}
use Rattle.schema.proofs.Lossless.{Own, rule_of_part}

lying_out : (ms : List Dep) (x : Cols) (d : Dep) → In d (lying ms x) → In d ms × Sub d.left x × Sub d.right x
lying_out [] x d h = absurd h
lying_out (m ∷ ms) x d h =
    let later· : In d (lying ms x) → In d (m ∷ ms) × Sub d.left x × Sub d.right x
    = λ i. let r = lying_out ms x d i in (inr r.0, r.1, r.2) in
    pick_both (lies m x) (m ∷ lying ms x) (lying ms x) (λ v. In d v → In d (m ∷ ms) × Sub d.left x × Sub d.right x)
    (λ e k.
    elim k [
      | inl q ↦
          let p = and_parts (all_in m.left x) (all_in m.right x) e in
          (inl q, subst (λ v. Sub v.left x) q (all_in_sub m.left x p.0), subst (λ v. Sub v.right x) q (all_in_sub m.right x p.1))
      | inr i ↦ later· i
    ])
    (λ e. later·) h

lying_in : (ms : List Dep) (x : Cols) (d : Dep) → In d ms → Sub d.left x → Sub d.right x → In d (lying ms x)
lying_in [] x d h l r = absurd h
lying_in (m ∷ ms) x d h l r =
    pick_both (lies m x) (m ∷ lying ms x) (lying ms x) (λ v. In d v) (λ e. elim h [ inl q ↦ inl q | inr i ↦ inr (lying_in ms x d i l r) ])
    (λ e.
    elim h [
      | inl q ↦
          absurd (true≢false
          (sym (and_from (all_in m.left x) (all_in m.right x) (sub_all_in m.left x (subst (λ v. Sub v.left x) (sym q) l))
          (sub_all_in m.right x (subst (λ v. Sub v.right x) (sym q) r)))
          ∙ e))
      | inr i ↦ lying_in ms x d i l r
    ])

left_over_sub : (ms : List Dep) (x : Cols) → Sub (left_over ms x) ms
left_over_sub [] x = λ d h. h
left_over_sub (m ∷ ms) x =
    pick_both (lies m x) (left_over ms x) (m ∷ left_over ms x) (λ v. Sub v (m ∷ ms)) (λ e d h. inr (left_over_sub ms x d h))
    (λ e d h. elim h [ inl q ↦ inl q | inr k ↦ inr (left_over_sub ms x d k) ])

left_over_in : (ms : List Dep) (x : Cols) (d : Dep) → In d ms → lies d x ≡ false → In d (left_over ms x)
left_over_in [] x d h n = absurd h
left_over_in (m ∷ ms) x d h n =
    pick_both (lies m x) (left_over ms x) (m ∷ left_over ms x) (λ v. In d v)
    (λ e. elim h [ inl q ↦ absurd (true≢false (sym e ∙ subst (λ v. lies v x ≡ false) (sym q) n)) | inr k ↦ left_over_in ms x d k n ])
    (λ e. elim h [ inl q ↦ inl q | inr k ↦ inr (left_over_in ms x d k n) ])

lying_lengths : (ms : List Dep) (x : Cols) → length (lying ms x) + length (left_over ms x) ≡ length ms
lying_lengths [] x = refl
lying_lengths (m ∷ ms) x =
    go (lies m x) (lying_lengths ms x)
  where
    go : (b : Bool) → length (lying ms x) + length (left_over ms x) ≡ length ms
        → length (pick b (m ∷ lying ms x) (lying ms x)) + length (pick b (left_over ms x) (m ∷ left_over ms x)) ≡ suc (length ms)
    go true h = omega arith
    go false h = omega arith

pub parts_length : (ms : List Dep) (xs : List Cols) → length (parts_of ms xs) ≡ length xs
parts_length ms [] = refl
parts_length ms (x ∷ xs) = ap suc (parts_length (left_over ms x) xs)

pub parts_cols : (ms : List Dep) (xs : List Cols) (i : ℕ) → (get_or (parts_of ms xs) i no_part).cols ≡ get_or xs i []
parts_cols ms [] i = refl
parts_cols ms (x ∷ xs) zero = refl
parts_cols ms (x ∷ xs) (suc i) = parts_cols (left_over ms x) xs i

abbrev RulesOf : List Dep → Part → Type 0
RulesOf ms p = (d : Dep) → In d p.rules → In d ms × Sub d.left p.cols × Sub d.right p.cols

part_made : (ms : List Dep) (xs : List Cols) (p : Part) → In p (parts_of ms xs) → RulesOf ms p
part_made ms [] p h = absurd h
part_made ms (x ∷ xs) p h =
    elim h [
      | inl e ↦ subst (λ q. RulesOf ms q) e (lying_out ms x)
      | inr k ↦ λ d i. let r = part_made (left_over ms x) xs p k d i in (left_over_sub ms x d r.0, r.1, r.2)
    ]

pub parts_own : (ms : List Dep) (xs : List Cols) → Own (parts_of ms xs)
parts_own ms xs p h d k = let s = part_made ms xs p h d k in (s.1, s.2)

pub parts_rules : (ms : List Dep) (xs : List Cols) → Sub (all_rules (parts_of ms xs)) ms
parts_rules ms xs d h = let r = rule_of_part (parts_of ms xs) d h in (part_made ms xs r.0 r.1 d r.2).0

pub rules_parts : (ms : List Dep) (xs : List Cols) (d : Dep) → In d ms → (x : Cols) → In x xs → Sub d.left x → Sub d.right x
    → In d (all_rules (parts_of ms xs))
unfolding all_rules
rules_parts ms [] d h x k l r = absurd k
rules_parts ms (y ∷ xs) d h x k l r =
    elim (cases_Bool (lies d y)) [
      | inl e ↦
          let p = and_parts (all_in d.left y) (all_in d.right y) e in
          in_left (lying ms y) (all_rules (parts_of (left_over ms y) xs)) d
          (lying_in ms y d h (all_in_sub d.left y p.0) (all_in_sub d.right y p.1))
      | inr e ↦
          in_right (lying ms y) (all_rules (parts_of (left_over ms y) xs)) d
          (rules_parts (left_over ms y) xs d (left_over_in ms y d h e) x
          (elim k [
            | inl q ↦
                absurd (true≢false
                (sym (and_from (all_in d.left y) (all_in d.right y) (sub_all_in d.left y (subst (λ v. Sub d.left v) (sym q) l))
                (sub_all_in d.right y (subst (λ v. Sub d.right v) (sym q) r)))
                ∙ e))
            | inr i ↦ i
          ])
          l r)
    ]

-- no rule is written twice
pub parts_rules_few : (ms : List Dep) (xs : List Cols) → length (all_rules (parts_of ms xs)) ≤ length ms
unfolding all_rules
parts_rules_few ms [] = omega arith
parts_rules_few ms (x ∷ xs) =
    omega (arith, length-append (lying ms x) (all_rules (parts_of (left_over ms x) xs)), lying_lengths ms x, parts_rules_few (left_over ms x) xs)
