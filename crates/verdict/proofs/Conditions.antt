-- Each condition of a design is decided by its test. Assumes nothing.
use Rattle.std.proofs.Common.{◌≡◌, ℕ, zero, suc, ◌<◌, Bool, true, false, not, ◌&&◌, ltb, List, [], ◌∷◌, length, get_or, sym, refl, ap, ◌∙◌, subst, arith}
use Rattle.std.proofs.lemmas.Bool.{true≢false, ltb-true, lt-ltb, and_parts, and_from, not-true}
use Rattle.dependencies.specs.Tables.{Dep, no_dep, Implied}
use Rattle.columns.specs.Cols.{has, all_in, columns}
use Rattle.dependencies.specs.Closure.{closure, does_fix, do_follow}
use Rattle.schema.specs.Design.{Part, no_part, all_rules, KeepsRules, IsThirdForm}
use Rattle.columns.specs.Every.{every, any}
use Rattle.verdict.specs.Judge.{are_columns, is_none_inside, is_own, does_keep_rules, is_third_form, are_third_form}
use Rattle.verdict.specs.Decided.{Condition}
use Rattle.columns.specs.Members.{In}
use Rattle.columns.proofs.Members.{in_at, at_in}
use Rattle.columns.proofs.Columns.{sub_all_in, below, below_in}
use Rattle.dependencies.proofs.Tables.{obeys_each, each_obeys}
use Rattle.dependencies.proofs.Exact.{implied_closure}
use Rattle.schema.proofs.Lossless.{own_rules_lem}
use Rattle.columns.proofs.Everyone.{every_at, every_from, any_some, any_from}
use Rattle.verdict.proofs.ThirdDecided.{third_sound, third_complete}
use Rattle.dependencies.proofs.Fixing.{follow_to}

abbrev is_within : ℕ → Part → Bool
is_within n p = all_in p.cols (columns 0 n)

abbrev is_covered : List Part → ℕ → Bool
is_covered ps c = any ps (λ p. has p.cols c)

pub columns_hold : (n : ℕ) (ds : List Dep) (ps : List Part) → are_columns n ps ≡ true → Condition n ds ps 1
unfolding Condition
columns_hold n ds ps h =
    let a = and_parts (ltb 0 (length ps)) (every ps (is_within n) && every (columns 0 n) (is_covered ps)) h in
    let b = and_parts (every ps (is_within n)) (every (columns 0 n) (is_covered ps)) a.1 in (
      ltb-true 0 (length ps) a.0,
      λ i l. every_at ps (is_within n) b.0 (get_or ps i no_part) (in_at ps i no_part l),
      λ c l.
          let s = any_some ps (λ p. has p.cols c) (every_at (columns 0 n) (is_covered ps) b.1 c (below_in n c l)) in
          let i = at_in ps s.0 no_part s.1 in
          (i.0, i.1, subst (λ p. has p.cols c ≡ true) (sym i.2) s.2),
    )

pub hold_columns : (n : ℕ) (ds : List Dep) (ps : List Part) → Condition n ds ps 1 → are_columns n ps ≡ true
unfolding Condition
hold_columns n ds ps h =
    and_from (ltb 0 (length ps)) (every ps (is_within n) && every (columns 0 n) (is_covered ps)) (lt-ltb 0 (length ps) h.0)
    (and_from (every ps (is_within n)) (every (columns 0 n) (is_covered ps))
    (every_from ps (is_within n) (λ p k. let i = at_in ps p no_part k in subst (λ q. is_within n q ≡ true) i.2 (h.1 i.0 i.1)))
    (every_from (columns 0 n) (is_covered ps) (λ c k.
    let i = h.2 c (below n c k) in
    any_from ps (λ p. has p.cols c) (get_or ps i.0 no_part) (in_at ps i.0 no_part i.1) i.2)))

abbrev is_apart : Part → Part → Bool
is_apart p q = not (all_in p.cols q.cols) && not (all_in q.cols p.cols)

abbrev IsNoneInside : List Part → Type 0
IsNoneInside ps = (i j : ℕ) → i < length ps → j < length ps → all_in (get_or ps i no_part).cols (get_or ps j no_part).cols ≡ true → i ≡ j

inside_never : (p q : Part) → is_apart p q ≡ true → (all_in p.cols q.cols ≡ true → ⊥) × (all_in q.cols p.cols ≡ true → ⊥)
inside_never p q h =
    let w = and_parts (not (all_in p.cols q.cols)) (not (all_in q.cols p.cols)) h in
    (λ e. true≢false (sym e ∙ not-true _ w.0), λ e. true≢false (sym e ∙ not-true _ w.1))

never_inside : (p q : Part) → (all_in p.cols q.cols ≡ true → ⊥) → (all_in q.cols p.cols ≡ true → ⊥) → is_apart p q ≡ true
never_inside p q f g =
    and_from (not (all_in p.cols q.cols)) (not (all_in q.cols p.cols)) (never (all_in p.cols q.cols) f) (never (all_in q.cols p.cols) g)
  where
    never : (b : Bool) → (b ≡ true → ⊥) → not b ≡ true
    never true k = absurd (k refl)
    never false k = refl

none_to : (ps : List Part) → is_none_inside ps ≡ true → IsNoneInside ps
none_to [] h i j l m e = absurd (omega arith)
none_to (p ∷ ps) h zero zero l m e = refl
none_to (p ∷ ps) h zero (suc j) l m e =
    let w = and_parts (every ps (is_apart p)) (is_none_inside ps) h in
    absurd ((inside_never p (get_or ps j no_part) (every_at ps (is_apart p) w.0 (get_or ps j no_part) (in_at ps j no_part (omega arith)))).0 e)
none_to (p ∷ ps) h (suc i) zero l m e =
    let w = and_parts (every ps (is_apart p)) (is_none_inside ps) h in
    absurd ((inside_never p (get_or ps i no_part) (every_at ps (is_apart p) w.0 (get_or ps i no_part) (in_at ps i no_part (omega arith)))).1 e)
none_to (p ∷ ps) h (suc i) (suc j) l m e =
    let w = and_parts (every ps (is_apart p)) (is_none_inside ps) h in
    ap suc (none_to ps w.1 i j (omega arith) (omega arith) e)

none_from : (ps : List Part) → IsNoneInside ps → is_none_inside ps ≡ true
none_from [] f = refl
none_from (p ∷ ps) f =
    and_from (every ps (is_apart p)) (is_none_inside ps)
    (every_from ps (is_apart p) (λ q h.
    let j = at_in ps q no_part h in
    subst (λ v. is_apart p v ≡ true) j.2
    (never_inside p (get_or ps j.0 no_part)
    (λ e. let z = f 0 (suc j.0) (omega arith) (let l = j.1 in omega arith) e in absurd (omega arith))
    (λ e. let z = f (suc j.0) 0 (let l = j.1 in omega arith) (omega arith) e in absurd (omega arith)))))
    (none_from ps (λ i j l m e. let z = f (suc i) (suc j) (omega arith) (omega arith) e in omega arith))

pub none_hold : (n : ℕ) (ds : List Dep) (ps : List Part) → is_none_inside ps ≡ true → Condition n ds ps 2
unfolding Condition
none_hold n ds ps h = none_to ps h

pub hold_none : (n : ℕ) (ds : List Dep) (ps : List Part) → Condition n ds ps 2 → is_none_inside ps ≡ true
unfolding Condition
hold_none n ds ps h = none_from ps h

follow_from : (ds ms : List Dep) → ((m : Dep) → In m ms → Implied ds m) → do_follow ds ms ≡ true
follow_from ds ms f =
    every_from ms (λ d. does_fix ds d.left d.right) (λ m i. sub_all_in m.right (closure ds m.left) (implied_closure ds m (f m i)))

abbrev is_lying_in : Part → Dep → Bool
is_lying_in p d = all_in d.left p.cols && all_in d.right p.cols

pub keeps_to : (ds : List Dep) (ps : List Part) → does_keep_rules ds ps ≡ true → KeepsRules ds ps
unfolding Implied
keeps_to ds ps h =
    let a = and_parts (do_follow (all_rules ps) ds) (do_follow ds (all_rules ps) && is_own ps) h in
    let b = and_parts (do_follow ds (all_rules ps)) (is_own ps) a.1 in
    record {
      enough = λ t o. each_obeys t ds (λ d i. follow_to (all_rules ps) ds a.0 d i t o);
      no_more = λ t o. each_obeys t (all_rules ps) (λ d i. follow_to ds (all_rules ps) b.0 d i t o);
      own = λ i j l m.
          let p = get_or ps i no_part in
          let d = get_or p.rules j no_dep in
          and_parts (all_in d.left p.cols) (all_in d.right p.cols)
          (every_at p.rules (is_lying_in p) (every_at ps (λ q. every q.rules (is_lying_in q)) b.1 p (in_at ps i no_part l)) d (in_at p.rules j no_dep m));
    }

pub keeps_from : (ds : List Dep) (ps : List Part) → KeepsRules ds ps → does_keep_rules ds ps ≡ true
unfolding Implied
keeps_from ds ps k =
    and_from (do_follow (all_rules ps) ds) (do_follow ds (all_rules ps) && is_own ps)
    (follow_from (all_rules ps) ds (λ d i t o. obeys_each t ds (k.enough t o) d i))
    (and_from (do_follow ds (all_rules ps)) (is_own ps) (follow_from ds (all_rules ps) (λ d i t o. obeys_each t (all_rules ps) (k.no_more t o) d i))
    (every_from ps (λ q. every q.rules (is_lying_in q)) (λ p i.
    every_from p.rules (is_lying_in p) (λ d j.
    let w = own_rules_lem ds ps k p i d j in
    and_from (all_in d.left p.cols) (all_in d.right p.cols) (sub_all_in d.left p.cols w.0) (sub_all_in d.right p.cols w.1)))))

pub thirds_hold : (n : ℕ) (ds : List Dep) (ps : List Part) → are_third_form ds ps ≡ true → Condition n ds ps 5
unfolding Condition
thirds_hold n ds ps h i l =
    third_sound ds (get_or ps i no_part).cols (every_at ps (λ p. is_third_form ds p.cols) h (get_or ps i no_part) (in_at ps i no_part l))

pub hold_thirds : (n : ℕ) (ds : List Dep) (ps : List Part) → Condition n ds ps 5 → are_third_form ds ps ≡ true
unfolding Condition
hold_thirds n ds ps f =
    every_from ps (λ p. is_third_form ds p.cols) (λ p h.
    let i = at_in ps p no_part h in
    third_complete ds p.cols (subst (λ q. IsThirdForm ds q.cols) i.2 (f i.0 i.1)))
