-- A table obeys rules: row by row, and as a row comes or goes.
use Rattle.std.proofs.Common.{◌≡◌, Bool, true, false, List, [], ◌∷◌, ◌++◌, sym, refl, ap, ◌∙◌, subst, inl, inr}
use Rattle.std.proofs.lemmas.Bool.{and_parts, and_from}
use Rattle.dependencies.specs.Tables.{Row, Dep, agree, ObeysAll}
use Rattle.columns.specs.Cols.{Cols, all_in, pick}
use Rattle.parts.specs.Day.{present, rule_with, rules_with}
use Rattle.columns.specs.Members.{In}
use Rattle.columns.proofs.Members.{in_left, in_right, in_either}
use Rattle.dependencies.proofs.Tables.{PairObeys, obeys_pair, pair_obeys, obeys_each, each_obeys}
use Rattle.parts.proofs.Agree.{agree_refl, agree_sym, agree_trans, agree_inside}
use Rattle.register.proofs.Counts.{present_in, in_present}

-- the rule between a row and each row of a table
pub rule_with_at : (d : Dep) (r s : Row) (t : List Row) → rule_with d r t ≡ true → In s t → agree d.left r s ≡ true → agree d.right r s ≡ true
unfolding rule_with
rule_with_at d r s [] w k a = absurd k
rule_with_at d r s (u ∷ t) w k a =
    let p = and_parts (pick (agree d.left r u) (agree d.right r u) true) (rule_with d r t) w in
    elim k [
      | inl e ↦
          let P : Row → Type 0 = λ v. pick (agree d.left r v) (agree d.right r v) true ≡ true in
          sym (ap (λ (b : Bool). pick b (agree d.right r s) true) a) ∙ subst P e p.0
      | inr i ↦ rule_with_at d r s t p.1 i a
    ]

pub rule_with_from : (d : Dep) (r : Row) (t : List Row) → ((s : Row) → In s t → agree d.left r s ≡ true → agree d.right r s ≡ true) → rule_with d r t ≡ true
unfolding rule_with
rule_with_from d r [] f = refl
rule_with_from d r (s ∷ t) f = and_from _ _ (go (agree d.left r s) (f s (inl refl))) (rule_with_from d r t (λ u k. f u (inr k)))
  where
    go : (b : Bool) → (b ≡ true → agree d.right r s ≡ true) → pick b (agree d.right r s) true ≡ true
    go true g = g refl
    go false g = refl

pub rules_with_at : (d : Dep) (ds : List Dep) (r : Row) (t : List Row) → rules_with ds r t ≡ true → In d ds → rule_with d r t ≡ true
unfolding rules_with
rules_with_at d [] r t w k = absurd k
rules_with_at d (e ∷ ds) r t w k =
    let p = and_parts (rule_with e r t) (rules_with ds r t) w in
    elim k [ inl q ↦ subst (λ v. rule_with v r t ≡ true) q p.0 | inr i ↦ rules_with_at d ds r t p.1 i ]

pub rules_with_from : (ds : List Dep) (r : Row) (t : List Row) → ((d : Dep) → In d ds → rule_with d r t ≡ true) → rules_with ds r t ≡ true
unfolding rules_with
rules_with_from [] r t f = refl
rules_with_from (d ∷ ds) r t f = and_from _ _ (f d (inl refl)) (rules_with_from ds r t (λ e k. f e (inr k)))

pub obeys_at : (t : List Row) (ds : List Dep) → ObeysAll t ds → (d : Dep) (r s : Row) → In d ds → In r t → In s t → PairObeys r s d
obeys_at t ds o d r s id ir is = obeys_pair t d (obeys_each t ds o d id) r s ir is

obeys_from : (t : List Row) (ds : List Dep) → ((d : Dep) (r s : Row) → In d ds → In r t → In s t → PairObeys r s d) → ObeysAll t ds
obeys_from t ds f = each_obeys t ds (λ d id. pair_obeys t d (λ r s ir is. f d r s id ir is))

pub obeys_none : (ds : List Dep) → ObeysAll [] ds
obeys_none ds = obeys_from [] ds (λ d r s id ir is a. absurd ir)

-- a table that obeys the rules, and a row: they obey them together exactly if no rule is broken between the row and the table
pub obeys_come : (t : List Row) (r : Row) (ds : List Dep) → ObeysAll t ds → rules_with ds r t ≡ true → ObeysAll (t ++ r ∷ []) ds
obeys_come t r ds o w = obeys_from (t ++ r ∷ []) ds λ d u v id iu iv a.
    elim (in_either t (r ∷ []) u iu) [
      | inl ku ↦ elim (in_either t (r ∷ []) v iv) [ inl kv ↦ obeys_at t ds o d u v id ku kv a | inr kv ↦ lastly u v d id kv ku a ]
      | inr ku ↦ elim (in_either t (r ∷ []) v iv) [ inl kv ↦ firstly u v d id ku kv a | inr kv ↦ both u v d ku kv ]
    ]
  where
    is_new : (u : Row) → In u (r ∷ []) → r ≡ u
    is_new u k = elim k [ inl e ↦ e | inr z ↦ absurd z ]

    firstly : (u v : Row) (d : Dep) → In d ds → In u (r ∷ []) → In v t → agree d.left u v ≡ true → agree d.right u v ≡ true
    firstly u v d id ku kv a = subst (λ x. PairObeys x v d) (is_new u ku) (λ b. rule_with_at d r v t (rules_with_at d ds r t w id) kv b) a

    lastly : (u v : Row) (d : Dep) → In d ds → In v (r ∷ []) → In u t → agree d.left u v ≡ true → agree d.right u v ≡ true
    lastly u v d id kv ku a = agree_sym d.right v u (firstly v u d id kv ku (agree_sym d.left u v a))

    both : (u v : Row) (d : Dep) → In u (r ∷ []) → In v (r ∷ []) → agree d.right u v ≡ true
    both u v d ku kv = subst (λ x. agree d.right u x ≡ true) (sym (is_new u ku) ∙ is_new v kv) (agree_refl d.right u)

pub obeys_rules_with : (t : List Row) (r : Row) (ds : List Dep) → ObeysAll (t ++ r ∷ []) ds → rules_with ds r t ≡ true
obeys_rules_with t r ds o =
    rules_with_from ds r t λ d id.
    rule_with_from d r t λ s k a. obeys_at (t ++ r ∷ []) ds o d r s id (in_right t (r ∷ []) r (inl refl)) (in_left t (r ∷ []) s k) a

-- a rule inside some columns asks the same of two tables that look the same there
pub rule_with_like : (d : Dep) (p : Cols) (r : Row) (t u : List Row) → all_in d.left p ≡ true → all_in d.right p ≡ true
    → ((q : Row) → present p q u ≡ true → present p q t ≡ true) → rule_with d r t ≡ true → rule_with d r u ≡ true
rule_with_like d p r t u il ir f w = rule_with_from d r u λ s k a.
    let x = present_in p s t (f s (in_present p s s u k (agree_refl p s))) in
    let b = agree_trans d.left r s x.0 a (agree_inside d.left p s x.0 il x.2) in
    agree_trans d.right r x.0 s (rule_with_at d r x.0 t w x.1 b)
    (agree_sym d.right s x.0 (agree_inside d.right p s x.0 ir x.2))
