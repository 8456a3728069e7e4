-- Rounds over the rules of parts, rule by rule and part by part. Assumes nothing.
use Rattle.std.proofs.Common.{◌≡◌, List, [], ◌∷◌, ◌++◌, refl, ap, ◌∙◌, subst}
use Rattle.columns.specs.Cols.{Cols, Same}
use Rattle.dependencies.specs.Closure.{round}
use Rattle.dependencies.specs.Tables.{Dep}
use Rattle.dependencies.proofs.Rounds.{same_trans, round_same, step}
use Rattle.schema.specs.Design.{Part, all_rules}

pub rule_turn : (todo rest : List Dep) (d : Dep) (s t goal : Cols) → todo ≡ d ∷ rest → Same t (step d s) → Same (round todo s) goal → Same (round rest t) goal
unfolding round
rule_turn todo rest d s t goal e p q =
    same_trans (round rest t) (round rest (step d s)) goal (round_same rest t (step d s) p) (subst (λ (v : List Dep). Same (round v s) goal) e q)

pub rules_end : (todo : List Dep) (s goal : Cols) → todo ≡ [] → Same (round todo s) goal → Same s goal
unfolding round
rules_end todo s goal e q = subst (λ (v : List Dep). Same (round v s) goal) e q

round_append : (xs ys : List Dep) (s : Cols) → round (xs ++ ys) s ≡ round ys (round xs s)
unfolding round
round_append [] ys s = refl
round_append (x ∷ xs) ys s = round_append xs ys (step x s)

one_part : (p : Part) (ps : List Part) → all_rules (p ∷ ps) ≡ p.rules ++ all_rules ps
unfolding all_rules
one_part p ps = refl

pub part_turn : (todo rest : List Part) (part : Part) (s t goal : Cols) → todo ≡ part ∷ rest → Same t (round part.rules s)
    → Same (round (all_rules todo) s) goal → Same (round (all_rules rest) t) goal
part_turn todo rest part s t goal e p q =
    same_trans (round (all_rules rest) t) (round (all_rules rest) (round part.rules s)) goal (round_same (all_rules rest) t (round part.rules s) p)
    (subst (λ (v : Cols). Same v goal) (round_append part.rules (all_rules rest) s)
    (subst (λ (v : List Dep). Same (round v s) goal) (ap all_rules e ∙ one_part part rest) q))

pub parts_end : (todo : List Part) (s goal : Cols) → todo ≡ [] → Same (round (all_rules todo) s) goal → Same s goal
unfolding all_rules round
parts_end todo s goal e q = subst (λ (v : List Part). Same (round (all_rules v) s) goal) e q
