-- Parts that keep the rules, one of which fixes all columns, lose nothing. Assumes nothing.
use Rattle.std.proofs.Common.{◌≡◌, ℕ, ◌<◌, true, List, [], ◌∷◌, length, get_or, sym, refl, ◌∙◌, subst, inl, inr}
use Rattle.dependencies.specs.Tables.{Row, Dep, no_dep, ObeysAll, Implied}
use Rattle.columns.specs.Cols.{all_in, columns}
use Rattle.schema.specs.Design.{Part, no_part, all_rules, LosesNothing, KeepsRules}
use Rattle.schema.specs.Theorems.{KeyPartEnough}
use Rattle.columns.specs.Members.{In, Sub}
use Rattle.columns.proofs.Members.{in_either, in_left, in_right, in_at, at_in}
use Rattle.dependencies.proofs.Rows.{Same}
use Rattle.columns.proofs.Columns.{all_in_sub}
use Rattle.dependencies.proofs.Tables.{obeys_each}
use Rattle.dependencies.proofs.Closures.{Closed}
use Rattle.schema.proofs.Looks.{SeenApart, seen_loses}
use Rattle.dependencies.proofs.Exact.{same_closed, implied_sound}

pub rule_of_part : (ps : List Part) (d : Dep) → In d (all_rules ps) → (p : Part) × In p ps × In d p.rules
unfolding all_rules
rule_of_part [] d h = absurd h
rule_of_part (q ∷ ps) d h =
    elim (in_either q.rules (all_rules ps) d h)
    [ inl a ↦ (q, inl refl, a) | inr b ↦ let r = rule_of_part ps d b in (r.0, inr r.1, r.2) ]

pub part_has_rule : (ps : List Part) (p : Part) (d : Dep) → In p ps → In d p.rules → In d (all_rules ps)
unfolding all_rules
part_has_rule [] p d h k = absurd h
part_has_rule (q ∷ ps) p d h k =
    elim h [
      | inl e ↦ in_left q.rules (all_rules ps) d (subst (λ v. In d v.rules) (sym e) k)
      | inr j ↦ in_right q.rules (all_rules ps) d (part_has_rule ps p d j k)
    ]

-- each rule of a part lies in its columns
abbrev pub Own : List Part → Type 0
Own ps = (p : Part) → In p ps → (d : Dep) → In d p.rules → Sub d.left p.cols × Sub d.right p.cols

abbrev Inside : Part → Dep → Type 0
Inside p d = (all_in d.left p.cols ≡ true) × (all_in d.right p.cols ≡ true)

pub own_rules_lem : (ds : List Dep) (ps : List Part) → KeepsRules ds ps → Own ps
own_rules_lem ds ps k p h d m =
    let i = at_in ps p no_part h in
    let j = at_in p.rules d no_dep m in
    let f : (b : ℕ) → b < length p.rules → Inside p (get_or p.rules b no_dep)
    = subst (λ q. (b : ℕ) → b < length q.rules → Inside q (get_or q.rules b no_dep)) i.2 (λ b l. k.own i.0 b i.1 l) in
    let e = subst (λ x. Inside p x) j.2 (f j.0 j.1) in
    (all_in_sub d.left p.cols e.0, all_in_sub d.right p.cols e.1)

-- a row that in each part looks like a row of the table is equal to s wherever the parts' rules lead
looks_closed : (t : List Row) (ps : List Part) → ObeysAll t (all_rules ps) → Own ps → (r : Row) → SeenApart t r ps → (s : Row) → In s t
    → Closed (all_rules ps) (Same r s)
looks_closed t ps o own r looks s hs d h l c i =
    let q = rule_of_part ps d h in
    let u = looks q.0 q.1 in
    let w = own q.0 q.1 d q.2 in
    u.2 c (w.1 c i) ∙ same_closed (all_rules ps) t o u.0 s u.1 hs d h (λ x k. sym (u.2 x (w.0 x k)) ∙ l x k) c i

pub lossless : (n : ℕ) (ds : List Dep) (ps : List Part) → ((d : Dep) → In d ds → Implied (all_rules ps) d)
    → ((t : List Row) → ObeysAll t ds → ObeysAll t (all_rules ps)) → Own ps → (k : Part) → In k ps
    → Implied ds (record { left = k.cols; right = columns 0 n }) → LosesNothing n ds ps
lossless n ds ps all· more own k hk fix =
    seen_loses n ds ps (λ t r o looks.
    let u = looks k hk in
    let inner = looks_closed t ps (more t o) own r looks u.0 u.1 in
    let outer : Closed ds (Same r u.0) = λ d h. implied_sound (all_rules ps) d (all· d h) (Same r u.0) inner in
    (u.0, u.1, implied_sound ds (record { left = k.cols; right = columns 0 n }) fix (Same r u.0) outer u.2))

pub key_part_enough_lem : KeyPartEnough
unfolding KeyPartEnough Implied
key_part_enough_lem n ds ps k i h fix =
    lossless n ds ps (λ d m t o. obeys_each t ds (k.enough t o) d m) k.no_more (own_rules_lem ds ps k) (get_or ps i no_part) (in_at ps i no_part h) fix
