-- For any rules there is a design: a part for each fine rule, and one for a key. Assumes nothing.
use Rattle.std.proofs.Common.{◌≡◌, ℕ, suc, ◌+◌, ◌*◌, ◌<◌, ◌≤◌, true, ◌⊎◌, List, [], ◌∷◌, ◌++◌, length, get_or, sym, refl, ap, ◌∙◌, subst, inl, inr, mul-le-mul, arith}
use Rattle.columns.specs.Cols.{Cols, has, all_in, columns}
use Rattle.dependencies.specs.Tables.{Dep, no_dep, ObeysAll, Implied, Proper}
use Rattle.dependencies.specs.Closure.{closure}
use Rattle.keys.specs.Keys.{Key}
use Rattle.schema.specs.Design.{Part, no_part, all_rules, Design, KeepsRules, LosesNothing, IsThirdForm}
use Rattle.schema.specs.Theorems.{KeyPartEnough, AlwaysFits, AlwaysOne}
use Rattle.columns.specs.Members.{In, Sub}
use Rattle.columns.proofs.Members.{in_left, in_right, in_either, in_at, at_in}
use Rattle.columns.proofs.Columns.{in_has, all_in_sub, sub_all_in, columns_in}
use Rattle.dependencies.proofs.Tables.{obeys_each, each_obeys}
use Rattle.dependencies.proofs.Closures.{closure_sound}
use Rattle.dependencies.proofs.Exact.{closure_implied, implied_closure}
use Rattle.columns.proofs.Shrink.{keep_sub, keep_short}
use Rattle.dependencies.proofs.Fixing.{fixes_all_lem, closure_monotone}
use Rattle.dependencies.proofs.Reduced.{reduced}
use Rattle.keys.proofs.Keys.{key_of, key_of_key}
use Rattle.cover.proofs.FineRules.{fine, fines, fines_made, fines_has, fines_short, fines_follow, follow_fines, right_fixed}
use Rattle.schema.proofs.Covering.{HeldIn, widest, widest_held, widest_sub, widest_apart, holders}
use Rattle.schema.proofs.ThirdForms.{key_third, rule_third}
use Rattle.schema.proofs.Lossless.{key_part_enough_lem}
use Rattle.schema.specs.Made.{parts_of}
use Rattle.schema.proofs.Synthesis.{parts_length, parts_cols, parts_own, parts_rules, parts_rules_few, rules_parts}

abbrev sides : List Dep → List Cols
sides [] = []
sides (m ∷ ms) = (m.left ++ m.right) ∷ sides ms

sides_length : (ms : List Dep) → length (sides ms) ≡ length ms
sides_length [] = refl
sides_length (m ∷ ms) = ap suc (sides_length ms)

sides_in : (ms : List Dep) (m : Dep) → In m ms → In (m.left ++ m.right) (sides ms)
sides_in [] m h = absurd h
sides_in (e ∷ ms) m h = elim h [ inl q ↦ inl (ap (λ v. v.left ++ v.right) q) | inr k ↦ inr (sides_in ms m k) ]

in_sides : (ms : List Dep) (x : Cols) → In x (sides ms) → (m : Dep) × In m ms × (m.left ++ m.right ≡ x)
in_sides [] x h = absurd h
in_sides (e ∷ ms) x h = elim h [ inl q ↦ (e, inl refl, q) | inr k ↦ let r = in_sides ms x k in (r.0, inr r.1, r.2) ]

-- a column that is fixed is there, or on the right of a rule
pub closure_from : (ds : List Dep) (cs : Cols) (c : ℕ) → In c (closure ds cs) → In c cs ⊎ ((d : Dep) × In d ds × In c d.right)
closure_from ds cs =
    closure_sound ds (λ c. In c cs ⊎ ((d : Dep) × In d ds × In c d.right)) (λ d h l c i. inr (d, h, i)) cs (λ c i. inl i)

module _ (n : ℕ) (ds : List Dep) (proper : (d : Dep) → In d ds → Sub d.left (columns 0 n) × Sub d.right (columns 0 n)) where
  abbrev fs : List Dep
  fs = fines ds n ds

  abbrev key : Cols
  key = key_of ds (columns 0 n)

  abbrev all_sets : List Cols
  all_sets = key ∷ sides fs

  abbrev sets : List Cols
  sets = widest all_sets

  abbrev ps : List Part
  ps = parts_of fs sets

  the_key : Key ds (columns 0 n) key
  the_key = key_of_key ds (columns 0 n)

  key_held : HeldIn key sets
  key_held = widest_held all_sets key (inl refl)

  rule_held : (m : Dep) → In m fs → HeldIn (m.left ++ m.right) sets
  rule_held m h = widest_held all_sets (m.left ++ m.right) (inr (sides_in fs m h))

  -- what holds of the key and of each fine rule's columns holds of each part's
  of_each : (P : Cols → Type 0) → P key
      → ((d : Dep) → In d ds → (c : ℕ) → In c d.right → In c (columns 0 n) → P (reduced ds (c ∷ []) d.left ++ c ∷ []))
      → (i : ℕ) → i < length ps → P (get_or ps i no_part).cols
  of_each P k f i h =
      let j : i < length sets = rw (← parts_length fs sets) h in
      subst P (sym (parts_cols fs sets i))
      (elim (widest_sub all_sets (get_or sets i []) (in_at sets i [] j)) [
        | inl e ↦ subst P e k
        | inr m ↦
            let r = in_sides fs (get_or sets i []) m in
            let s = fines_made ds n ds r.0 r.1 in
            subst P (ap (λ v. v.left ++ v.right) s.is ∙ r.2) (f s.rule s.there s.column s.of_it s.below)
      ])

  place : (x : Cols) → HeldIn x sets → (i : ℕ) × (i < length ps) × Sub x (get_or ps i no_part).cols
  place x h =
      let r = at_in sets h.0 [] h.1 in (
        r.0,
        rw (parts_length fs sets) r.1,
        subst (λ v. Sub x v) (sym (parts_cols fs sets r.0 ∙ r.2)) h.2,
      )

  keeps : KeepsRules ds ps
  unfolding Implied
  keeps =
      record {
        enough = λ t o.
            let fo : ObeysAll t fs
            = each_obeys t fs (λ m h.
            let w = rule_held m h in
            obeys_each t (all_rules ps) o m
            (rules_parts fs sets m h w.0 w.1 (λ c i. w.2 c (in_left m.left m.right c i))
            (λ c i. w.2 c (in_right m.left m.right c i)))) in
            each_obeys t ds (λ d h. follow_fines ds n (λ e k. (proper e k).1) d h t fo);
        no_more = λ t o. each_obeys t (all_rules ps) (λ d h. fines_follow ds n d (parts_rules fs sets d h) t o);
        own = λ i j h k.
            let p : Part = get_or ps i no_part in
            let d : Dep = get_or p.rules j no_dep in
            let s = parts_own fs sets p (in_at ps i no_part h) d (in_at p.rules j no_dep k) in
            (sub_all_in d.left p.cols s.0, sub_all_in d.right p.cols s.1);
      }

  covered : (c : ℕ) → c < n → (i : ℕ) × (i < length ps) × (has (get_or ps i no_part).cols c ≡ true)
  covered c l =
      let fixed = implied_closure ds (record { left = key; right = columns 0 n }) the_key.fixes c (columns_in 0 n c (omega arith) (omega arith)) in
      elim (closure_from ds key c fixed) [
        | inl h ↦ let r = place key key_held in (r.0, r.1, in_has (get_or ps r.0 no_part).cols c (r.2 c h))
        | inr q ↦
            let m = fine ds q.0.left c in
            let r = place (m.left ++ m.right) (rule_held m (fines_has ds n ds q.0 q.1 c q.2 (columns_in 0 n c (omega arith) (omega arith)))) in
            (r.0, r.1, in_has (get_or ps r.0 no_part).cols c (r.2 c (in_right m.left m.right c (inl refl))))
      ]

  loses : LosesNothing n ds ps
  unfolding KeyPartEnough
  loses =
      let r = place key key_held in
      key_part_enough_lem n ds ps keeps r.0 r.1
      (closure_implied ds (record { left = (get_or ps r.0 no_part).cols; right = columns 0 n }) (λ c i.
      closure_monotone ds key (get_or ps r.0 no_part).cols r.2 c
      (implied_closure ds (record { left = key; right = columns 0 n }) the_key.fixes c i)))

  pub design : Design n ds ps
  design =
      record {
        some = let r = place key key_held in omega (arith, r.1);
        within =
            of_each (λ x. all_in x (columns 0 n) ≡ true) the_key.inside
            (λ d h c i b.
            sub_all_in (reduced ds (c ∷ []) d.left ++ c ∷ []) (columns 0 n) (λ x k.
            elim (in_either (reduced ds (c ∷ []) d.left) (c ∷ []) x k) [
              | inl m ↦ (proper d h).0 x (keep_sub (fixes_all_lem ds (c ∷ [])) [] d.left x m)
              | inr m ↦ elim m [ inl e ↦ subst (λ v. In v (columns 0 n)) e b | inr z ↦ absurd z ]
            ]));
        covers = covered;
        loses_nothing = loses;
        keeps_rules = keeps;
        third_form =
            of_each (IsThirdForm ds) (key_third ds (columns 0 n) key the_key)
            (λ d h c i b. rule_third ds d.left c (right_fixed ds d h c i));
        none_inside = λ i j h k f.
            widest_apart all_sets i j (rw (← parts_length fs sets) h) (rw (← parts_length fs sets) k)
            (subst (λ v. Sub (get_or sets i []) v) (parts_cols fs sets j)
            (subst (λ v. Sub v (get_or ps j no_part).cols) (parts_cols fs sets i)
            (all_in_sub (get_or ps i no_part).cols (get_or ps j no_part).cols f)));
      }

  pub few : length ps ≤ n * length ds + 1
  few = omega (arith, parts_length fs sets, keep_short (holders all_sets) [] all_sets, sides_length fs, fines_short ds n ds)

  pub few_rules_lem : length (all_rules ps) ≤ n * length ds
  few_rules_lem = omega (arith, parts_rules_few fs sets, fines_short ds n ds)

pub proper_in : (n : ℕ) (ds : List Dep) → Proper n ds → (d : Dep) → In d ds → Sub d.left (columns 0 n) × Sub d.right (columns 0 n)
unfolding Proper
proper_in n ds p d h =
    let i = at_in ds d no_dep h in
    let q = subst (λ v. (all_in v.left (columns 0 n) ≡ true) × (all_in v.right (columns 0 n) ≡ true)) i.2 (p i.0 i.1) in
    (all_in_sub d.left (columns 0 n) q.0, all_in_sub d.right (columns 0 n) q.1)

pub always_one : AlwaysOne
unfolding AlwaysOne
always_one n ds some· p =
    let q = proper_in n ds p in
    (ps n ds q, design n ds q, few n ds q)

pub always_fits : AlwaysFits
unfolding AlwaysFits
always_fits n ds small few· p =
    let q = proper_in n ds p in
    let m : n * length ds ≤ 512 = mul-le-mul small few· in
    (ps n ds q, design n ds q, omega (arith, few n ds q, few_rules_lem n ds q))
