-- Sets that fit, each with the rules of a least set that lie in it and in none before it, are a design.
use Rattle.std.proofs.Common.{◌≡◌, ℕ, ◌<◌, true, List, [], ◌++◌, length, get_or, sym, ◌∙◌, subst, inl, inr, arith}
use Rattle.columns.specs.Cols.{Cols, has, all_in, columns}
use Rattle.dependencies.specs.Tables.{Dep, no_dep, ObeysAll, Implied}
use Rattle.dependencies.specs.Closure.{closure}
use Rattle.schema.specs.Design.{Part, no_part, all_rules, Design, KeepsRules, LosesNothing, IsThirdForm}
use Rattle.schema.specs.Theorems.{KeyPartEnough}
use Rattle.cover.specs.Least.{Least}
use Rattle.columns.specs.Members.{In, Sub}
use Rattle.columns.proofs.Members.{in_left, in_right, in_at, at_in}
use Rattle.columns.proofs.Columns.{in_has, all_in_sub, sub_all_in, below_in}
use Rattle.dependencies.proofs.Tables.{obeys_each, each_obeys}
use Rattle.dependencies.proofs.Exact.{closure_implied, implied_closure}
use Rattle.dependencies.proofs.Consequence.{member_follows}
use Rattle.schema.proofs.Lossless.{key_part_enough_lem}
use Rattle.schema.proofs.AlwaysOne.{closure_from}
use Rattle.schema.specs.Made.{parts_of}
use Rattle.schema.specs.Gathers.{Held}
use Rattle.schema.proofs.Synthesis.{parts_length, parts_cols, parts_own, parts_rules, rules_parts}

-- sets that hold the rules of a least set, none inside another, each in third form, one of which fixes all columns
pub record FitSets (n : ℕ) (ds ms : List Dep) (xs : List Cols) : Type 0 where
  pub within : (x : Cols) → In x xs → Sub x (columns 0 n)
  pub third : (x : Cols) → In x xs → IsThirdForm ds x
  pub apart : (i j : ℕ) → i < length xs → j < length xs → Sub (get_or xs i []) (get_or xs j []) → i ≡ j
  pub held : (m : Dep) → In m ms → Held xs (m.left ++ m.right)
  pub fixes : (x : Cols) × In x xs × (all_in (columns 0 n) (closure ds x) ≡ true)

module _ (n : ℕ) (ds ms : List Dep) (least : Least ds ms) (xs : List Cols) (fit : FitSets n ds ms xs) where
  abbrev ps : List Part
  ps = parts_of ms xs

  of_each : (P : Cols → Type 0) → ((x : Cols) → In x xs → P x) → (i : ℕ) → i < length ps → P (get_or ps i no_part).cols
  of_each P f i h =
      let j : i < length xs = rw (← parts_length ms xs) h in
      subst P (sym (parts_cols ms xs i)) (f (get_or xs i []) (in_at xs i [] j))

  place : (x : Cols) → In x xs → (i : ℕ) × (i < length ps) × ((get_or ps i no_part).cols ≡ x)
  place x h = let r = at_in xs x [] h in (r.0, rw (parts_length ms xs) r.1, parts_cols ms xs r.0 ∙ r.2)

  keeps : KeepsRules ds ps
  unfolding Implied
  keeps =
      record {
        enough = λ t o.
            let mo : ObeysAll t ms
            = each_obeys t ms (λ m h.
            let w = fit.held m h in
            obeys_each t (all_rules ps) o m
            (rules_parts ms xs m h w.0 w.1 (λ c i. w.2 c (in_left m.left m.right c i)) (λ c i. w.2 c (in_right m.left m.right c i)))) in
            each_obeys t ds (λ d h. (least.same d).0 (member_follows ds d h) t mo);
        no_more = λ t o. each_obeys t (all_rules ps) (λ d h. (least.same d).1 (member_follows ms d (parts_rules ms xs d h)) t o);
        own = λ i j h k.
            let p : Part = get_or ps i no_part in
            let d : Dep = get_or p.rules j no_dep in
            let s = parts_own ms xs p (in_at ps i no_part h) d (in_at p.rules j no_dep k) in
            (sub_all_in d.left p.cols s.0, sub_all_in d.right p.cols s.1);
      }

  abbrev key : Cols
  key = fit.fixes.0

  all_fixed : Implied ds (record { left = key; right = columns 0 n })
  all_fixed = closure_implied ds (record { left = key; right = columns 0 n }) (all_in_sub (columns 0 n) (closure ds key) fit.fixes.2)

  in_part : (x : Cols) → In x xs → (c : ℕ) → In c x → (i : ℕ) × (i < length ps) × (has (get_or ps i no_part).cols c ≡ true)
  in_part x h c k = let r = place x h in (r.0, r.1, subst (λ v. has v c ≡ true) (sym r.2) (in_has x c k))

  covered : (c : ℕ) → c < n → (i : ℕ) × (i < length ps) × (has (get_or ps i no_part).cols c ≡ true)
  covered c l =
      let d : Dep = record { left = key; right = columns 0 n } in
      elim (closure_from ms key c (implied_closure ms d ((least.same d).0 all_fixed) c (below_in n c l))) [
        | inl h ↦ in_part key fit.fixes.1 c h
        | inr q ↦ let w = fit.held q.0 q.1 in in_part w.0 w.1 c (w.2 c (in_right q.0.left q.0.right c q.2))
      ]

  loses : LosesNothing n ds ps
  unfolding KeyPartEnough
  loses =
      let r = place key fit.fixes.1 in
      key_part_enough_lem n ds ps keeps r.0 r.1 (subst (λ v. Implied ds (record { left = v; right = columns 0 n })) (sym r.2) all_fixed)

  pub made_design : Design n ds ps
  made_design =
      record {
        some = let r = place key fit.fixes.1 in omega (arith, r.1);
        within = of_each (λ x. all_in x (columns 0 n) ≡ true) (λ x i. sub_all_in x (columns 0 n) (fit.within x i));
        covers = covered;
        loses_nothing = loses;
        keeps_rules = keeps;
        third_form = of_each (IsThirdForm ds) fit.third;
        none_inside = λ i j h k f.
            fit.apart i j (rw (← parts_length ms xs) h) (rw (← parts_length ms xs) k)
            (subst (λ v. Sub (get_or xs i []) v) (parts_cols ms xs j)
            (subst (λ v. Sub v (get_or ps j no_part).cols) (parts_cols ms xs i)
            (all_in_sub (get_or ps i no_part).cols (get_or ps j no_part).cols f)));
      }
