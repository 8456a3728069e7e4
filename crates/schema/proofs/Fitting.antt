-- The sets of a plan are those of a design.
use Rattle.std.proofs.Common.{◌≡◌, ℕ, ◌^◌, ◌<◌, true, List, [], ◌∷◌, ◌++◌, sym, refl, subst, inl, inr}
use Rattle.columns.specs.Cols.{Cols, columns}
use Rattle.columns.specs.Members.{In, Sub}
use Rattle.columns.specs.Sets.{cols}
use Rattle.columns.specs.declared.set.ColumnSet.{ColumnSet}
use Rattle.columns.proofs.Members.{in_either}
use Rattle.columns.proofs.Columns.{all_in_sub, below, has_in}
use Rattle.columns.proofs.Everyone.{any_some}
use Rattle.columns.proofs.SetNumbers.{bits_below}
use Rattle.dependencies.specs.Tables.{Dep, is_proper}
use Rattle.dependencies.specs.Closure.{does_fix}
use Rattle.dependencies.specs.Rules.{dep, deps}
use Rattle.dependencies.specs.declared.rules.Rule.{Rule}
use Rattle.dependencies.proofs.Fixing.{fixes_monotone, implied_fixes}
use Rattle.cover.specs.Least.{Least}
use Rattle.cover.proofs.ProperRules.{proper_at}
use Rattle.keys.specs.Keys.{Key}
use Rattle.schema.specs.Design.{Design, IsThirdForm}
use Rattle.schema.specs.Made.{parts_of}
use Rattle.schema.specs.Gathers.{Gathered, OfLeftSide, Holding, Keyed}
use Rattle.schema.specs.Plans.{SmallRules, SmallSets}
use Rattle.schema.specs.Sets.{sets_of, with_set}
use Rattle.schema.proofs.ThirdForms.{key_third}
use Rattle.schema.proofs.Merged.{gathered_third}
use Rattle.schema.proofs.Making.{FitSets, made_design}
use Rattle.schema.proofs.Wide.{in_sets, one_more, other_kind, apart_places}

-- the columns of the rules with one more left side
pub holding_start : (K : Cols → Type 0) → Holding K [] []
holding_start K = record { each = λ x i. absurd i; held = λ m i. absurd i; apart = tt }

pub holding_turn : (ms es : List Dep) (ss : List ColumnSet) (m : Dep) (x : ColumnSet) → Holding (OfLeftSide ms) es (sets_of ss) → In m ms
    → Gathered ms m.left (cols x) → Holding (OfLeftSide ms) (es ++ m ∷ []) (sets_of (with_set ss x))
holding_turn ms es ss m x h i g =
    let r = one_more (OfLeftSide ms) es ss x h (m, i, g) in
    record {
      each = r.0.each;
      held = λ d j.
          elim (in_either es (m ∷ []) d j) [
            | inl a ↦ r.0.held d a
            | inr a ↦
                elim a [
                  | inl e ↦ (
                    r.1.0,
                    r.1.1,
                    λ c k.
                        r.1.2 c
                        (elim (in_either d.left d.right c k) [
                          | inl y ↦ g.left_in c (subst (λ v. In c v.left) (sym e) y)
                          | inr y ↦ g.right_in m i refl c (subst (λ v. In c v.right) (sym e) y)
                        ]),
                  )
                  | inr z ↦ absurd z
                ]
          ];
      apart = r.0.apart;
    }

module _ (n : ℕ) (ds ms : List Dep) (proper : is_proper n ms ≡ true) (least : Least ds ms) where
  abbrev Kind : Cols → Type 0
  Kind x = IsThirdForm ds x × Sub x (columns 0 n)

  of_left : (x : Cols) → OfLeftSide ms x → Kind x
  of_left x g = (
    gathered_third ds ms g.0 x least g.1 g.2,
    λ c i.
        elim (g.2.no_more c i) [
          | inl y ↦ (proper_at n ms proper g.0 g.1).0 c y
          | inr v ↦ (proper_at n ms proper v.0 v.1).1 c v.3
        ],
  )

  of_key : (x : Cols) → Key ds (columns 0 n) x → Kind x
  of_key x key = (key_third ds (columns 0 n) x key, all_in_sub x (columns 0 n) key.inside)

  fit_from : (xs : List Cols) → Holding Kind ms xs → (x : Cols) × In x xs × (does_fix ds x (columns 0 n) ≡ true) → FitSets n ds ms xs
  fit_from xs h f =
      record {
        within = λ x i. (h.each x i).1;
        third = λ x i. (h.each x i).0;
        apart = apart_places xs h.apart;
        held = h.held;
        fixes = f;
      }

  pub fit_sets : (ss ss₁ : List ColumnSet) → Holding (OfLeftSide ms) ms (sets_of ss) → Keyed n ds ss ss₁ → FitSets n ds ms (sets_of ss₁)
  fit_sets ss ss₁ h keyed =
      let h' : Holding Kind ms (sets_of ss) = other_kind (OfLeftSide ms) Kind ms (sets_of ss) of_left h in
      elim keyed [
        | inl a ↦
            let r = any_some ss (λ s. does_fix ds (cols s) (columns 0 n)) a.0 in
            subst (λ (v : List ColumnSet). FitSets n ds ms (sets_of v)) (sym a.1)
            (fit_from (sets_of ss) h' (cols r.0, in_sets ss r.0 r.1, r.2))
        | inr a ↦
            let k : ColumnSet = a.1.0 in
            let more = one_more Kind ms ss k h' (of_key (cols k) a.1.1) in
            let held = more.1 in
            subst (λ (v : List ColumnSet). FitSets n ds ms (sets_of v)) (sym a.1.2)
            (fit_from (sets_of (with_set ss k)) more.0
            (held.0, held.1, fixes_monotone ds (columns 0 n) (cols k) held.0 held.2 (implied_fixes ds (columns 0 n) (cols k) a.1.1.fixes)))
      ]

rules_small : (n : ℕ) (rs : List Rule) → ((m : Dep) → In m (deps rs) → Sub m.left (columns 0 n) × Sub m.right (columns 0 n)) → SmallRules n rs
unfolding deps
rules_small n [] f r i = absurd i
rules_small n (x ∷ rs) f r i =
    elim i [
      | inl e ↦
          let p = f (dep x) (inl refl) in
          subst (λ v. (v.left.bits < 2 ^ n) × (v.right.bits < 2 ^ n)) e (
            bits_below x.left n (λ c h. below n c (p.0 c (has_in (cols x.left) c h))),
            bits_below x.right n (λ c h. below n c (p.1 c (has_in (cols x.right) c h))),
          )
      | inr k ↦ rules_small n rs (λ m j. f m (inr j)) r k
    ]

sets_small : (n : ℕ) (ss : List ColumnSet) → ((x : Cols) → In x (sets_of ss) → Sub x (columns 0 n)) → SmallSets n ss
sets_small n ss f s i = bits_below s n (λ c h. below n c (f (cols s) (in_sets ss s i) c (has_in (cols s) c h)))

-- the parts are a design, and name columns of the table only
pub all_planned : (n : ℕ) (ds : List Dep) (rs : List Rule) (ss ss₁ : List ColumnSet) → is_proper n (deps rs) ≡ true → Least ds (deps rs)
    → Holding (OfLeftSide (deps rs)) (deps rs) (sets_of ss) → Keyed n ds ss ss₁
    → Design n ds (parts_of (deps rs) (sets_of ss₁)) × SmallRules n rs × SmallSets n ss₁
all_planned n ds rs ss ss₁ proper least h keyed =
    let fit = fit_sets n ds (deps rs) proper least ss ss₁ h keyed in
    (made_design n ds (deps rs) least (sets_of ss₁) fit, rules_small n rs (proper_at n (deps rs) proper), sets_small n ss₁ fit.within)
