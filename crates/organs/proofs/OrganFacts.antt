-- What stands about the organs, computed by tests that decide the definitions.
use Rattle.std.proofs.Common.{◌≡◌, ℕ, zero, suc, true, List, [], ◌∷◌, refl, subst, inl, inr, arith}
use Rattle.std.proofs.lemmas.Bool.{false≢true}
use Rattle.columns.specs.Cols.{Cols, has, all_in, columns}
use Rattle.dependencies.specs.Tables.{Dep, agree, Implied, Obeys, Proper}
use Rattle.columns.specs.Order.{before}
use Rattle.dependencies.specs.Closure.{round, rounds, closure}
use Rattle.schema.specs.Design.{all_rules}
use Rattle.verdict.specs.Chase.{faults}
use Rattle.verdict.specs.Judge.{verdict}
use Rattle.keys.specs.Keys.{are_all_keys}
use Rattle.cover.specs.Least.{is_least}
use Rattle.verdict.specs.Decided.{VerdictPinned}
use Rattle.organs.specs.Organs.{to, organs, organ_least, organ_parts, too_wide, too_loose, two_visits, FixesJust, OrganClosures, TunerIsFree, OrganCover, OrganKeys, OrganDesign, OrganMisses}
use Rattle.columns.specs.Members.{In}
use Rattle.columns.proofs.Columns.{has_in, in_has, all_in_sub}
use Rattle.dependencies.proofs.Exact.{closure_implied, implied_closure}
use Rattle.verdict.proofs.Faults.{faultless_obeys}
use Rattle.keys.proofs.KeysListed.{all_keys_told}
use Rattle.cover.proofs.LeastTold.{least_told}
use Rattle.verdict.proofs.Verdicts.{verdict_pinned_lem}

fixes_just : (ds : List Dep) (x y : Cols) → all_in (closure ds x) y ≡ true → all_in y (closure ds x) ≡ true → FixesJust ds x y
fixes_just ds x y a b c = (
  λ f. in_has y c (all_in_sub (closure ds x) y a c (implied_closure ds (to x (c ∷ [])) f c (inl refl))),
  λ h.
      closure_implied ds (to x (c ∷ [])) (λ d i.
      elim i [ inl e ↦ subst (λ v. In v (closure ds x)) e (all_in_sub y (closure ds x) b c (has_in y c h)) | inr z ↦ absurd z ]),
)

parish : FixesJust organs (1 ∷ []) (1 ∷ 2 ∷ [])
unfolding closure rounds round all_in has
parish = fixes_just organs (1 ∷ []) (1 ∷ 2 ∷ []) refl refl

organ : FixesJust organs (0 ∷ []) (0 ∷ 1 ∷ 2 ∷ 3 ∷ [])
unfolding closure rounds round all_in has
organ = fixes_just organs (0 ∷ []) (0 ∷ 1 ∷ 2 ∷ 3 ∷ []) refl refl

organ_day : FixesJust organs (0 ∷ 5 ∷ []) (columns 0 6)
unfolding closure rounds round all_in has columns
organ_day = fixes_just organs (0 ∷ 5 ∷ []) (columns 0 6) refl refl

keys_pass : are_all_keys organs (columns 0 6) ((0 ∷ 5 ∷ []) ∷ (4 ∷ 5 ∷ []) ∷ []) ≡ true
unfolding closure rounds round all_in has columns before
keys_pass = refl

least_passes : is_least organs organ_least ≡ true
unfolding closure rounds round all_in has
least_passes = refl

design_passes : verdict 6 organs organ_parts ≡ 0
unfolding closure rounds round all_in has columns agree all_rules
design_passes = refl

wide_misses : verdict 6 organs too_wide ≡ 5
unfolding closure rounds round all_in has columns agree all_rules
wide_misses = refl

loose_misses : verdict 6 organs too_loose ≡ 3
unfolding closure rounds round all_in has columns agree all_rules
loose_misses = refl

no_fault : faults organs two_visits ≡ []
unfolding agree
no_fault = refl

visits_break : Obeys two_visits (to (4 ∷ []) (0 ∷ [])) → ⊥
unfolding Obeys agree
visits_break o = false≢true (o 0 1 (omega arith) (omega arith) refl)

not_tuner : Implied organs (to (4 ∷ []) (0 ∷ [])) → ⊥
unfolding closure rounds round all_in has
not_tuner f = out (implied_closure organs (to (4 ∷ []) (0 ∷ [])) f 0 (inl refl))
  where
    out : In {A = ℕ} 0 (4 ∷ []) → ⊥
    out (inl e) = absurd (omega arith)
    out (inr z) = absurd z

each_proper : Proper 6 organs
unfolding Proper all_in has columns
each_proper zero l = (refl, refl)
each_proper (suc zero) l = (refl, refl)
each_proper (suc (suc zero)) l = (refl, refl)
each_proper (suc (suc (suc zero))) l = (refl, refl)
each_proper (suc (suc (suc (suc i)))) l = absurd (omega arith)

pub closures_stand : OrganClosures
closures_stand = (parish, organ, organ_day)

pub tuner_stands : TunerIsFree
tuner_stands = (not_tuner, faultless_obeys organs two_visits (λ f h. subst (In f) no_fault h), visits_break)

pub cover_stands : OrganCover
cover_stands = least_told organs organ_least least_passes

pub keys_stand : OrganKeys
keys_stand = all_keys_told organs (columns 0 6) ((0 ∷ 5 ∷ []) ∷ (4 ∷ 5 ∷ []) ∷ []) keys_pass

pub design_stands : OrganDesign
unfolding VerdictPinned
design_stands = (each_proper, (verdict_pinned_lem 6 organs organ_parts each_proper).1 design_passes)

pub misses_stand : OrganMisses
unfolding VerdictPinned
misses_stand = (
  ((verdict_pinned_lem 6 organs too_wide each_proper).3 5 (omega arith) (omega arith)).0 wide_misses,
  ((verdict_pinned_lem 6 organs too_loose each_proper).3 3 (omega arith) (omega arith)).0 loose_misses,
)
