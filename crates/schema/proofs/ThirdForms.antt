-- The columns of a fine rule, and a key, are in third form. Assumes nothing.
use Rattle.std.proofs.Common.{◌≡◌, ℕ, true, List, [], ◌∷◌, ◌++◌, sym, subst, inl, inr, append-nil}
use Rattle.columns.specs.Cols.{Cols}
use Rattle.dependencies.specs.Tables.{Dep, Implied}
use Rattle.dependencies.specs.Closure.{closure}
use Rattle.keys.specs.Keys.{Key}
use Rattle.schema.specs.Design.{IsThirdForm}
use Rattle.columns.specs.Members.{In, Sub}
use Rattle.columns.proofs.Members.{in_left, in_right, in_either}
use Rattle.columns.proofs.Columns.{has_in, in_has, has_not_in, in_or_not, all_in_sub, sub_all_in}
use Rattle.dependencies.proofs.Closures.{closure_sound, closure_grows}
use Rattle.dependencies.proofs.Fired.{closure_closed}
use Rattle.dependencies.proofs.Exact.{closure_implied, implied_closure}
use Rattle.columns.proofs.Shrink.{keep_good, sub_rest}
use Rattle.dependencies.proofs.Fixing.{fixes_all_lem, implied_fixes}
use Rattle.dependencies.proofs.Reduced.{reduced, reduced_least}

-- what fixes a set fixes all that the set fixes
pub closure_through : (ds : List Dep) (j k : Cols) → Sub k (closure ds j) → Sub (closure ds k) (closure ds j)
closure_through ds j k f = closure_sound ds (λ c. In c (closure ds j)) (closure_closed ds j) k f

key_of_itself : (ds : List Dep) (p k : Cols) → Key ds p k → Key ds k k
key_of_itself ds p k key =
    record {
      inside = sub_all_in k k (λ c i. i);
      fixes = closure_implied ds (record { left = k; right = k }) (closure_grows ds k);
      least = λ j l f.
          key.least j l
          (closure_implied ds (record { left = j; right = p }) (λ c i.
          closure_through ds j k (implied_closure ds (record { left = j; right = k }) f) c
          (implied_closure ds (record { left = k; right = p }) key.fixes c i)));
    }

pub key_third : (ds : List Dep) (p k : Cols) → Key ds p k → IsThirdForm ds k
unfolding IsThirdForm
key_third ds p k key x a xk ka xa f = inr (k, key_of_itself ds p k key, ka)

module _ (ds : List Dep) (l : Cols) (b : ℕ) (fixed : fixes_all_lem ds (b ∷ []) l ≡ true) where
  abbrev low : Cols
  low = reduced ds (b ∷ []) l

  low_fixes : fixes_all_lem ds (b ∷ []) low ≡ true
  low_fixes = keep_good (fixes_all_lem ds (b ∷ [])) [] l fixed

  -- what holds the low columns and fixes b fixes them all
  all_fixed : (x : Cols) → Sub low x → fixes_all_lem ds (b ∷ []) x ≡ true → Implied ds (record { left = x; right = low ++ b ∷ [] })
  all_fixed x f h =
      closure_implied ds (record { left = x; right = low ++ b ∷ [] }) (λ c i.
      elim (in_either low (b ∷ []) c i)
      [ inl m ↦ closure_grows ds x c (f c m) | inr m ↦ all_in_sub (b ∷ []) (closure ds x) h c m ])

  low_key : Key ds (low ++ b ∷ []) low
  low_key =
      record {
        inside = sub_all_in low (low ++ b ∷ []) (in_left low (b ∷ []));
        fixes = all_fixed low (λ c i. i) low_fixes;
        least = λ j m f.
            sub_all_in low j
            (reduced_least ds (b ∷ []) l j (all_in_sub j low m)
            (sub_all_in (b ∷ []) (closure ds j) (λ c i.
            implied_closure ds (record { left = j; right = low ++ b ∷ [] }) f c (in_right low (b ∷ []) c i))));
      }

  pub rule_third : IsThirdForm ds (low ++ b ∷ [])
  unfolding IsThirdForm
  rule_third x a xp pa xa f =
      elim (in_or_not low a) [
        | inl m ↦ inr (low, low_key, in_has low a m)
        | inr m ↦
            elim (in_either low (b ∷ []) a (has_in (low ++ b ∷ []) a pa)) [
              | inl n ↦ absurd (m n)
              | inr n ↦
                  elim n [
                    | inl e ↦
                        let no· : In b x → ⊥ = λ i. has_not_in x a xa (subst (λ v. In v x) e i) in
                        let inside : Sub x low = subst (λ v. Sub x v) (append-nil low) (sub_rest x low [] b (all_in_sub x (low ++ b ∷ []) xp) no·) in
                        let h : fixes_all_lem ds (b ∷ []) x ≡ true
                        = subst (λ v. fixes_all_lem ds (v ∷ []) x ≡ true) (sym e) (implied_fixes ds (a ∷ []) x f) in
                        inl (all_fixed x (reduced_least ds (b ∷ []) l x inside h) h)
                    | inr z ↦ absurd z
                  ]
            ]
      ]
