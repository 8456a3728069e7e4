-- A least set of rules exists: fine rules, of which none is left that the others carry. Assumes nothing.
use Rattle.std.proofs.Common.{◌≡◌, ℕ, ◌<◌, List, [], ◌∷◌, ◌++◌, length, get_or, sym, refl, ap, ◌∙◌, subst, inl, inr, arith}
use Rattle.std.proofs.lemmas.Bool.{true≢false}
use Rattle.columns.specs.Cols.{Cols}
use Rattle.dependencies.specs.Tables.{Dep, no_dep, Implied}
use Rattle.cover.specs.Least.{LeastExists}
use Rattle.columns.specs.Members.{Sub}
use Rattle.columns.proofs.Members.{in_left, in_right, in_either, in_at}
use Rattle.columns.proofs.Columns.{columns_in}
use Rattle.dependencies.proofs.Marks.{tops, tops_right}
use Rattle.dependencies.proofs.Consequence.{AllFollow, member_follows, follows_through, carries, carries_follow, follow_carries, carries_monotone}
use Rattle.columns.proofs.Shrink.{keep, keep_sub, keep_good, keep_least}
use Rattle.dependencies.proofs.Fixing.{fixes_all_lem, fixes_monotone, implied_fixes}
use Rattle.dependencies.proofs.Reduced.{reduced}
use Rattle.cover.proofs.FineRules.{fine, fines, Made, fines_made, fines_follow, follow_fines}

-- the rules but one follow: so does all, if that one does
pub rest_follow : (xs ys : List Dep) (m : Dep) → Implied (xs ++ ys) m → AllFollow (xs ++ ys) (xs ++ m ∷ ys)
rest_follow xs ys m f d i =
    elim (in_either xs (m ∷ ys) d i) [
      | inl a ↦ member_follows (xs ++ ys) d (in_left xs ys d a)
      | inr b ↦ elim b [ inl e ↦ subst (λ v. Implied (xs ++ ys) v) e f | inr k ↦ member_follows (xs ++ ys) d (in_right xs ys d k) ]
    ]

-- a fine rule needs each of its left columns
pub fine_needs : (ds : List Dep) (l : Cols) (a : ℕ) (m : Dep) → fine ds l a ≡ m → (xs ys : Cols) (c : ℕ) → m.left ≡ xs ++ c ∷ ys
    → Implied ds (record { left = xs ++ ys; right = m.right }) → ⊥
fine_needs ds l a m q xs ys c e f =
    let e' : reduced ds (a ∷ []) l ≡ xs ++ c ∷ ys = ap (λ v. v.left) q ∙ e in
    let f' : Implied ds (record { left = xs ++ ys; right = a ∷ [] })
    = subst (λ v. Implied ds (record { left = xs ++ ys; right = v })) (sym (ap (λ v. v.right) q)) f in
    true≢false (sym (implied_fixes ds (a ∷ []) (xs ++ ys) f') ∙ keep_least (fixes_all_lem ds (a ∷ [])) (fixes_monotone ds (a ∷ [])) [] l xs ys c e')

pub least_exists : LeastExists
unfolding LeastExists
least_exists ds =
    let fs : List Dep = fines ds (tops ds) ds in
    let ms : List Dep = keep (carries fs) [] fs in
    let ms-fs : Sub ms fs = keep_sub (carries fs) [] fs in
    let fs-follow : AllFollow ms fs = carries_follow fs ms (keep_good (carries fs) [] fs (follow_carries fs fs (member_follows fs))) in
    let down : AllFollow ds ms = λ m h. fines_follow ds (tops ds) m (ms-fs m h) in
    let up : AllFollow ms ds
    = λ d h.
    follows_through ms fs fs-follow d
    (follow_fines ds (tops ds) (λ e k c i. columns_in 0 (tops ds) c (omega arith) (let l = tops_right ds e k c i in omega arith)) d h) in
    let made : (i : ℕ) → i < length ms → Made ds ds (tops ds) (get_or ms i no_dep)
    = λ i h. fines_made ds (tops ds) ds (get_or ms i no_dep) (ms-fs (get_or ms i no_dep) (in_at ms i no_dep h)) in (
      ms,
      record {
        same = λ d. (follows_through ms ds up d, follows_through ds ms down d);
        single = λ i h. subst (λ m. length m.right ≡ 1) (made i h).is refl;
        no_rule = λ i xs ys e at h f.
            let g : AllFollow (xs ++ ys) ms
            = subst (λ v. AllFollow (xs ++ ys) v) (sym e) (rest_follow xs ys (get_or ms i no_dep) f) in
            true≢false
            (sym (follow_carries fs (xs ++ ys) (λ m k. follows_through (xs ++ ys) ms g m (fs-follow m k)))
            ∙ keep_least (carries fs) (carries_monotone fs) [] fs xs ys (get_or ms i no_dep) e);
        no_column = λ i xs ys c h e f.
            fine_needs ds (made i h).rule.left (made i h).column (get_or ms i no_dep) (made i h).is xs ys c e
            (follows_through ds ms down (record { left = xs ++ ys; right = (get_or ms i no_dep).right }) f);
      },
    )
