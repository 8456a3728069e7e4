-- Third form is decided by trying all subsets. Assumes nothing.
use Rattle.std.proofs.Common.{◌≡◌, ℕ, Bool, true, false, not, ◌&&◌, ◌||◌, List, [], ◌∷◌, sym, refl, ◌∙◌, subst, inl, inr}
use Rattle.std.proofs.lemmas.Bool.{true≢false, and_parts, and_from, or_cases, or_left, or_right, not-true, not_from_false, cases_Bool}
use Rattle.columns.specs.Cols.{Cols, has, less}
use Rattle.dependencies.specs.Tables.{Dep}
use Rattle.keys.specs.Keys.{Key}
use Rattle.schema.specs.Design.{IsThirdForm}
use Rattle.columns.specs.Every.{every, subsets}
use Rattle.dependencies.specs.Closure.{does_fix}
use Rattle.verdict.specs.Judge.{is_in_key, is_third_form}
use Rattle.verdict.specs.Decided.{ThirdFormDecided}
use Rattle.columns.specs.Members.{In, Sub}
use Rattle.columns.proofs.Columns.{has_in, in_has, has_not_in, in_or_not, all_in_sub, sub_all_in, in_less, less_in}
use Rattle.columns.proofs.Shrink.{keep_sub, keep_good}
use Rattle.dependencies.proofs.Fixing.{fixes_all_lem, fixes_monotone, implied_fixes, fixes_implied}
use Rattle.dependencies.proofs.Reduced.{reduced}
use Rattle.keys.proofs.Keys.{reduced_key}
use Rattle.columns.proofs.Everyone.{every_at, every_from, any_some, any_from}
use Rattle.columns.proofs.Subsets.{subset_sub, subset_same}

-- a superkey that is none without a column has a key with that column
pub key_with : (ds : List Dep) (p x : Cols) (a : ℕ) → Sub x p → does_fix ds x p ≡ true → does_fix ds (less x a) p ≡ false → (k : Cols) × Key ds p k × (has k a ≡ true)
key_with ds p x a inside h l =
    let k = reduced ds p x in (
      k,
      reduced_key ds p x inside h,
      elim (in_or_not k a) [
        | inl i ↦ in_has k a i
        | inr i ↦
            absurd (true≢false
            (sym (fixes_monotone ds p k (less x a)
            (λ c j. less_in x a c (keep_sub (fixes_all_lem ds p) [] x c j) (λ e. i (subst (λ v. In v k) e j))) (keep_good (fixes_all_lem ds p) [] x h))
            ∙ l))
      ],
    )

key_column : (ds : List Dep) (p : Cols) (a : ℕ) → is_in_key ds p a ≡ true → (k : Cols) × Key ds p k × (has k a ≡ true)
key_column ds p a h =
    let s = any_some (subsets p) (λ x. does_fix ds x p && not (does_fix ds (less x a) p)) h in
    let w = and_parts (does_fix ds s.0 p) (not (does_fix ds (less s.0 a) p)) s.2 in
    key_with ds p s.0 a (subset_sub p s.0 s.1) w.0 (not-true (does_fix ds (less s.0 a) p) w.1)

column_key : (ds : List Dep) (p : Cols) (a : ℕ) (k : Cols) → Key ds p k → has k a ≡ true → is_in_key ds p a ≡ true
column_key ds p a k key h =
    let s = subset_same p k (all_in_sub k p key.inside) in
    let y = s.0 in
    any_from (subsets p) (λ x. does_fix ds x p && not (does_fix ds (less x a) p)) y s.1
    (and_from (does_fix ds y p) (not (does_fix ds (less y a) p)) (fixes_monotone ds p k y s.3 (implied_fixes ds p k key.fixes))
    (elim (cases_Bool (does_fix ds (less y a) p)) [
      | inl e ↦
          let l = key.least (less y a) (sub_all_in (less y a) k (λ c i. s.2 c (in_less y a c i).0)) (fixes_implied ds p (less y a) e) in
          absurd ((in_less y a a (all_in_sub k (less y a) l a (has_in k a h))).1 refl)
      | inr e ↦ not_from_false (does_fix ds (less y a) p) e
    ]))

pub third_sound : (ds : List Dep) (p : Cols) → is_third_form ds p ≡ true → IsThirdForm ds p
unfolding IsThirdForm
third_sound ds p h x a xp pa xa f =
    let test : Cols → Bool = λ y. has y a || (not (does_fix ds y (a ∷ [])) || does_fix ds y p) in
    elim (or_cases (is_in_key ds p a) (every (subsets p) test)
    (every_at p (λ b. is_in_key ds p b || every (subsets p) (λ y. has y b || (not (does_fix ds y (b ∷ [])) || does_fix ds y p))) h a (has_in p a pa))) [
      | inl e ↦ inr (key_column ds p a e)
      | inr e ↦
          let s = subset_same p x (all_in_sub x p xp) in
          let y = s.0 in
          elim (or_cases (has y a) (not (does_fix ds y (a ∷ [])) || does_fix ds y p) (every_at (subsets p) test e y s.1)) [
            | inl q ↦ absurd (has_not_in x a xa (s.2 a (has_in y a q)))
            | inr q ↦
                elim (or_cases (not (does_fix ds y (a ∷ []))) (does_fix ds y p) q) [
                  | inl g ↦
                      absurd (true≢false
                      (sym (fixes_monotone ds (a ∷ []) x y s.3 (implied_fixes ds (a ∷ []) x f)) ∙ not-true (does_fix ds y (a ∷ [])) g))
                  | inr g ↦ inl (fixes_implied ds p x (fixes_monotone ds p y x s.2 g))
                ]
          ]
    ]

pub third_complete : (ds : List Dep) (p : Cols) → IsThirdForm ds p → is_third_form ds p ≡ true
unfolding IsThirdForm
third_complete ds p t =
    every_from p (λ b. is_in_key ds p b || every (subsets p) (λ y. has y b || (not (does_fix ds y (b ∷ [])) || does_fix ds y p))) (λ a i.
    let test : Cols → Bool = λ y. has y a || (not (does_fix ds y (a ∷ [])) || does_fix ds y p) in
    elim (cases_Bool (is_in_key ds p a)) [
      | inl e ↦ or_left (is_in_key ds p a) (every (subsets p) test) e
      | inr e ↦
          or_right (is_in_key ds p a) (every (subsets p) test)
          (every_from (subsets p) test (λ y h.
          elim (cases_Bool (has y a)) [
            | inl q ↦ or_left (has y a) (not (does_fix ds y (a ∷ [])) || does_fix ds y p) q
            | inr q ↦
                or_right (has y a) (not (does_fix ds y (a ∷ [])) || does_fix ds y p)
                (elim (cases_Bool (does_fix ds y (a ∷ []))) [
                  | inl g ↦
                      or_right (not (does_fix ds y (a ∷ []))) (does_fix ds y p)
                      (elim (t y a (sub_all_in y p (subset_sub p y h)) (in_has p a i) q (fixes_implied ds (a ∷ []) y g)) [
                        | inl f ↦ implied_fixes ds p y f
                        | inr k ↦ absurd (true≢false (sym (column_key ds p a k.0 k.1 k.2) ∙ e))
                      ])
                  | inr g ↦ or_left (not (does_fix ds y (a ∷ []))) (does_fix ds y p) (not_from_false (does_fix ds y (a ∷ [])) g)
                ])
          ]))
    ])

pub third_form_decided_lem : ThirdFormDecided
unfolding ThirdFormDecided
third_form_decided_lem ds p = (third_sound ds p, third_complete ds p)
