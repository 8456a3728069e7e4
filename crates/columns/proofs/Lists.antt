-- Lists of columns: what `has` and `all_in` say of each other. Used by every crate above.
use Rattle.std.proofs.Common.{◌≡◌, ℕ, Bool, true, false, ◌||◌, eqb, [], ◌∷◌, ◌++◌, sym, refl, ap, ◌∙◌, inl, inr}
use Rattle.std.proofs.lemmas.Bool.{eqb-true, eq-eqb, or_cases, or_left, or_right, and_parts, and_from, both_ways}
use Rattle.columns.specs.Cols.{Cols, pick, has, all_in, Same}

pub pick_or : (t u : Bool) → pick t true u ≡ (t || u)
pick_or true u = refl
pick_or false u = refl

pub has_cons : (d : ℕ) (ds : Cols) (c : ℕ) → has (d ∷ ds) c ≡ (eqb d c || has ds c)
unfolding has
has_cons d ds c = pick_or (eqb d c) (has ds c)

pub or_assoc : (x y z : Bool) → ((x || y) || z) ≡ (x || (y || z))
or_assoc true y z = refl
or_assoc false y z = refl

pub has_append : (xs ys : Cols) (c : ℕ) → has (xs ++ ys) c ≡ (has xs c || has ys c)
unfolding has
has_append [] ys c = refl
has_append (x ∷ xs) ys c =
    has_cons x (xs ++ ys) c ∙ ap (λ (b : Bool). eqb x c || b) (has_append xs ys c) ∙ sym (or_assoc (eqb x c) (has xs c) (has ys c))
    ∙ ap (λ (b : Bool). b || has ys c) (sym (has_cons x xs c))

-- two tests are the same if each makes the other true
pub same_test : (x y : Bool) → (x ≡ true → y ≡ true) → (y ≡ true → x ≡ true) → x ≡ y
same_test true true f g = refl
same_test true false f g = sym (f refl)
same_test false true f g = g refl
same_test false false f g = refl

abbrev pub Inside : Cols → Cols → Type 0
Inside xs ys = (c : ℕ) → has xs c ≡ true → has ys c ≡ true

pub all_from : (xs ys : Cols) → Inside xs ys → all_in xs ys ≡ true
unfolding all_in
all_from [] ys f = refl
all_from (x ∷ xs) ys f =
    and_from (has ys x) (all_in xs ys) (f x (has_cons x xs x ∙ or_left (eqb x x) (has xs x) (eq-eqb x x refl)))
    (all_from xs ys (λ c h. f c (has_cons x xs c ∙ or_right (eqb x c) (has xs c) h)))

pub all_gives : (xs ys : Cols) → all_in xs ys ≡ true → Inside xs ys
unfolding all_in has
all_gives [] ys e c h = absurd (both_ways false refl h)
all_gives (x ∷ xs) ys e c h =
    let p = and_parts (has ys x) (all_in xs ys) e in
    elim (or_cases (eqb x c) (has xs c) (sym (has_cons x xs c) ∙ h))
    [ inl q ↦ ap (λ (d : ℕ). has ys d) (sym (eqb-true x c q)) ∙ p.0 | inr q ↦ all_gives xs ys p.1 c q ]

-- `all_in` looks only at which columns there are
pub all_same : (xs xs' ys ys' : Cols) → Same xs xs' → Same ys ys' → all_in xs ys ≡ all_in xs' ys'
all_same xs xs' ys ys' p q =
    same_test (all_in xs ys) (all_in xs' ys')
    (λ e. all_from xs' ys' (λ c h. sym (q c) ∙ all_gives xs ys e c (p c ∙ h)))
    (λ e. all_from xs ys (λ c h. q c ∙ all_gives xs' ys' e c (sym (p c) ∙ h)))
