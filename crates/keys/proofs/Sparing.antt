-- Whether a set can spare a column, column by column.
use Rattle.std.proofs.Common.{◌≡◌, ℕ, Bool, true, false, not, ◌&&◌, eqb, List, ◌∷◌, sym, ap, ◌∙◌}
use Rattle.std.proofs.lemmas.Bool.{and_parts, and_from, both_ways, eq-eqb, ne_eqb, not-true, not_from_false}
use Rattle.columns.specs.Cols.{Cols, has, less}
use Rattle.columns.specs.Every.{every}
use Rattle.columns.specs.Members.{Sub}
use Rattle.columns.proofs.Columns.{has_in, in_has, in_less, less_in}
use Rattle.columns.proofs.Lists.{same_test}
use Rattle.dependencies.specs.Tables.{Dep}
use Rattle.dependencies.specs.Closure.{does_fix}
use Rattle.dependencies.proofs.Fixing.{fixes_monotone}

-- a set without c has the columns that are left when c is left out of the list
pub fixes_less : (ds : List Dep) (p s t : Cols) (c : ℕ) → ((d : ℕ) → has t d ≡ (has s d && not (eqb c d))) → does_fix ds t p ≡ does_fix ds (less s c) p
fixes_less ds p s t c w =
    let to : Sub t (less s c)
    = λ d i.
    let q = and_parts (has s d) (not (eqb c d)) (sym (w d) ∙ in_has t d i) in
    less_in s c d (has_in s d q.0) (λ e. both_ways (eqb c d) (not-true (eqb c d) q.1) (eq-eqb c d (sym e))) in
    let from : Sub (less s c) t
    = λ d i.
    let q = in_less s c d i in
    has_in t d (w d ∙ and_from (has s d) (not (eqb c d)) (in_has s d q.0) (not_from_false (eqb c d) (ne_eqb c d (λ e. q.1 (sym e))))) in
    same_test (does_fix ds t p) (does_fix ds (less s c) p) (fixes_monotone ds p t (less s c) to) (fixes_monotone ds p (less s c) t from)

-- the first of a list passes a test, or all do not
pub every_on : (xs ys : Cols) (c : ℕ) (f : ℕ → Bool) → xs ≡ c ∷ ys → f c ≡ true → every xs f ≡ every ys f
every_on xs ys c f e h = ap (λ v. every v f) e ∙ ap (λ b. b && every ys f) h

pub every_stops : (xs ys : Cols) (c : ℕ) (f : ℕ → Bool) → xs ≡ c ∷ ys → f c ≡ false → every xs f ≡ false
every_stops xs ys c f e h = ap (λ v. every v f) e ∙ ap (λ b. b && every ys f) h
