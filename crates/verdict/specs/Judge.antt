-- Tests of a design that somebody else made: which condition it misses first. Assumes nothing: these are definitions.
use Rattle.std.specs.Prelude.{ℕ, Bool, true, not, ◌&&◌, ◌||◌, List, [], ◌∷◌, length, nat_lt}
use Rattle.columns.specs.Cols.{Cols, has, all_in, columns, pick, less}
use Rattle.dependencies.specs.Tables.{Dep}
use Rattle.schema.specs.Design.{Part, all_rules}
use Rattle.columns.specs.Every.{every, any, subsets}
use Rattle.verdict.specs.Chase.{does_lose_nothing}
use Rattle.dependencies.specs.Closure.{does_fix, do_follow}

-- some key of p has the column: a set that fixes p and without it does not
abbrev pub is_in_key : List Dep → Cols → ℕ → Bool
is_in_key ds p a = any (subsets p) (λ x. does_fix ds x p && not (does_fix ds (less x a) p))

abbrev pub is_third_form : List Dep → Cols → Bool
is_third_form ds p = every p (λ a. is_in_key ds p a || every (subsets p) (λ x. has x a || (not (does_fix ds x (a ∷ [])) || does_fix ds x p)))

abbrev pub are_columns : ℕ → List Part → Bool
are_columns n ps = nat_lt 0 (length ps) && (every ps (λ p. all_in p.cols (columns 0 n)) && every (columns 0 n) (λ c. any ps (λ p. has p.cols c)))

abbrev pub is_none_inside : List Part → Bool
is_none_inside [] = true
is_none_inside (p ∷ ps) = every ps (λ q. not (all_in p.cols q.cols) && not (all_in q.cols p.cols)) && is_none_inside ps

abbrev pub is_own : List Part → Bool
is_own ps = every ps (λ p. every p.rules (λ d. all_in d.left p.cols && all_in d.right p.cols))

abbrev pub does_keep_rules : List Dep → List Part → Bool
does_keep_rules ds ps = do_follow (all_rules ps) ds && (do_follow ds (all_rules ps) && is_own ps)

abbrev pub are_third_form : List Dep → List Part → Bool
are_third_form ds ps = every ps (λ p. is_third_form ds p.cols)

-- 0 for a design, else the first condition that is missed
abbrev pub verdict : ℕ → List Dep → List Part → ℕ
verdict n ds ps =
    pick (are_columns n ps)
    (pick (is_none_inside ps) (pick (does_lose_nothing n ds ps) (pick (does_keep_rules ds ps) (pick (are_third_form ds ps) 0 5) 4) 3) 2)
    1
