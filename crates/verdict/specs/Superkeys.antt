-- The sets inside a part, split by one column after the other: how many are superkeys, which columns are in keys, and which less than
-- a superkey fixes. Assumes nothing: these are definitions.
use Rattle.std.specs.Prelude.{◌≡◌, ℕ, ◌+◌, Bool, false, not, ◌&&◌, ◌||◌, List, [], ◌∷◌, ◌==◌}
use Rattle.columns.specs.Cols.{Cols, pick, has}
use Rattle.columns.specs.Sets.{cols}
use Rattle.dependencies.specs.Closure.{closure, does_fix}
use Rattle.dependencies.specs.Tables.{Dep}
use Rattle.verdict.specs.declared.third.Found.{Found}

-- how many of the sets that have x and some of cs are superkeys of p
unfoldable pub superkeys : List Dep → Cols → Cols → Cols → ℕ
superkeys ds p x [] = pick (does_fix ds x p) 1 0
superkeys ds p x (c ∷ cs) = superkeys ds p x cs + superkeys ds p (c ∷ x) cs

-- some of cs is a column a that makes superkeys of sets that are none without it
unfoldable pub is_in_keys : List Dep → Cols → Cols → Cols → ℕ → Bool
is_in_keys ds p x [] a = false
is_in_keys ds p x (c ∷ cs) a =
    (is_in_keys ds p x cs a || is_in_keys ds p (c ∷ x) cs a) || (not (superkeys ds p x cs == superkeys ds p (c ∷ x) cs) && c == a)

-- x is no superkey of p, and fixes a column of p that it does not have
abbrev pub is_loosely : List Dep → Cols → Cols → ℕ → Bool
is_loosely ds p x a = not (does_fix ds x p) && ((has (closure ds x) a && has p a) && not (has x a))

-- some set that has x and some of cs does that
unfoldable pub is_loose : List Dep → Cols → Cols → Cols → ℕ → Bool
is_loose ds p x [] a = is_loosely ds p x a
is_loose ds p x (c ∷ cs) a = is_loose ds p x cs a || is_loose ds p (c ∷ x) cs a

pub record Finds (ds : List Dep) (p x cs : Cols) (f : Found) : Type 0 where
  pub count : f.superkeys ≡ superkeys ds p x cs
  pub primes : (a : ℕ) → has (cols f.prime) a ≡ is_in_keys ds p x cs a
  pub loosed : (a : ℕ) → has (cols f.loose) a ≡ is_loose ds p x cs a

pub record Joins (c : ℕ) (without with· f : Found) : Type 0 where
  pub count : f.superkeys ≡ without.superkeys + with·.superkeys
  pub primes : (a : ℕ) → has (cols f.prime) a
      ≡ ((has (cols without.prime) a || has (cols with·.prime) a) || (not (without.superkeys == with·.superkeys) && c == a))
  pub loosed : (a : ℕ) → has (cols f.loose) a ≡ (has (cols without.loose) a || has (cols with·.loose) a)
