-- Keys of a set of columns, and lists of all of them.
use Rattle.std.specs.Prelude.{◌≡◌, ◌<◌, Bool, true, not, ◌&&◌, ◌||◌, List, length}
use Rattle.columns.specs.Cols.{Cols, all_in, Rising, less}
use Rattle.dependencies.specs.Tables.{Dep, Implied}
use Rattle.columns.specs.Order.{Listed, IsInOrder, is_rising, is_in_order}
use Rattle.columns.specs.Every.{every, any, subsets}
use Rattle.dependencies.specs.Closure.{does_fix}

-- a key of the columns p: it fixes p, lies in p, and no part of it fixes p
pub record Key (ds : List Dep) (p k : Cols) : Type 0 where
  pub inside : all_in k p ≡ true
  pub fixes : Implied ds (record { left = k; right = p })
  pub least : (j : Cols) → all_in j k ≡ true → Implied ds (record { left = j; right = p }) → all_in k j ≡ true

-- all keys, each once, in order
pub record AllKeys (ds : List Dep) (p : Cols) (ks : List Cols) : Type 0 where
  pub order : IsInOrder ks
  pub rise : (k : Cols) → Listed k ks → Rising k
  pub keys : (k : Cols) → Listed k ks → Key ds p k
  pub all : (k : Cols) → Rising k → Key ds p k → Listed k ks

-- Any set has a list of all its keys, under any rules.
unfoldable pub KeysExist : Type 0
KeysExist = (ds : List Dep) (p : Cols) → Rising p → (ks : List Cols) × AllKeys ds p ks

-- There is always a key, and the list of keys is one.
unfoldable pub KeysOne : Type 0
KeysOne =
    (ds : List Dep) (p : Cols) (ks js : List Cols) → Rising p → AllKeys ds p ks → AllKeys ds p js → (ks ≡ js) × (0 < length ks)

-- it does not fix p without any one of its columns
abbrev pub is_all_needed : List Dep → Cols → Cols → Bool
is_all_needed ds p k = every k (λ a. not (does_fix ds (less k a) p))

-- it fixes p, and without any one of its columns does not
abbrev pub is_key : List Dep → Cols → Cols → Bool
is_key ds p k = does_fix ds k p && is_all_needed ds p k

abbrev pub are_all_keys : List Dep → Cols → List Cols → Bool
are_all_keys ds p ks =
    (is_in_order ks && every ks (λ k. is_rising k && (all_in k p && is_key ds p k)))
    && every (subsets p) (λ y. not (is_key ds p y) || any ks (λ k. all_in k y && all_in y k))
