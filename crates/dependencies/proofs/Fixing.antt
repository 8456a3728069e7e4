-- A set of columns fixes another: the test, and what it says of tables.
use Rattle.std.proofs.Common.{◌≡◌, Bool, true, List}
use Rattle.columns.specs.Cols.{Cols, all_in}
use Rattle.dependencies.specs.Tables.{Dep, Implied}
use Rattle.dependencies.specs.Closure.{closure, does_fix, do_follow}
use Rattle.columns.specs.Members.{In, Sub}
use Rattle.columns.proofs.Columns.{all_in_sub, sub_all_in}
use Rattle.dependencies.proofs.Closures.{closure_sound, closure_grows}
use Rattle.dependencies.proofs.Fired.{closure_closed}
use Rattle.dependencies.proofs.Exact.{closure_implied, implied_closure}
use Rattle.columns.proofs.Everyone.{every_at}

pub closure_monotone : (ds : List Dep) (us vs : Cols) → Sub us vs → Sub (closure ds us) (closure ds vs)
closure_monotone ds us vs f = closure_sound ds (λ c. In c (closure ds vs)) (closure_closed ds vs) us (λ c i. closure_grows ds vs c (f c i))

-- the columns k fix p, as a test
abbrev pub fixes_all_lem : List Dep → Cols → Cols → Bool
fixes_all_lem ds p k = all_in p (closure ds k)

pub fixes_monotone : (ds : List Dep) (p us vs : Cols) → Sub us vs → fixes_all_lem ds p us ≡ true → fixes_all_lem ds p vs ≡ true
fixes_monotone ds p us vs f h =
    sub_all_in p (closure ds vs) (λ c i. closure_monotone ds us vs f c (all_in_sub p (closure ds us) h c i))

pub implied_fixes : (ds : List Dep) (p k : Cols) → Implied ds (record { left = k; right = p }) → fixes_all_lem ds p k ≡ true
implied_fixes ds p k f = sub_all_in p (closure ds k) (implied_closure ds (record { left = k; right = p }) f)

pub fixes_implied : (ds : List Dep) (p k : Cols) → fixes_all_lem ds p k ≡ true → Implied ds (record { left = k; right = p })
fixes_implied ds p k h = closure_implied ds (record { left = k; right = p }) (all_in_sub p (closure ds k) h)

pub follow_to : (ds ms : List Dep) → do_follow ds ms ≡ true → (m : Dep) → In m ms → Implied ds m
follow_to ds ms h m i = closure_implied ds m (all_in_sub m.right (closure ds m.left) (every_at ms (λ d. does_fix ds d.left d.right) h m i))
