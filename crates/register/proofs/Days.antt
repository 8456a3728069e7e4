-- The parts go beside the one table through a day.
use Rattle.std.proofs.Common.{◌≡◌, ℕ, Bool, true, false, not, ◌&&◌, List, [], ◌∷◌, ◌++◌, sym, refl, subst, ap₂}
use Rattle.std.proofs.lemmas.Bool.{and_parts}
use Rattle.dependencies.specs.Tables.{Row, Dep, ObeysAll}
use Rattle.columns.specs.Cols.{columns, pick}
use Rattle.schema.specs.Design.{Part, Design}
use Rattle.parts.specs.Day.{Deed, insert, remove, Held, present, without, rules_with, whole_takes, whole_after, whole_day, whole_end, all_more, all_less, parts_take, parts_after, parts_day, parts_end, bare}
use Rattle.register.specs.Theorems.{PartsAsWhole}
use Rattle.register.proofs.Counts.{without_in}
use Rattle.register.proofs.Obeying.{obeys_come, obeys_none}
use Rattle.dependencies.proofs.Tables.{fewer_rows}
use Rattle.register.proofs.Together.{AllKept, bare_kept, more_kept, less_kept, proper, hold_present, allow_rules}

-- the invariant of a day: the table obeys the rules, and each part holds its looks of it
pub record Beside (ds : List Dep) (ps : List Part) (t : List Row) (hs : List (List Held)) : Type 0 where
  pub obeys : ObeysAll t ds
  pub kept : AllKept t ps hs

pub taken_rules : (n : ℕ) (ds : List Dep) (t : List Row) (r : Row) → whole_takes n ds t (insert r) ≡ true → rules_with ds r t ≡ true
unfolding whole_takes
taken_rules n ds t r w = (and_parts (not (present (columns 0 n) r t)) (rules_with ds r t) w).1

pub taken_there : (n : ℕ) (ds : List Dep) (t : List Row) (r : Row) → whole_takes n ds t (remove r) ≡ true → present (columns 0 n) r t ≡ true
unfolding whole_takes
taken_there n ds t r w = w

module _ (n : ℕ) (ds : List Dep) (ps : List Part) (design : Design n ds ps) where
  pub takes_same : (t : List Row) (hs : List (List Held)) (e : Deed) → Beside ds ps t hs → parts_take ps hs e ≡ whole_takes n ds t e
  unfolding parts_take whole_takes
  takes_same t hs (insert r) b =
      ap₂ (λ x y. not x && y) (hold_present n ds ps design t hs r b.obeys b.kept) (allow_rules n ds ps design t hs r b.obeys b.kept)
  takes_same t hs (remove r) b = hold_present n ds ps design t hs r b.obeys b.kept

  pub after_beside : (t : List Row) (hs : List (List Held)) (e : Deed) → Beside ds ps t hs → Beside ds ps (whole_after n ds t e) (parts_after ps hs e)
  unfolding parts_after whole_after
  after_beside t hs (insert r) b =
      let P : Bool → Type 0 = λ c. Beside ds ps (pick (whole_takes n ds t (insert r)) (t ++ r ∷ []) t) (pick c (all_more ps hs r) hs) in
      subst P (sym (takes_same t hs (insert r) b)) (go (whole_takes n ds t (insert r)) refl)
    where
      go : (c : Bool) → whole_takes n ds t (insert r) ≡ c → Beside ds ps (pick c (t ++ r ∷ []) t) (pick c (all_more ps hs r) hs)
      go true w = record { obeys = obeys_come t r ds b.obeys (taken_rules n ds t r w); kept = more_kept t r ps hs b.kept }
      go false w = b
  after_beside t hs (remove r) b =
      let P : Bool → Type 0 = λ c. Beside ds ps (pick (whole_takes n ds t (remove r)) (without (columns 0 n) r t) t) (pick c (all_less ps hs r) hs) in
      subst P (sym (takes_same t hs (remove r) b)) (go (whole_takes n ds t (remove r)) refl)
    where
      go : (c : Bool) → whole_takes n ds t (remove r) ≡ c → Beside ds ps (pick c (without (columns 0 n) r t) t) (pick c (all_less ps hs r) hs)
      go true w = record {
        obeys = fewer_rows t (without (columns 0 n) r t) ds (without_in (columns 0 n) r t) b.obeys;
        kept = less_kept (columns 0 n) t r ps hs (proper n ds ps design) (taken_there n ds t r w) b.kept;
      }
      go false w = b

  pub day_same : (es : List Deed) (t : List Row) (hs : List (List Held)) → Beside ds ps t hs → parts_day ps hs es ≡ whole_day n ds t es
  unfolding parts_day whole_day
  day_same [] t hs b = refl
  day_same (e ∷ es) t hs b =
      ap₂ (λ x xs. x ∷ xs) (takes_same t hs e b) (day_same es (whole_after n ds t e) (parts_after ps hs e) (after_beside t hs e b))

  pub end_beside : (es : List Deed) (t : List Row) (hs : List (List Held)) → Beside ds ps t hs → Beside ds ps (whole_end n ds t es) (parts_end ps hs es)
  unfolding parts_end whole_end
  end_beside [] t hs b = b
  end_beside (e ∷ es) t hs b = end_beside es (whole_after n ds t e) (parts_after ps hs e) (after_beside t hs e b)

  pub start_beside : Beside ds ps [] (bare ps)
  start_beside = record { obeys = obeys_none ds; kept = bare_kept ps }

pub parts_as_whole_stands : PartsAsWhole
unfolding PartsAsWhole
parts_as_whole_stands n ds ps es design =
    let start = start_beside n ds ps design in
    let b = end_beside n ds ps design es [] (bare ps) start in (
      day_same n ds ps design es [] (bare ps) start,
      λ r. hold_present n ds ps design (whole_end n ds [] es) (parts_end ps (bare ps) es) r b.obeys b.kept,
    )
