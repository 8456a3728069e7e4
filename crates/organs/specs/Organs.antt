-- Organs and tuners: columns 0 organ, 1 parish, 2 diocese, 3 builder, 4 tuner, 5 day. An organ fixes parish and builder, a parish its
-- diocese, tuner and day the organ, organ and day the tuner.
use Rattle.std.specs.Prelude.{◌≡◌, ℕ, true, List, [], ◌∷◌}
use Rattle.dependencies.specs.Tables.{Row, Dep, Obeys, ObeysAll, Implied, Proper}
use Rattle.columns.specs.Cols.{Cols, has, columns}
use Rattle.keys.specs.Keys.{AllKeys}
use Rattle.schema.specs.Design.{Part, Design}
use Rattle.cover.specs.Least.{Least}
use Rattle.verdict.specs.Decided.{FirstMissed}

abbrev pub to : Cols → Cols → Dep
to l r = record { left = l; right = r }

abbrev pub part : Cols → List Dep → Part
part c r = record { cols = c; rules = r }

abbrev pub organs : List Dep
organs = to (0 ∷ []) (1 ∷ 3 ∷ []) ∷ to (1 ∷ []) (2 ∷ []) ∷ to (4 ∷ 5 ∷ []) (0 ∷ []) ∷ to (0 ∷ 5 ∷ []) (4 ∷ []) ∷ []

-- the columns that x fixes are those of y
abbrev pub FixesJust : List Dep → Cols → Cols → Type 0
FixesJust ds x y = (c : ℕ) → (Implied ds (to x (c ∷ [])) → has y c ≡ true) × (has y c ≡ true → Implied ds (to x (c ∷ [])))

abbrev pub organ_least : List Dep
organ_least = to (0 ∷ []) (1 ∷ []) ∷ to (0 ∷ []) (3 ∷ []) ∷ to (1 ∷ []) (2 ∷ []) ∷ to (4 ∷ 5 ∷ []) (0 ∷ []) ∷ to (0 ∷ 5 ∷ []) (4 ∷ []) ∷ []

abbrev pub organ_parts : List Part
organ_parts =
    part (0 ∷ 1 ∷ 3 ∷ []) (to (0 ∷ []) (1 ∷ []) ∷ to (0 ∷ []) (3 ∷ []) ∷ [])
    ∷ part (1 ∷ 2 ∷ []) (to (1 ∷ []) (2 ∷ []) ∷ [])
    ∷ part (0 ∷ 4 ∷ 5 ∷ []) (to (4 ∷ 5 ∷ []) (0 ∷ []) ∷ to (0 ∷ 5 ∷ []) (4 ∷ []) ∷ [])
    ∷ []

abbrev pub too_wide : List Part
too_wide =
    part (0 ∷ 1 ∷ 2 ∷ 3 ∷ []) (to (0 ∷ []) (1 ∷ []) ∷ to (0 ∷ []) (3 ∷ []) ∷ to (1 ∷ []) (2 ∷ []) ∷ [])
    ∷ part (0 ∷ 4 ∷ 5 ∷ []) (to (4 ∷ 5 ∷ []) (0 ∷ []) ∷ to (0 ∷ 5 ∷ []) (4 ∷ []) ∷ [])
    ∷ []

abbrev pub too_loose : List Part
too_loose = part (0 ∷ 1 ∷ 3 ∷ []) (to (0 ∷ []) (1 ∷ []) ∷ to (0 ∷ []) (3 ∷ []) ∷ []) ∷ part (2 ∷ 4 ∷ 5 ∷ []) [] ∷ []

abbrev pub two_visits : List Row
two_visits = (0 ∷ 0 ∷ 0 ∷ 0 ∷ 0 ∷ 0 ∷ []) ∷ (1 ∷ 1 ∷ 1 ∷ 1 ∷ 0 ∷ 1 ∷ []) ∷ []

-- the closure of 1 is 1 2, of 0 is 0 1 2 3, and 0 5 fixes everything
abbrev pub OrganClosures : Type 0
OrganClosures =
    FixesJust organs (1 ∷ []) (1 ∷ 2 ∷ []) × FixesJust organs (0 ∷ []) (0 ∷ 1 ∷ 2 ∷ 3 ∷ []) × FixesJust organs (0 ∷ 5 ∷ []) (columns 0 6)

-- a tuner does not fix an organ: two visits obey all rules and break that one
abbrev pub TunerIsFree : Type 0
TunerIsFree =
    (Implied organs (to (4 ∷ []) (0 ∷ [])) → ⊥) × ObeysAll two_visits organs × (Obeys two_visits (to (4 ∷ []) (0 ∷ [])) → ⊥)

abbrev pub OrganCover : Type 0
OrganCover = Least organs organ_least

-- the keys are 0 5 and 4 5
abbrev pub OrganKeys : Type 0
OrganKeys = AllKeys organs (columns 0 6) ((0 ∷ 5 ∷ []) ∷ (4 ∷ 5 ∷ []) ∷ [])

abbrev pub OrganDesign : Type 0
OrganDesign = Proper 6 organs × Design 6 organs organ_parts

-- with the diocese beside the organ third normal form is the first condition that is missed; with parts that share nothing, joining
abbrev pub OrganMisses : Type 0
OrganMisses = FirstMissed 6 organs too_wide 5 × FirstMissed 6 organs too_loose 3
