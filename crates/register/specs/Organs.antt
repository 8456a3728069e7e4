-- Organs and tuners, in one table. Columns: 0 organ, 1 parish, 2 diocese, 3 builder, 4 tuner, 5 day.
use Rattle.std.specs.Prelude.{◌≡◌, true, false, List, [], ◌∷◌}
use Rattle.dependencies.specs.Tables.{Dep}
use Rattle.parts.specs.Day.{Deed, insert, remove, whole_day}

-- 0 fixes 1 and 3; 1 fixes 2; 4 and 5 fix 0; 0 and 5 fix 4
abbrev pub organ_rules : List Dep
organ_rules =
    record { left = 0 ∷ []; right = 1 ∷ 3 ∷ [] } ∷ record { left = 1 ∷ []; right = 2 ∷ [] } ∷ record { left = 4 ∷ 5 ∷ []; right = 0 ∷ [] }
    ∷ record { left = 0 ∷ 5 ∷ []; right = 4 ∷ [] } ∷ []

abbrev pub organ_deeds : List Deed
organ_deeds =
    insert (10 ∷ 1 ∷ 100 ∷ 7 ∷ 50 ∷ 3 ∷ []) ∷ insert (10 ∷ 1 ∷ 100 ∷ 7 ∷ 50 ∷ 3 ∷ []) ∷ insert (10 ∷ 1 ∷ 100 ∷ 7 ∷ 51 ∷ 4 ∷ [])
    ∷ insert (10 ∷ 2 ∷ 100 ∷ 7 ∷ 50 ∷ 5 ∷ []) ∷ insert (11 ∷ 1 ∷ 101 ∷ 8 ∷ 52 ∷ 3 ∷ []) ∷ insert (11 ∷ 1 ∷ 100 ∷ 8 ∷ 50 ∷ 3 ∷ [])
    ∷ insert (11 ∷ 1 ∷ 100 ∷ 8 ∷ 52 ∷ 3 ∷ []) ∷ remove (10 ∷ 1 ∷ 100 ∷ 7 ∷ 50 ∷ 3 ∷ []) ∷ insert (10 ∷ 2 ∷ 100 ∷ 7 ∷ 50 ∷ 5 ∷ [])
    ∷ remove (10 ∷ 1 ∷ 100 ∷ 7 ∷ 51 ∷ 4 ∷ []) ∷ insert (10 ∷ 2 ∷ 100 ∷ 7 ∷ 50 ∷ 5 ∷ []) ∷ []

-- which deeds of the organs' day the one table takes
unfoldable pub OrgansDay : Type 0
OrgansDay =
    whole_day 6 organ_rules [] organ_deeds ≡ true ∷ false ∷ true ∷ false ∷ false ∷ false ∷ true ∷ true ∷ false ∷ true ∷ true ∷ []
