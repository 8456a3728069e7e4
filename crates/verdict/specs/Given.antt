-- What a design stands for that somebody else made, and when numbers are one.
use Rattle.std.specs.Prelude.{ℕ, ◌+◌, ◌*◌, ◌^◌, Bool, ◌&&◌, List, length, drop, nat_le, nat_lt, slice_index}
use Rattle.dependencies.specs.Tables.{Dep}
use Rattle.dependencies.specs.Layout.{rules_in}
use Rattle.schema.specs.Design.{Part}
use Rattle.columns.specs.Sets.{cols}
use Rattle.schema.specs.Layout.{parts_in, parts_fit, all_sets_fit, extent, extent_of_design}
use Rattle.verdict.specs.declared.own_rules.GivenPart.{GivenPart}
use Rattle.verdict.specs.declared.own_rules.OwnRules.{OwnRules}
use Rattle.verdict.specs.declared.given_design.GivenDesign.{GivenDesign}

-- the rules that are left
abbrev pub own_of : OwnRules → List Dep
own_of o = rules_in o.width.columns o.count o.numbers.now

-- the parts that are left
abbrev pub given_parts : GivenDesign → List Part
given_parts g = parts_in g.width.columns g.count g.numbers.now

-- the numbers do not end before the parts do, and no set names a column that is not there
abbrev pub is_readable : ℕ → List ℕ → Bool
is_readable n xs = nat_le (extent_of_design xs) (length xs) && parts_fit n (slice_index xs 0) (drop 1 xs)

-- what a part of them stands for
abbrev pub given_part : GivenPart → Part
given_part p = record { cols = cols p.set; rules = own_of p.rules }

-- the first k parts are there whole, and name columns of the table only
abbrev pub is_whole : ℕ → ℕ → List ℕ → Bool
is_whole n k xs = nat_le (extent k xs) (length xs) && parts_fit n k xs
