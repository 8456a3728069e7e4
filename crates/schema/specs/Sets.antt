-- Lists of sets of columns of which none lies inside another.
use Rattle.std.specs.Prelude.{Bool, List, [], ◌∷◌, ◌++◌}
use Rattle.bounded.specs.Items.{items}
use Rattle.columns.specs.Cols.{Cols, all_in, pick}
use Rattle.columns.specs.Every.{any}
use Rattle.columns.specs.Sets.{cols}
use Rattle.columns.specs.declared.set.ColumnSet.{ColumnSet}
use Rattle.schema.specs.Sides.{others}
use Rattle.schema.specs.declared.part_sets.PartSets.{PartSets}

unfoldable pub sets_of : List ColumnSet → List Cols
sets_of [] = []
sets_of (s ∷ ss) = cols s ∷ sets_of ss

-- the sets that it holds
abbrev pub sets_in : PartSets → List ColumnSet
sets_in p = items p.sets

-- the set lies inside one of the others
abbrev pub is_set_held : List ColumnSet → ColumnSet → Bool
is_set_held ss x = any ss (λ s. all_in (cols x) (cols s))

-- the sets that do not lie inside x
abbrev pub outside : List ColumnSet → ColumnSet → List ColumnSet
outside ss x = others (λ s. all_in (cols s) (cols x)) ss

-- one set more: if it lies inside one of them, nothing changes; else it takes the place of those that lie inside it
abbrev pub with_set : List ColumnSet → ColumnSet → List ColumnSet
with_set ss x = pick (is_set_held ss x) ss (outside ss x ++ x ∷ [])
