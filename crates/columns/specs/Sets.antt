-- What a ColumnSet means: the list of its columns, rising.
use Rattle.columns.specs.Cols.{Cols, set_in}
use Rattle.columns.specs.declared.set.ColumnSet.{ColumnSet}

unfoldable pub cols : ColumnSet → Cols
cols s = set_in 0 16 s.bits
