-- The deed that a kind of deed is with a row.
use Rattle.dependencies.specs.Tables.{Row}
use Rattle.parts.specs.Day.{Deed, insert, remove}
use Rattle.register.specs.declared.deed_kind_type.DeedKind.{DeedKind}
use Rattle.register.specs.declared.deed_kind_type.DeedKind.TheVariants.{PutIn, TakeOut}

abbrev pub asks : DeedKind → Row → Deed
asks PutIn r = insert r
asks TakeOut r = remove r
