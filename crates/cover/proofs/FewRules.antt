-- A cover holds few rules.
use Rattle.std.proofs.Common.{◌≤◌, length}
use Rattle.bounded.proofs.Few.{few_items}
use Rattle.cover.specs.Held.{cover_rules}
use Rattle.cover.specs.declared.held.Cover.{Cover}

pub few_cover : (t : Cover) → length (cover_rules t) ≤ 512
few_cover t = few_items t.rules
