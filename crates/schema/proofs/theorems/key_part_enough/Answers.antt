use Rattle.schema.proofs.Lossless.{key_part_enough_lem}
use Rattle.schema.proofs.theorems.key_part_enough.Goals as goal

pub returns : goal.returns
returns c = key_part_enough_lem
