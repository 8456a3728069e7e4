use Rattle.std.proofs.Common.{length}
use Rattle.columns.specs.Sets.{cols}
use Rattle.keys.proofs.first.+first_in.Given as goal

abbrev pub decreases-first_in : goal.decreases-first_in
decreases-first_in l = length (cols l.branch.free)
