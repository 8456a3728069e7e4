use Rattle.std.proofs.Common.{length}
use Rattle.columns.specs.Sets.{cols}
use Rattle.keys.proofs.listing.+walk.Given as goal

abbrev pub decreases-walk : goal.decreases-walk
decreases-walk l = length (cols l.branch.free)
