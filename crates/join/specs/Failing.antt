-- Where parts are not joined: as the opening of the register tells, or for want of memory, which is told only where nothing else is.
use Rattle.std.specs.Prelude.{◌≡◌}
use Rattle.dependencies.specs.Told.{Told, done, told}
use Rattle.join.specs.declared.failure.JoinFailure.{JoinFailure}
use Rattle.join.specs.declared.failure.JoinFailure.TheVariants.{Refused, NoMemory}

abbrev pub JoinFails : Told → JoinFailure → Type 0
JoinFails t (Refused e) = t ≡ told e
JoinFails t NoMemory = t ≡ done
