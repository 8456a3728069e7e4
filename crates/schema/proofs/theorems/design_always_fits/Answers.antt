use Rattle.schema.proofs.AlwaysOne.{always_fits}
use Rattle.schema.proofs.theorems.design_always_fits.Goals as goal

pub returns : goal.returns
returns c = always_fits
