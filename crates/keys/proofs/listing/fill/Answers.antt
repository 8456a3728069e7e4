use Rattle.dependencies.specs.Rules.{deps}
use Rattle.keys.proofs.Written.{filled}
use Rattle.keys.proofs.listing.fill.Goals as goal

pub returns : goal.returns
returns c =
    let w = c.whole.ensures in
    filled (deps c.args.rules.now) c.whole.result c.args.target w.0 w.1 w.2 c.args.out.now c.walk.result c.walk.new.out c.walk.ensures
