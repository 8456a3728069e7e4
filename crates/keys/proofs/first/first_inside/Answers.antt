use Rattle.dependencies.specs.Rules.{deps}
use Rattle.keys.proofs.Entire.{first_entire}
use Rattle.keys.proofs.first.first_inside.Goals as goal

pub returns : goal.returns
returns c =
    let w = c.whole.ensures in
    first_entire (deps c.args.rules.now) c.whole.result c.args.target w.0 w.1 w.2 c.first_in.result c.first_in.ensures
