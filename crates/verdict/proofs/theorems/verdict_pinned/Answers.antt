use Rattle.verdict.proofs.Verdicts.{verdict_pinned_lem}
use Rattle.verdict.proofs.theorems.verdict_pinned.Goals as goal

pub returns : goal.returns
returns c = verdict_pinned_lem
