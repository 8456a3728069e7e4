use Rattle.verdict.proofs.ThirdDecided.{third_form_decided_lem}
use Rattle.verdict.proofs.theorems.third_form_decided.Goals as goal

pub returns : goal.returns
returns c = third_form_decided_lem
