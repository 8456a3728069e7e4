use Rattle.std.proofs.Common.{ℕ, List, ◌∙◌, subst}
use Rattle.dependencies.specs.Bytes.{row_of_bytes}
use Rattle.dependencies.specs.Reads.{Reads}
use Rattle.dependencies.proofs.ByteRows.{reads_cut}
use Rattle.dependencies.proofs.bytes.rules_from_bytes.Goals as goal

pub returns : goal.returns
returns c =
    reads_cut (row_of_bytes c.args.bytes.now) c.read_rules.result
    (subst (λ (xs : List ℕ). Reads xs c.read_rules.result) (c.numbers.ensures ∙ c.rule_row-row.ensures) c.read_rules.ensures)
