use Rattle.std.proofs.Common.{◌≡◌, ℕ, List, take, sym, ap, ◌∙◌, rules}
use Rattle.dependencies.specs.Bytes.{row_of_bytes}
use Rattle.parts.specs.Answers.{opening, columns_after}
use Rattle.register.proofs.ByteKept.{columns_read, opening_read, byte_day}
use Rattle.register.proofs.register.Register.keep_day_from_bytes.Goals as goal

pub returns-in_err-width-clause-told : goal.returns-in_err-width-clause-told
returns-in_err-width-clause-told c =
    let read = opening_read c.args.bytes.now c.numbers.result.now c.args.self.now.design.now (c.numbers.ensures ∙ c.rule_row-row.ensures) in
    let refused = sym c.in_err-width.ensures ∙ read in
    search rules

pub returns : goal.returns
returns c =
    let bs = c.args.bytes.now in
    let d = c.args.self.now.design.now in
    let one : c.numbers.result.now ≡ take 66 (row_of_bytes bs) = c.numbers.ensures ∙ c.rule_row-row.ensures in
    let two : c.numbers-2.result.now ≡ take 66 (row_of_bytes bs) = c.numbers-2.ensures ∙ c.rule_row-row.ensures in
    let n = columns_read bs c.numbers-2.result.now two in
    record {
      told = c.keep_day.ensures.told ∙ opening_read bs c.numbers-2.result.now d two;
      says =
          byte_day _ d c.args.self.now.cells.now c.keep_day.new.self.cells.now _ c.args.deeds.now c.deeds_from_bytes-count.new.deeds c.args.answers.now c.keep_day.new.answers
          c.in_ok-width.width.columns _ c.columns.result c.deeds_from_bytes-count.result c.behind_rules.result.now c.keep_day.result (c.in_ok-width.ensures.1 ∙ columns_read bs c.numbers.result.now one) n
          c.columns.ensures c.behind_rules.ensures c.deeds_from_bytes-count.ensures.count c.deeds_from_bytes-count.ensures.read
          (c.keep_day.ensures.told ∙ ap (λ (xs : List ℕ). opening xs d) (two ∙ sym one) ∙ c.in_ok-width.ensures.0) c.keep_day.ensures.says;
      width = c.keep_day.ensures.width ∙ ap (λ (k : ℕ). columns_after k c.args.self.now.columns c.keep_day.result) n;
      plan = c.keep_day.ensures.plan;
    }
