use Rattle.std.proofs.Common.{◌+◌, ◌*◌, length, get_or, sym, ◌∙◌, arith}
use Rattle.std.proofs.lemmas.List.{take_rest, drop_all}
use Rattle.register.proofs.ByteDays.{drop_min}
use Rattle.register.proofs.day_bytes.behind_rules.Goals as goal

pub returns-then-bytes-lt2 : goal.returns-then-bytes-lt2
returns-then-bytes-lt2 c =
    let bs = c.args.bytes.now in
    take_rest bs (length bs) ∙ drop_all (length bs) bs (omega arith) ∙ sym (drop_all (2 + 4 * get_or bs 1 0) bs (omega arith))

pub returns : goal.returns
returns c =
    let bs = c.args.bytes.now in
    take_rest bs c.min.result ∙ drop_min bs (2 + 4 * get_or bs 1 0) c.min.result c.min.ensures
