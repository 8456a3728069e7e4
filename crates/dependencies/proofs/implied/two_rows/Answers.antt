use Rattle.std.proofs.Common.{ℕ, List, take, ap, ◌∙◌}
use Rattle.columns.specs.Cols.{pick, has}
use Rattle.columns.specs.Sets.{cols}
use Rattle.dependencies.proofs.Differing.{zeros}
use Rattle.dependencies.proofs.Drawn.{take_draw}
use Rattle.dependencies.proofs.implied.two_rows.Goals as goal

pub returns : goal.returns
returns c n l =
    (zeros n l, ap (λ (xs : List ℕ). take n xs) c.row_apart.ensures ∙ take_draw (λ d. pick (has (cols c.args.agree) d) 0 1) 0 n 16 l)
