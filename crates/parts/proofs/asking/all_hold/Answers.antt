use Rattle.std.proofs.Common.{List, ap₂, ◌∙◌, rules, tests}
use Rattle.std.proofs.lemmas.Iterator.Search.{all_from_yields_List}
use Rattle.schema.specs.Design.{Part}
use Rattle.parts.specs.Day.{Held, holds, all_hold}
use Rattle.parts.specs.Left.{walk_parts, held_left}
use Rattle.parts.proofs.Walks.{pairs_hold, walks_pairs}
use Rattle.parts.proofs.asking.all_hold.Goals as goal

pub returns : goal.returns
returns c =
    let row = c.args.row.now in
    let walk = c.walk.result in
    all_from_yields_List (λ it. holds it.0.cols row it.1) c.all.new.self _ _ c.all.ensures.ran (walks_pairs walk) (λ x b q k. search (rules, tests))
    ∙ pairs_hold row (walk_parts walk) (held_left walk)
    ∙ ap₂ (λ (ps : List Part) (hs : List (List Held)). all_hold ps hs row) c.walk.ensures.parts c.walk.ensures.held
