use Rattle.std.proofs.Common.{◌≡◌, ℕ, ◌+◌, ◌*◌, refl, ap, ◌∙◌}
use Rattle.parts.proofs.Walks.{held_turn}
use Rattle.parts.proofs.walking.PartWalkIterator.next.Goals as goal

pub returns-clause-steps : goal.returns-clause-steps
returns-clause-steps c =
    let walk = c.args.self.now in
    let given = c.in_ok-part.ensures.steps in
    let wide : c.columns.result ≡ walk.parts.width.columns = c.columns.ensures ∙ given.width in
    let size = ap (λ (k : ℕ). walk.room * (k + 1)) wide in
    record {
      given = given;
      held = held_turn walk.parts.width.columns walk.room walk.parts.count walk.parts.place (walk.room * (c.columns.result + 1)) walk.cells.now c.split_at.result.0.now c.split_at.result.1.now _ _ _ _
          given.here size c.split_at.ensures.front c.split_at.ensures.back given.width given.same given.count given.next;
      room = refl;
      same = refl;
    }
