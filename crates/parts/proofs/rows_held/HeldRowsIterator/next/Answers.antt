use Rattle.std.proofs.Common.{refl, ap, length, arith, rules}
use Rattle.parts.proofs.Turns.{no_rows, rows_end, rows_turn}
use Rattle.parts.proofs.rows_held.HeldRowsIterator.next.Goals as goal

pub returns-then-room-eq0-clause-steps : goal.returns-then-room-eq0-clause-steps
returns-then-room-eq0-clause-steps c =
    let rows = c.args.self.now.rows in
    (no_rows rows.width.columns rows.room rows.cells.now c.if-room-eq0.true, refl)

pub returns-then-row-n-eq0-clause-steps : goal.returns-then-row-n-eq0-clause-steps
returns-then-row-n-eq0-clause-steps c =
    let rows = c.args.self.now.rows in
    (rows_end rows.width.columns c.columns-n.result rows.room rows.cells.now c.split_at.result.0.now c.columns-n.ensures c.split_at.ensures.front c.if-row-n-eq0.true, refl)

pub returns-clause-steps : goal.returns-clause-steps
returns-clause-steps c =
    let rows = c.args.self.now.rows in (
      rows_turn rows.width.columns c.columns-n.result rows.room rows.cells.now c.split_at.result.0.now c.columns-n.ensures c.split_at.ensures.front c.split_at.result.1.now c.split_at.ensures.back (omega arith) c.if-row-n-eq0.false,
      refl,
      refl,
    )

pub returns-clause-goes : goal.returns-clause-goes
returns-clause-goes c =
    let rows = c.args.self.now.rows in
    let fewer = ap length
    (rows_turn rows.width.columns c.columns-n.result rows.room rows.cells.now c.split_at.result.0.now c.columns-n.ensures c.split_at.ensures.front c.split_at.result.1.now c.split_at.ensures.back (omega arith) c.if-row-n-eq0.false) in
    search rules
