use Rattle.std.proofs.Common.{◌≡◌, ℕ, ◌+◌, ◌-◌, ◌*◌, min, List, length, get_or, take, drop, set, sym, ap, ◌∙◌, arith}
use Rattle.std.proofs.lemmas.List.{take_rest, drop-drop, length-drop}
use Rattle.dependencies.specs.Bytes.{sets_in_bytes}
use Rattle.dependencies.specs.Lent.{put_list}
use Rattle.verdict.proofs.DesignRows.{Read, own_bytes, none_of_bytes, reading_on, reading_ends, reading_done}
use Rattle.verdict.proofs.design_bytes.design_from_bytes.Goals as goal

pub returns-in_default : goal.returns-in_default
unfolding put_list
returns-in_default c =
    let bs = c.args.bytes.now in
    let none = none_of_bytes bs c.in_default.len_below in
    record {
      written = ap (λ (v : List ℕ). put_list c.args.row.now 0 v) (sym none);
      count = ap length (sym none);
      few = omega arith;
    }

pub returns-in_default-left : goal.returns-in_default-left
returns-in_default-left c =
    let r : Read c.args.bytes.now c.args.row.now c.loop.row c.loop.at
    = reading_ends c.args.bytes.now c.put.new.row c.loop.counter c.loop.at c.loop.left.now c.loop.row c.loop.invariant c.args.row.now
    c.put.ensures c.in-len1-up.len_at_least c.in_default-left.len_below in
    record { written = r.written; count = r.count; few = r.few }

pub loop-preserved : goal.loop-preserved
loop-preserved c =
    let left = c.loop.left.now in
    let at = c.loop.at in
    let size = c.min-size.result in
    let others = take (length left - 3) (drop 3 left) in
    let rest = take_rest left 3 in
    let same : size ≡ own_bytes left = c.min-size.ensures ∙ ap (λ (k : ℕ). min (4 * get_or left 2 0) k) (ap length rest ∙ length-drop 3 left) in
    let row : List ℕ = c.loop.row in
    let own : ℕ = get_or left 2 0 in
    let pair : ℕ = get_or left 0 0 + 256 * get_or left 1 0 in
    let low_high : c.from_le_bytes.result ≡ pair = c.from_le_bytes.ensures ∙ omega arith in
    let front : c.put-in-loop-2.new.row ≡ set (set row at pair) (at + 1) own
    = c.put-in-loop-2.ensures ∙ ap (λ (v : List ℕ). set v (at + 1) own) (c.put-in-loop.ensures ∙ ap (λ (k : ℕ). set row at k) low_high) in
    reading_on c.args.bytes.now c.put.new.row c.loop.counter at left c.loop.row c.loop.invariant c.loop-test.true c.in-len3-up.len_at_least
    size _ c.put_sets.new.row same
    (take_rest others size ∙ ap (drop size) rest ∙ drop-drop size 3 left ∙ ap (λ (k : ℕ). drop (3 + k) left) same)
    (c.put_sets.ensures
    ∙ ap (λ (v : List ℕ). put_list v (at + 2) (sets_in_bytes (take size others))) front
    ∙ ap (λ (v : List ℕ). put_list (set (set row at pair) (at + 1) own) (at + 2) (sets_in_bytes (take size v))) rest
    ∙ ap (λ (k : ℕ). put_list (set (set row at pair) (at + 1) own) (at + 2) (sets_in_bytes (take k (drop 3 left)))) same)

pub returns : goal.returns
returns c =
    let r : Read c.args.bytes.now c.args.row.now c.loop.row c.loop.at
    = reading_done c.args.bytes.now c.put.new.row c.loop.counter c.loop.at c.loop.left.now c.loop.row c.loop.invariant c.args.row.now
    c.put.ensures c.in-len1-up.len_at_least c.loop-test.false in
    record { written = r.written; count = r.count; few = r.few }
