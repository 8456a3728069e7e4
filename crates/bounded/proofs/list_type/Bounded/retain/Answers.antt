use Rattle.std.proofs.Common.{◌≡◌, ◌+◌, ◌<◌, true, false, length, take, drop, get_or, refl, sym, ap, ◌∙◌, arith}
use Rattle.bounded.specs.declared.list_type.Bounded.{Bounded}
use Rattle.bounded.proofs.Kept.{ahead_more, ahead_written, kept_more, left_out}
use Rattle.bounded.proofs.list_type.Bounded.retain.Goals.{then-keep, else-keep}
use Rattle.bounded.proofs.list_type.Bounded.retain.Goals as goal

pub loop-i-preserved : goal.loop-i-preserved
loop-i-preserved g c =
    let all = c.args.self.now.cells in
    let xs = c.loop-i.self.cells in
    let i = c.loop-i.i in
    let x = get_or xs i c.index-self-i.result in
    let here : x ≡ get_or xs i x = ap (get_or xs i) c.index-self-i.is in
    let so = c.loop-i.invariant in
    let inside : i < length xs = omega arith in
    elim c.if-keep.branch [
      | then-keep w ↦ record {
        front = (λ test computes.
            let said : test x ≡ true = sym (computes x c.keep.result (record { shown = _; shows = refl; says = record { met = c.keep.ensures } })) ∙ w.if-keep.true in
            rw w.kept-is (ap (λ (b : Bounded _ _). take (c.loop-i.kept + 1) b.cells) w.self-is ∙ kept_more all xs i x so.ahead inside here test c.loop-i.kept (so.front test computes) so.low said));
        low = rw w.kept-is (omega (arith, so.low));
        ahead = ap (λ (b : Bounded _ _). drop (i + 1) b.cells) w.self-is ∙ ahead_written all xs i x so.ahead inside here c.loop-i.kept so.low;
        same = ap (λ (b : Bounded _ _). b.count) w.self-is ∙ so.same;
      }
      | else-keep w ↦ record {
        front = (λ test computes.
            let said : test x ≡ false = sym (computes x c.keep.result (record { shown = _; shows = refl; says = record { met = c.keep.ensures } })) ∙ w.if-keep.false in
            rw w.self-is rw w.kept-is (left_out all xs i x so.ahead inside here test c.loop-i.kept (so.front test computes) said));
        low = rw w.kept-is (omega (arith, so.low));
        ahead = rw w.self-is (ahead_more all xs i x so.ahead inside here);
        same = rw w.self-is so.same;
      }
    ]
