use Rattle.std.proofs.Common.{◌≡◌, ℕ, ◌+◌, ◌/◌, ◌<◌, [], List, length, get_or, sym, refl, ap, ◌∙◌, subst, arith, length-append}
use Rattle.std.proofs.lemmas.Result.{err_from_is_err_and}
use Rattle.bounded.specs.Items.{items}
use Rattle.columns.specs.Cols.{set_in}
use Rattle.dependencies.specs.Tables.{Dep, is_proper}
use Rattle.dependencies.specs.Rules.{deps}
use Rattle.dependencies.proofs.Layouts.{Left, left_start, left_turn, left_bad, right_bad, left_end, left_at, right_at, pair_left, pair_right, deps_read, rules_proper}
use Rattle.dependencies.proofs.input.read_sets.Goals as goal

pub loop-i-init : goal.loop-i-init
unfolding deps
loop-i-init c = rw c.new-rules.ensures (left_start c.args.width.columns (length c.args.sets.now / 2) c.args.sets.now, refl)

pub returns-in_err-left : goal.returns-in_err-left
returns-in_err-left c =
    let xs = c.args.sets.now in
    let n = c.args.width.columns in
    let i = c.loop-i.i in
    let bad = c.in_err-left.ensures in
    let more : i < length xs / 2 = omega (arith, c.loop-i-test.true, c.as_chunks.ensures.front_len) in
    let left : get_or (get_or c.as_chunks.result.0.now i []) 0 0 ≡ left_at xs i
    = ap (λ (ps : List (List ℕ)). get_or (get_or ps i []) 0 0) c.as_chunks.ensures.front ∙ pair_left (length xs / 2) xs i more in
    let p = err_from_is_err_and c.from_residual.result c.from_residual.ensures.1 in
    rw (p.1, p.2) (left_bad n (length xs / 2) xs i _ c.loop-i.invariant.0 more (omega (arith, left, bad.0)) ∙ sym bad.1)

pub returns-in_err-right : goal.returns-in_err-right
returns-in_err-right c =
    let xs = c.args.sets.now in
    let n = c.args.width.columns in
    let i = c.loop-i.i in
    let good = c.in_ok-left.ensures in
    let bad = c.in_err-right.ensures in
    let more : i < length xs / 2 = omega (arith, c.loop-i-test.true, c.as_chunks.ensures.front_len) in
    let left : get_or (get_or c.as_chunks.result.0.now i []) 0 0 ≡ left_at xs i
    = ap (λ (ps : List (List ℕ)). get_or (get_or ps i []) 0 0) c.as_chunks.ensures.front ∙ pair_left (length xs / 2) xs i more in
    let right : get_or (get_or c.as_chunks.result.0.now i []) 1 0 ≡ right_at xs i
    = ap (λ (ps : List (List ℕ)). get_or (get_or ps i []) 1 0) c.as_chunks.ensures.front ∙ pair_right (length xs / 2) xs i more in
    let p = err_from_is_err_and c.from_residual-in_err-right.result c.from_residual-in_err-right.ensures.1 in
    rw (p.1, p.2)
    (right_bad n (length xs / 2) xs i _ c.loop-i.invariant.0 more (omega (arith, left, good.0)) (omega (arith, right, bad.0)) ∙ sym bad.1)

pub loop-i-preserved : goal.loop-i-preserved
loop-i-preserved c =
    let xs = c.args.sets.now in
    let n = c.args.width.columns in
    let i = c.loop-i.i in
    let a = c.in_ok-left.ensures in
    let b = c.in_ok-right.ensures in
    let more : i < length xs / 2 = omega (arith, c.loop-i-test.true, c.as_chunks.ensures.front_len) in
    let left : get_or (get_or c.as_chunks.result.0.now i []) 0 0 ≡ left_at xs i
    = ap (λ (ps : List (List ℕ)). get_or (get_or ps i []) 0 0) c.as_chunks.ensures.front ∙ pair_left (length xs / 2) xs i more in
    let right : get_or (get_or c.as_chunks.result.0.now i []) 1 0 ≡ right_at xs i
    = ap (λ (ps : List (List ℕ)). get_or (get_or ps i []) 1 0) c.as_chunks.ensures.front ∙ pair_right (length xs / 2) xs i more in (
      subst (λ (z : List Dep). Left n (length xs / 2) xs (i + 1) z)
          (deps_read n xs i (items c.loop-i.rules) (items c.push.new.self) c.in_ok-left.left c.in_ok-right.right (a.1 ∙ ap (set_in 0 n) left) (b.1 ∙ ap (set_in 0 n) right) c.push.ensures)
          (left_turn n (length xs / 2) xs i (deps (items c.loop-i.rules)) c.loop-i.invariant.0 more (omega (arith, left, a.0)) (omega (arith, right, b.0))),
      ap length c.push.ensures ∙ length-append (items c.loop-i.rules) _ ∙ ap (λ (k : ℕ). k + 1) c.loop-i.invariant.1,
    )

pub invariant_of-result : goal.invariant_of-result
invariant_of-result c =
    let n = c.args.width.columns in
    let xs = c.args.sets.now in
    let all = left_end n (length xs / 2) xs c.loop-i.i _ c.loop-i.invariant.0 (omega (arith, c.loop-i-test.false, c.as_chunks.ensures.front_len)) in
    record { proper = ap (is_proper n) all.1 ∙ rules_proper n (length xs / 2) xs }

pub returns : goal.returns
returns c =
    let xs = c.args.sets.now in
    let all = left_end c.args.width.columns (length xs / 2) xs c.loop-i.i _ c.loop-i.invariant.0 (omega (arith, c.loop-i-test.false, c.as_chunks.ensures.front_len)) in
    (all.0, refl, omega (arith, c.loop-i.invariant.1, c.loop-i-test.false, c.loop-i.auto.i-end, c.as_chunks.ensures.front_len), all.1)
