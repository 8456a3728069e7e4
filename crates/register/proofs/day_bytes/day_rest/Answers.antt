use Rattle.std.proofs.Common.{◌≡◌, ℕ, ◌-◌, ◌*◌, ◌/◌, ◌<◌, ◌≤◌, true, false, length, take, drop, Some, None, Option, MatchOption, subst, arith, rules, tests}
use Rattle.std.specs.Option.{is_some}
use Rattle.register.proofs.ByteDays.{answered_fits, nothing_left, left_is, rest_ended, rest_none, rest_whole, rest_cut}
use Rattle.register.proofs.day_bytes.day_rest.Goals as goal

nothing_said : {A P : Type 0} (Q : A → Type 0) (o : Option A) → is_some o ≡ false → MatchOption o P Q → P
nothing_said Q None e said = said
nothing_said Q (Some a) e said = cc

something_said : {A : Type 0} (P : Type 0) (Q : A → Type 0) (o : Option A) → is_some o ≡ true → MatchOption o P Q → (a : A) × Q a
something_said P Q None e said = cc
something_said P Q (Some a) e said = (a, said)

pub returns-then-answered-bytes : goal.returns-then-answered-bytes
returns-then-answered-bytes c =
    nothing_left c.args.width.columns c.args.answered c.args.bytes.now
    (subst (λ (w : ℕ). length c.args.bytes.now / w < c.args.answered) c.deed_size-size.ensures c.if-answered-bytes.true)

pub overflow_mul-left : goal.overflow_mul-left
overflow_mul-left c =
    let h : c.args.answered * c.deed_size-size.result ≤ length c.args.bytes.now = answered_fits c.deed_size-size.result c.args.answered c.args.bytes.now c.if-answered-bytes.false in
    search rules

pub slice_bounds-left-count : goal.slice_bounds-left-count
slice_bounds-left-count c = omega (arith, answered_fits c.deed_size-size.result c.args.answered c.args.bytes.now c.if-answered-bytes.false)

pub slice_bounds-left-start : goal.slice_bounds-left-start
slice_bounds-left-start c = omega (arith, answered_fits c.deed_size-size.result c.args.answered c.args.bytes.now c.if-answered-bytes.false)

pub returns-in_default : goal.returns-in_default
returns-in_default c = rest_ended c.args.width.columns (take (length c.args.bytes.now - c.args.answered * c.deed_size-size.result) (drop (c.args.answered * c.deed_size-size.result) c.args.bytes.now)) _ (left_is c.args.width.columns c.deed_size-size.result c.args.answered c.args.bytes.now c.deed_size-size.ensures) (omega (arith, c.in_default.len_below))

pub returns-then-is_none : goal.returns-then-is_none
returns-then-is_none c =
    rest_none c.args.width.columns (take (length c.args.bytes.now - c.args.answered * c.deed_size-size.result) (drop (c.args.answered * c.deed_size-size.result) c.args.bytes.now)) _ (left_is c.args.width.columns c.deed_size-size.result c.args.answered c.args.bytes.now c.deed_size-size.ensures) (omega (arith, c.in-len1-up.len_at_least)) (nothing_said _ c.from_number.result c.if-is_none.ensures c.from_number.ensures)

pub returns-then-left-size : goal.returns-then-left-size
returns-then-left-size c =
    rest_whole c.args.width.columns (take (length c.args.bytes.now - c.args.answered * c.deed_size-size.result) (drop (c.args.answered * c.deed_size-size.result) c.args.bytes.now)) _ (left_is c.args.width.columns c.deed_size-size.result c.args.answered c.args.bytes.now c.deed_size-size.ensures) (omega (arith, c.in-len1-up.len_at_least)) (something_said _ _ c.from_number.result c.if-is_none.ensures c.from_number.ensures).1.0
    (omega (arith, c.deed_size-size.ensures, c.if-left-size.true))

pub returns : goal.returns
returns c =
    rest_cut c.args.width.columns (take (length c.args.bytes.now - c.args.answered * c.deed_size-size.result) (drop (c.args.answered * c.deed_size-size.result) c.args.bytes.now)) _ (left_is c.args.width.columns c.deed_size-size.result c.args.answered c.args.bytes.now c.deed_size-size.ensures) _ (search (rules, tests)) (omega (arith, c.in-len1-up.len_at_least)) (something_said _ _ c.from_number.result c.if-is_none.ensures c.from_number.ensures).1.0
    (omega (arith, c.deed_size-size.ensures, c.if-left-size.false))
