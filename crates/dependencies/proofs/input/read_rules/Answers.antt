use Rattle.std.proofs.Common.{◌≡◌, ℕ, ◌+◌, ◌-◌, ◌*◌, ◌/◌, true, false, length, take, drop, ap, arith, length-take, length-drop}
use Rattle.std.proofs.lemmas.Option.{MatchOption-at_some}
use Rattle.columns.specs.declared.table_width.Width.{Width}
use Rattle.dependencies.specs.Layout.{columns_of, width_ok}
use Rattle.dependencies.proofs.ByteRows.{reads_whole}
use Rattle.dependencies.proofs.input.read_rules.Goals as goal

pub returns : goal.returns
returns c =
    let xs = c.args.lent.now in
    let width : Width = c.in_ok-width.width in
    let k = c.in_ok-count.count in
    let wide = MatchOption-at_some (width_ok xs ≡ false) (λ w. (width_ok xs ≡ true) × (w.columns ≡ columns_of xs)) width c.in_ok-width.ensures.ok_part c.width_in.ensures in
    let whole = c.in_ok-count.ensures in
    let two : 2 + 2 * k - 2 ≡ 2 * k = omega arith in
    let all : length (take (2 + 2 * k - 2) (drop 2 xs)) / 2 ≡ k = omega (arith, length-take (2 + 2 * k - 2) (drop 2 xs), length-drop 2 xs, whole.3) in
    reads_whole xs _ width.columns k wide.0 wide.1 whole.0 whole.1 (ap (λ (j : ℕ). take j (drop 2 xs)) two) all c.read_sets.result c.read_sets.ensures
