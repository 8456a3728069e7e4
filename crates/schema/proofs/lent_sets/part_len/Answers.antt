use Rattle.std.proofs.Common.{◌≡◌, ℕ, ◌+◌, ◌-◌, ◌*◌, ◌^◌, ◌≤◌, true, false, Bool, leb, ltb, ◌&&◌, List, length, get_or, take, drop, refl, sym, ap, ◌∙◌, arith}
use Rattle.std.proofs.lemmas.Bool.{and_from, le-leb, lt-ltb}
use Rattle.schema.specs.Layout.{all_sets_fit}
use Rattle.schema.proofs.FittingSets.{fit_behind}
use Rattle.schema.proofs.lent_sets.part_len.Goals as goal

-- the sets of a part that is len numbers long
sets_behind : (n k len : ℕ) (xs : List ℕ) → len ≡ 2 + 2 * k → len ≤ length xs
    → all_sets_fit n (length (take (len - 2) (drop 2 xs))) (take (len - 2) (drop 2 xs)) ≡ all_sets_fit n (2 * k) (drop 2 xs)
sets_behind n k len xs e l =
    ap (λ (j : ℕ). all_sets_fit n (length (take (j - 2) (drop 2 xs))) (take (j - 2) (drop 2 xs))) e ∙ fit_behind n (2 * k) xs (omega (arith, e, l))

and_last : (a b : Bool) → (a && (b && false)) ≡ false
and_last true true = refl
and_last true false = refl
and_last false b = refl

pub returns-then-not-sets_fit : goal.returns-then-not-sets_fit
returns-then-not-sets_fit c =
    let n = c.args.width.columns in
    let xs = c.args.numbers.now in
    let k = get_or xs 1 0 in
    let none : all_sets_fit n (2 * k) (drop 2 xs) ≡ false
    = sym (c.if-not-sets_fit.ensures ∙ sets_behind n k c.in_ok-len.len xs c.in_ok-len.ensures.0 c.in_ok-len.ensures.1) in
    ap (λ (b : Bool). leb (2 + 2 * k) (length xs) && (ltb (get_or xs 0 0) (2 ^ n) && b)) none ∙ and_last _ _

pub returns : goal.returns
returns c =
    let n = c.args.width.columns in
    let xs = c.args.numbers.now in
    let k = get_or xs 1 0 in
    let fit : all_sets_fit n (2 * k) (drop 2 xs) ≡ true
    = sym (c.if-not-sets_fit.ensures ∙ sets_behind n k c.in_ok-len.len xs c.in_ok-len.ensures.0 c.in_ok-len.ensures.1) in
    let whole = le-leb (2 + 2 * k) (length xs) (omega (arith, c.in_ok-len.ensures)) in (
      and_from (leb (2 + 2 * k) (length xs)) (ltb (get_or xs 0 0) (2 ^ n) && all_sets_fit n (2 * k) (drop 2 xs)) whole
          (and_from (ltb (get_or xs 0 0) (2 ^ n)) (all_sets_fit n (2 * k) (drop 2 xs)) (lt-ltb (get_or xs 0 0) (2 ^ n) c.in_ok-from_bits.ensures.0) fit),
      c.in_ok-len.ensures.0,
      c.in_ok-len.ensures.1,
    )
