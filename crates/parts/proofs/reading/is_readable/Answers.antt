use Rattle.std.proofs.Common.{◌≡◌, ℕ, ◌+◌, ◌-◌, ◌*◌, ◌<◌, ◌≤◌, Bool, true, ◌&&◌, List, length, get_or, take, drop, sym, refl, ap, ◌∙◌, ap₂, arith, length-drop, length-take, rules, tests}
use Rattle.std.proofs.lemmas.List.{take_rest}
use Rattle.std.proofs.lemmas.Bool.{and_left}
use Rattle.parts.specs.Store.{whole_part, formed}
use Rattle.parts.proofs.Formed.{no_parts, too_many_parts, read_parts, formed_more, formed_none, nothing_lent}
use Rattle.parts.proofs.reading.is_readable.Goals as goal

-- without the part at the front
next : (n k p len : ℕ) (xs ys : List ℕ) (b : Bool) → p < k → whole_part n xs ≡ true → len ≡ 2 + 2 * get_or xs 1 0 → ys ≡ take (length xs - len) (drop len xs)
    → formed n (k - p) xs ≡ b → formed n (k - (p + 1)) ys ≡ b
next n k p len xs ys b l w e q inv =
    let m : k - (p + 1) ≡ k - p - 1 = omega arith in
    ap₂ (λ (a : ℕ) (z : List ℕ). formed n a z) m (q ∙ take_rest xs len ∙ ap (λ (a : ℕ). drop a xs) e)
    ∙ sym (formed_more n (k - p) xs (omega arith) ∙ ap (λ (t : Bool). t && formed n (k - p - 1) (drop (2 + 2 * get_or xs 1 0) xs)) w) ∙ inv

pub returns-in_default : goal.returns-in_default
returns-in_default c = no_parts c.args.width.columns c.args.design.now (nothing_lent c.args.design.now (omega (arith, tests)))

pub returns-in_default-2 : goal.returns-in_default-2
returns-in_default-2 c = no_parts c.args.width.columns c.args.design.now (omega arith)

pub returns-in_default-3 : goal.returns-in_default-3
returns-in_default-3 c = too_many_parts c.args.width.columns c.args.design.now (omega arith)

pub loop-init : goal.loop-init
loop-init c =
    let z : get_or c.args.design.now 0 0 - 0 ≡ get_or c.args.design.now 0 0 = omega arith in
    (simp (length-take, length-drop) (omega arith), ap₂ (λ (k : ℕ) (xs : List ℕ). formed c.args.width.columns k xs) z (take_rest c.args.design.now 1))

pub returns-in_default-part_len : goal.returns-in_default-part_len
returns-in_default-part_len c =
    sym (read_parts c.args.width.columns c.args.design.now (omega arith) (omega arith) ∙ sym c.loop.invariant.1
    ∙ formed_more c.args.width.columns (get_or c.args.design.now 0 0 - c.loop.counter) c.loop.rest.now (omega arith) ∙ and_left _ _ c.in_default-part_len.ensures)

pub loop-preserved : goal.loop-preserved
loop-preserved c = (
  simp (length-take, length-drop) (omega (arith, c.loop.invariant.0)),
  next c.args.width.columns (get_or c.args.design.now 0 0) c.loop.counter c.in-Some.len c.loop.rest.now _ _ (omega arith) c.in-Some.ensures.0 c.in-Some.ensures.1 refl c.loop.invariant.1,
)

pub returns : goal.returns
returns c =
    sym (read_parts c.args.width.columns c.args.design.now (omega arith) (omega arith) ∙ sym c.loop.invariant.1
    ∙ formed_none c.args.width.columns (get_or c.args.design.now 0 0 - c.loop.counter) c.loop.rest.now (omega arith))

pub offset_bounds-rest-len : goal.offset_bounds-rest-len
offset_bounds-rest-len c = let h : c.in-Some.len ≤ length c.loop.rest.now = c.in-Some.ensures.2 in
    let m : c.in-Some.len ≤ length c.args.design.now = omega (arith, c.loop.invariant.0) in search rules
