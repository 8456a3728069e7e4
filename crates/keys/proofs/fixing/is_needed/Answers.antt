use Rattle.std.proofs.Common.{◌≡◌, ℕ, Bool, true, false, not, sym, ap, ◌∙◌}
use Rattle.columns.specs.Cols.{less}
use Rattle.columns.specs.Every.{every}
use Rattle.columns.specs.Sets.{cols}
use Rattle.dependencies.specs.Closure.{does_fix}
use Rattle.dependencies.specs.Rules.{deps}
use Rattle.keys.proofs.Sparing.{fixes_less, every_on, every_stops}
use Rattle.keys.proofs.fixing.is_needed.Goals as goal

pub loop-c-preserved : goal.loop-c-preserved
loop-c-preserved c =
    let ds = deps c.args.rules.now in
    let s = cols c.args.left in
    let p = cols c.args.right in
    let f : ℕ → Bool = λ a. not (does_fix ds (less s a) p) in
    let i = c.in-Some.c.index in
    let h : f i ≡ true = ap not (sym (fixes_less ds p s (cols c.without.result) i c.without.ensures) ∙ sym c.if-fixes.ensures) in
    c.loop-c.invariant ∙ every_on (cols c.loop-c.rest) (cols c.take_first.new.self) i f c.in-Some.ensures h

pub returns-then-fixes : goal.returns-then-fixes
returns-then-fixes c =
    let ds = deps c.args.rules.now in
    let s = cols c.args.left in
    let p = cols c.args.right in
    let f : ℕ → Bool = λ a. not (does_fix ds (less s a) p) in
    let i = c.in-Some.c.index in
    let h : f i ≡ false = ap not (sym (fixes_less ds p s (cols c.without.result) i c.without.ensures) ∙ sym c.if-fixes.ensures) in
    sym (c.loop-c.invariant ∙ every_stops (cols c.loop-c.rest) (cols c.take_first.new.self) i f c.in-Some.ensures h)

pub returns : goal.returns
returns c =
    let f : ℕ → Bool = λ a. not (does_fix (deps c.args.rules.now) (less (cols c.args.left) a) (cols c.args.right)) in
    sym (c.loop-c.invariant ∙ ap (λ v. every v f) c.in_default.ensures.0)
