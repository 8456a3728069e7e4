use Rattle.std.proofs.Common.{◌≡◌, ℕ, Bool, true, false, not, ◌&&◌, [], sym, refl, ap, ◌∙◌}
use Rattle.columns.specs.Cols.{Cols, pick, has}
use Rattle.columns.specs.Sets.{cols}
use Rattle.columns.proofs.Lists.{all_same}
use Rattle.dependencies.specs.Closure.{closure, does_fix}
use Rattle.dependencies.specs.Rules.{deps}
use Rattle.verdict.specs.Superkeys.{superkeys, is_in_keys, is_loose}
use Rattle.verdict.proofs.third.visit.Goals as goal

nothing : (s : Cols) (a : ℕ) → s ≡ [] → has s a ≡ false
unfolding has
nothing s a e = ap (λ (v : Cols). has v a) e

pub returns-then-is_subset : goal.returns-then-is_subset
unfolding superkeys is_in_keys is_loose
returns-then-is_subset c =
    let ds = deps c.args.rules.now in
    let p = cols c.args.part in
    let x = cols c.args.set in
    let yes· : does_fix ds x p ≡ true
    = sym (c.if-is_subset.ensures ∙ all_same p p (cols c.closure-fixed.result) (closure ds x) (λ d. refl) c.closure-fixed.ensures.computed) in
    record {
      count = sym (ap (λ (b : Bool). pick b 1 0) yes·);
      primes = λ a. nothing (cols c.empty-none.result) a c.empty-none.ensures;
      loosed = λ a.
          nothing (cols c.empty-none.result) a c.empty-none.ensures
          ∙ sym (ap (λ (b : Bool). not b && ((has (closure ds x) a && has p a) && not (has x a))) yes·);
    }

pub returns : goal.returns
unfolding superkeys is_in_keys is_loose
returns c =
    let ds = deps c.args.rules.now in
    let p = cols c.args.part in
    let x = cols c.args.set in
    let no· : does_fix ds x p ≡ false
    = sym (c.if-is_subset.ensures ∙ all_same p p (cols c.closure-fixed.result) (closure ds x) (λ d. refl) c.closure-fixed.ensures.computed) in
    record {
      count = sym (ap (λ (b : Bool). pick b 1 0) no·);
      primes = λ a. nothing (cols c.empty-none.result) a c.empty-none.ensures;
      loosed = λ a.
          c.difference.ensures a
          ∙ ap (λ (b : Bool). b && not (has x a)) (c.intersection.ensures a ∙ ap (λ (b : Bool). b && has p a) (c.closure-fixed.ensures.computed a))
          ∙ sym (ap (λ (b : Bool). not b && ((has (closure ds x) a && has p a) && not (has x a))) no·);
    }
