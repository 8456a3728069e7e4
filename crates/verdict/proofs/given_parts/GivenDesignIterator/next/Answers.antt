use Rattle.std.proofs.Common.{◌≡◌, ℕ, ◌-◌, ◌*◌, ◌≤◌, true, List, ◌∷◌, length, get_or, drop, sym, ap, ◌∙◌, ap₂, subst, arith, rules}
use Rattle.std.proofs.lemmas.List.{drop-drop}
use Rattle.columns.specs.Cols.{Cols}
use Rattle.columns.specs.Sets.{cols}
use Rattle.dependencies.specs.Layout.{rules_in}
use Rattle.dependencies.specs.Tables.{Dep}
use Rattle.schema.specs.Design.{Part}
use Rattle.schema.specs.Layout.{all_sets_fit, parts_in, parts_fit, extent}
use Rattle.verdict.proofs.GivenWalk.{no_parts, first_part, part_fits, part_whole, size}
use Rattle.verdict.proofs.given_parts.GivenDesignIterator.next.Goals as goal

pub returns-then-self-eq0-clause-steps : goal.returns-then-self-eq0-clause-steps
returns-then-self-eq0-clause-steps c =
    let g = c.args.self.now in
    let none = no_parts g.width.columns g.count g.numbers.now c.if-self-eq0.true in
    (none, none)

pub bounds-self-0 : goal.bounds-self-0
bounds-self-0 c =
    let g = c.args.self.now in
    omega (arith, (part_whole g.count g.numbers.now c.if-self-eq0.false g.whole).front)

pub returns-in_err-set-clause-steps : goal.returns-in_err-set-clause-steps
returns-in_err-set-clause-steps c =
    let g = c.args.self.now in
    absurd (omega (arith, (part_fits g.width.columns g.count g.numbers.now c.if-self-eq0.false g.fits).set_fits, c.in_err-set.ensures))

pub bounds-self-1 : goal.bounds-self-1
bounds-self-1 c =
    let g = c.args.self.now in
    omega (arith, (part_whole g.count g.numbers.now c.if-self-eq0.false g.whole).front)

pub overflow_mul-count : goal.overflow_mul-count
overflow_mul-count c =
    let g = c.args.self.now in
    let h = (part_whole g.count g.numbers.now c.if-self-eq0.false g.whole).front in
    let f = c.type_inv.self in
    search rules

-- what stands behind the first part
beyond : (xs rules rest : List ℕ) → rules ≡ drop 2 xs → rest ≡ drop (2 * get_or xs 1 0) rules → rest ≡ drop (size xs) xs
beyond xs rules rest e f = f ∙ ap (λ (v : List ℕ). drop (2 * get_or xs 1 0) v) e ∙ drop-drop (2 * get_or xs 1 0) 2 xs

pub invariant_of-self : goal.invariant_of-self
invariant_of-self c =
    let g = c.args.self.now in
    let xs = g.numbers.now in
    let rest = beyond xs c.behind-numbers.result.now c.behind.result.now c.behind-numbers.ensures c.behind.ensures in
    record {
      whole = subst (λ (v : List ℕ). extent (g.count - 1) v ≤ length v) (sym rest) (part_whole g.count xs c.if-self-eq0.false g.whole).behind;
      fits = subst (λ (v : List ℕ). parts_fit g.width.columns (g.count - 1) v ≡ true) (sym rest) (part_fits g.width.columns g.count xs c.if-self-eq0.false g.fits).rest_fits;
    }

pub invariant_of-rules : goal.invariant_of-rules
invariant_of-rules c =
    let g = c.args.self.now in
    let xs = g.numbers.now in
    record {
      whole = subst (λ (v : List ℕ). 2 * get_or xs 1 0 ≤ length v) (sym c.behind-numbers.ensures) (part_whole g.count xs c.if-self-eq0.false g.whole).sets;
      fits = subst (λ (v : List ℕ). all_sets_fit g.width.columns (2 * get_or xs 1 0) v ≡ true) (sym c.behind-numbers.ensures)
          (part_fits g.width.columns g.count xs c.if-self-eq0.false g.fits).rules_fit;
    }

pub returns-clause-steps : goal.returns-clause-steps
returns-clause-steps c =
    let g = c.args.self.now in
    let n = g.width.columns in
    let xs = g.numbers.now in
    let rest = beyond xs c.behind-numbers.result.now c.behind.result.now c.behind-numbers.ensures c.behind.ensures in
    let part : Cols → List Dep → Part = λ s ds. record { cols = s; rules = ds } in
    first_part n g.count xs c.if-self-eq0.false
    ∙ ap (λ (s : Cols). part s (rules_in n (get_or xs 1 0) (drop 2 xs)) ∷ parts_in n (g.count - 1) (drop (size xs) xs)) (sym c.in_ok-set.ensures.1)
    ∙ ap₂ (λ (v w : List ℕ). part (cols c.in_ok-set.set) (rules_in n (get_or xs 1 0) v) ∷ parts_in n (g.count - 1) w) (sym c.behind-numbers.ensures) (sym rest)

pub returns-clause-goes : goal.returns-clause-goes
returns-clause-goes c =
    let less = ap length (returns-clause-steps c) in
    record { on = λ finite. (tt, finite, omega arith); keeps = tt; rests = λ finite. tt }
