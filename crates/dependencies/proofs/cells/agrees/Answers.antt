use Rattle.std.proofs.Common.{◌≡◌, ℕ, Bool, true, false, ◌&&◌, eqb, ◌∷◌, get_or, sym, ap, ◌∙◌}
use Rattle.std.proofs.lemmas.Bool.{and_left, eq-eqb, ne_eqb}
use Rattle.columns.specs.Cols.{Cols}
use Rattle.columns.specs.Sets.{cols}
use Rattle.dependencies.specs.Tables.{Row, agree}
use Rattle.dependencies.proofs.cells.agrees.Goals as goal

-- the first column is compared, and then the others
one_column : (cs : Cols) (c : ℕ) (ds : Cols) (r s : Row) → cs ≡ c ∷ ds → agree cs r s ≡ (eqb (get_or r c 0) (get_or s c 0) && agree ds r s)
unfolding agree
one_column cs c ds r s e = ap (λ (z : Cols). agree z r s) e

pub returns-then-cell : goal.returns-then-cell
returns-then-cell c =
    let a : Row = c.args.a.now in
    let b : Row = c.args.b.now in
    let i : ℕ = c.in-Some.c.index in
    let ne : eqb (get_or a i 0) (get_or b i 0) ≡ false = ne_eqb (get_or a i 0) (get_or b i 0) (λ e. c.if-cell.true (c.cell.ensures ∙ e ∙ sym c.cell-in-Some.ensures)) in
    sym (sym c.loop-c.invariant ∙ one_column (cols c.loop-c.rest) i _ a b c.in-Some.ensures ∙ and_left _ _ ne)

pub loop-c-preserved : goal.loop-c-preserved
loop-c-preserved c =
    let a : Row = c.args.a.now in
    let b : Row = c.args.b.now in
    let i : ℕ = c.in-Some.c.index in
    let eq : eqb (get_or a i 0) (get_or b i 0) ≡ true = eq-eqb (get_or a i 0) (get_or b i 0) (sym c.cell.ensures ∙ c.if-cell.false ∙ c.cell-in-Some.ensures) in
    sym (one_column (cols c.loop-c.rest) i _ a b c.in-Some.ensures ∙ ap (λ (t : Bool). t && agree (cols c.take_first.new.self) a b) eq) ∙ c.loop-c.invariant

pub returns : goal.returns
unfolding agree
returns c = sym (ap (λ (z : Cols). agree z c.args.a.now c.args.b.now) c.in_default.ensures.0) ∙ c.loop-c.invariant
