-- Which rules of a part are left to be written.
use Rattle.std.proofs.Common.{◌≡◌, ℕ, ◌+◌, ◌<◌, true, false, List, ◌∷◌, length, get_or, drop, sym, ap, ◌∙◌, add-one, drop-cons}
use Rattle.columns.specs.Cols.{pick}
use Rattle.columns.specs.declared.set.ColumnSet.{ColumnSet}
use Rattle.dependencies.specs.Rules.{dep, deps}
use Rattle.dependencies.specs.declared.rules.Rule.{Rule}
use Rattle.schema.specs.Writing.{inside, own}

-- of the rules from the place i on, those that lie in the set
abbrev pub own_from : List Rule → ColumnSet → ℕ → List Rule
own_from rs s i = own (drop i rs) s

own_here : (rs : List Rule) (s : ColumnSet) (i : ℕ) (r : Rule) → i < length rs → get_or rs i r ≡ r → drop i rs ≡ r ∷ drop (i + 1) rs
own_here rs s i r l e = drop-cons rs i r l ∙ ap (λ k. get_or rs i r ∷ drop k rs) (sym (add-one i)) ∙ ap (λ x. x ∷ drop (i + 1) rs) e

pub own_next : (rs : List Rule) (s : ColumnSet) (i : ℕ) (r : Rule) → i < length rs → r ≡ get_or rs i r → inside r s ≡ true
    → deps (own_from rs s i) ≡ dep r ∷ deps (own_from rs s (i + 1))
unfolding deps
own_next rs s i r l e t =
    ap (λ v. deps (own v s)) (own_here rs s i r l (sym e)) ∙ ap (λ b. deps (pick b (r ∷ own (drop (i + 1) rs) s) (own (drop (i + 1) rs) s))) t

pub own_skip : (rs : List Rule) (s : ColumnSet) (i : ℕ) (r : Rule) → i < length rs → r ≡ get_or rs i r → inside r s ≡ false
    → deps (own_from rs s i) ≡ deps (own_from rs s (i + 1))
own_skip rs s i r l e t =
    ap (λ v. deps (own v s)) (own_here rs s i r l (sym e)) ∙ ap (λ b. deps (pick b (r ∷ own (drop (i + 1) rs) s) (own (drop (i + 1) rs) s))) t
