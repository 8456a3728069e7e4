-- Rows that agree in columns.
use Rattle.std.proofs.Common.{◌≡◌, ℕ, true, eqb, [], ◌∷◌, get_or, refl, subst, inl, inr}
use Rattle.std.proofs.lemmas.Bool.{eqb-true, eq-eqb, and_parts, and_from}
use Rattle.dependencies.specs.Tables.{Row, agree}
use Rattle.columns.specs.Cols.{Cols}
use Rattle.columns.specs.Members.{In}

-- two rows are equal in a column
abbrev pub Same : Row → Row → ℕ → Type 0
Same r s c = get_or r c 0 ≡ get_or s c 0

pub agree_same : (cs : Cols) (r s : Row) → agree cs r s ≡ true → (c : ℕ) → In c cs → Same r s c
unfolding agree
agree_same [] r s h c k = absurd k
agree_same (d ∷ ds) r s h c k =
    let p = and_parts (eqb (get_or r d 0) (get_or s d 0)) (agree ds r s) h in
    elim k [ inl e ↦ subst (λ v. Same r s v) e (eqb-true _ _ p.0) | inr i ↦ agree_same ds r s p.1 c i ]

pub same_agree : (cs : Cols) (r s : Row) → ((c : ℕ) → In c cs → Same r s c) → agree cs r s ≡ true
unfolding agree
same_agree [] r s f = refl
same_agree (d ∷ ds) r s f =
    and_from (eqb (get_or r d 0) (get_or s d 0)) (agree ds r s) (eq-eqb _ _ (f d (inl refl))) (same_agree ds r s (λ c i. f c (inr i)))
