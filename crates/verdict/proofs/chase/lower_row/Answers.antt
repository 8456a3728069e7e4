use Rattle.std.proofs.Common.{◌≡◌, ℕ, zero, suc, eqb, List, [], ◌∷◌, get_or, set, sym, refl, ap, ◌∙◌}
use Rattle.std.proofs.lemmas.Bool.{eqb-true, eqb-false}
use Rattle.columns.proofs.Members.{pick_both}
use Rattle.verdict.specs.Chase.{put_low}
use Rattle.verdict.proofs.chase.lower_row.Goals as goal

put : (c h l : ℕ) (r : List ℕ) → get_or r c 0 ≡ h → set r c l ≡ put_low c h l r
put c h l [] e = refl
put zero h l (x ∷ r) e = pick_both (eqb x h) l x (λ v. l ∷ r ≡ v ∷ r) (λ q. refl) (λ q. absurd (eqb-false x h q e))
put (suc c) h l (x ∷ r) e = ap (λ (v : List ℕ). x ∷ v) (put c h l r e)

keep : (c h l : ℕ) (r : List ℕ) → (get_or r c 0 ≡ h → ⊥) → r ≡ put_low c h l r
keep c h l [] e = refl
keep zero h l (x ∷ r) e = pick_both (eqb x h) l x (λ v. x ∷ r ≡ v ∷ r) (λ q. absurd (e (eqb-true x h q))) (λ q. refl)
keep (suc c) h l (x ∷ r) e = ap (λ (v : List ℕ). x ∷ v) (keep c h l r e)

pub returns-then-row-c : goal.returns-then-row-c
returns-then-row-c c =
    let m = c.args.merge in
    let r = c.args.row.now in
    ap (λ (v : ℕ). set r v m.low) c.index-c.ensures
    ∙ put m.column.index m.high m.low r (ap (λ (v : ℕ). get_or r v 0) (sym c.index-c.ensures) ∙ c.if-row-c.true)

pub returns-else-row-c : goal.returns-else-row-c
returns-else-row-c c =
    let m = c.args.merge in
    let r = c.args.row.now in
    keep m.column.index m.high m.low r (λ e. c.if-row-c.false (ap (λ (v : ℕ). get_or r v 0) c.index-c.ensures ∙ e))
