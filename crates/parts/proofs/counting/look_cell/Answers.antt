use Rattle.std.proofs.Common.{◌≡◌, Bool, false, get_or, sym, ap, inl, inr, arith}
use Rattle.std.proofs.lemmas.Bool.{cases_Bool}
use Rattle.columns.specs.Cols.{pick, has}
use Rattle.columns.specs.Sets.{cols}
use Rattle.columns.proofs.SetNumbers.{cols_below}
use Rattle.parts.proofs.counting.look_cell.Goals as goal

-- no set has a column past the sixteenth
pub returns-in_default-2 : goal.returns-in_default-2
returns-in_default-2 c =
    let e : has (cols c.args.set) c.args.c ≡ false
    = elim (cases_Bool (has (cols c.args.set) c.args.c)) [
      | inl t ↦ absurd (let l = cols_below c.args.set c.args.c t in let m = c.new.ensures in omega arith)
      | inr t ↦ t
    ] in
    sym (ap (λ (b : Bool). pick b (get_or c.args.row.now c.args.c 0) 0) e)
