use Rattle.std.proofs.Common.{◌≡◌, Bool, true, false, List, [], sym, ◌∙◌, subst}
use Rattle.columns.specs.Cols.{Cols, all_in}
use Rattle.columns.specs.Sets.{cols}
use Rattle.columns.proofs.Columns.{has_in, in_has, all_in_sub, not_all_in}
use Rattle.dependencies.specs.Rules.{deps}
use Rattle.dependencies.specs.Tables.{Dep}
use Rattle.verdict.specs.Deciding.{Decides}
use Rattle.schema.specs.Design.{IsThirdForm}
use Rattle.verdict.specs.Superkeys.{Finds}
use Rattle.verdict.specs.declared.third.Found.{Found}
use Rattle.verdict.proofs.SuperkeyCounts.{prime_third, third_prime}
use Rattle.verdict.proofs.third.third_form.Goals as goal

decided : (ds : List Dep) (p : Cols) (f : Found) → Finds ds p [] p f → (r : Bool) → r ≡ all_in (cols f.loose) (cols f.prime) → Decides (IsThirdForm ds p) r
decided ds p f h true e =
    prime_third ds p (λ a l.
    sym (h.primes a)
    ∙ in_has (cols f.prime) a (all_in_sub (cols f.loose) (cols f.prime) (sym e) a (has_in (cols f.loose) a (h.loosed a ∙ l))))
decided ds p f h false e =
    λ t.
    let w = not_all_in (cols f.loose) (cols f.prime) (sym e) in
    let a = w.0 in
    w.2 (has_in (cols f.prime) a (h.primes a ∙ third_prime ds p t a (sym (h.loosed a) ∙ in_has (cols f.loose) a w.1)))

pub returns : goal.returns
returns c =
    let ds = deps c.args.rules.now in
    let p = cols c.args.part in
    decided ds p c.walk-found.result (subst (λ (v : Cols). Finds ds p v p c.walk-found.result) c.empty-set.ensures c.walk-found.ensures) c.is_subset.result
    c.is_subset.ensures
