use Rattle.std.proofs.Common.{◌≡◌, suc, ◌+◌, ◌*◌, List, [], ◌∷◌, length, sym, ap, ◌∙◌, subst, add-one, arith}
use Rattle.std.proofs.lemmas.Result.{err_from_is_err_and}
use Rattle.columns.specs.Cols.{Cols, set_in}
use Rattle.columns.specs.Sets.{cols}
use Rattle.dependencies.specs.Tables.{Dep}
use Rattle.dependencies.specs.Layout.{columns_of, rules_of_row}
use Rattle.dependencies.specs.Rules.{deps}
use Rattle.dependencies.specs.Reads.{rules_of}
use Rattle.dependencies.specs.Told.{refused}
use Rattle.dependencies.specs.Meaning.{Says}
use Rattle.dependencies.proofs.Asking.{reading_done, fits_next, fits_not, fits_none}
use Rattle.dependencies.proofs.implied.follows_from.Goals as goal

pub returns-in_err-left : goal.returns-in_err-left
returns-in_err-left c =
    let set = c.in_ok-set.set in
    let read = c.in_ok-set.ensures in
    let bad = c.in_err-left.ensures in
    let e : 2 * length (rules_of set) + 0 ≡ 2 * length (rules_of set) = omega arith in
    let p = err_from_is_err_and c.from_residual-in_err-left.result c.from_residual-in_err-left.ensures.1 in
    rw (p.1, p.2)
    (reading_done c.args.lent.now (c.args.left ∷ c.args.right ∷ []) set.width.columns (length (rules_of set)) read.0 read.1 read.2
    ∙ fits_not set.width.columns (2 * length (rules_of set)) 1 c.args.left (c.args.right ∷ []) bad.0
    ∙ sym (bad.1 ∙ ap (refused 3) e))

pub returns-in_err-right : goal.returns-in_err-right
returns-in_err-right c =
    let set = c.in_ok-set.set in
    let read = c.in_ok-set.ensures in
    let left = c.in_ok-left.ensures in
    let bad = c.in_err-right.ensures in
    let p = err_from_is_err_and c.from_residual-in_err-right.result c.from_residual-in_err-right.ensures.1 in
    rw (p.1, p.2)
    (reading_done c.args.lent.now (c.args.left ∷ c.args.right ∷ []) set.width.columns (length (rules_of set)) read.0 read.1 read.2
    ∙ fits_next set.width.columns (2 * length (rules_of set)) 1 c.args.left (c.args.right ∷ []) left.0
    ∙ fits_not set.width.columns (suc (2 * length (rules_of set))) 0 c.args.right [] bad.0
    ∙ sym (bad.1 ∙ ap (refused 3) (add-one (2 * length (rules_of set)))))

pub returns : goal.returns
returns c =
    let xs = c.args.lent.now in
    let set = c.in_ok-set.set in
    let n = set.width.columns in
    let read = c.in_ok-set.ensures in
    let left = c.in_ok-left.ensures in
    let right = c.in_ok-right.ensures in
    let a = c.follows.result in
    let rules : deps c.rules.result.now ≡ rules_of_row xs = ap deps c.rules.ensures ∙ read.3 in
    let l : cols c.in_ok-left.left ≡ set_in 0 (columns_of xs) c.args.left = left.1 ∙ ap (λ v. set_in 0 v c.args.left) read.1 in
    let r : cols c.in_ok-right.right ≡ set_in 0 (columns_of xs) c.args.right = right.1 ∙ ap (λ v. set_in 0 v c.args.right) read.1 in (
      reading_done xs (c.args.left ∷ c.args.right ∷ []) n (length (rules_of set)) read.0 read.1 read.2
          ∙ fits_next n (2 * length (rules_of set)) 1 c.args.left (c.args.right ∷ []) left.0
          ∙ fits_next n (suc (2 * length (rules_of set))) 0 c.args.right [] right.0
          ∙ fits_none n (suc (suc (2 * length (rules_of set)))) [],
      subst (λ (ds : List Dep). Says ds (record { left = set_in 0 (columns_of xs) c.args.left; right = set_in 0 (columns_of xs) c.args.right }) a) rules
          (subst (λ (x : Cols). Says (deps c.rules.result.now) (record { left = set_in 0 (columns_of xs) c.args.left; right = x }) a) r
          (subst (λ (x : Cols). Says (deps c.rules.result.now) (record { left = x; right = cols c.in_ok-right.right }) a) l c.follows.ensures)),
    )
