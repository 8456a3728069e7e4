-- Rules written as numbers, and read back from them.
use Rattle.std.proofs.Common.{◌≡◌, ℕ, zero, suc, ◌+◌, ◌*◌, ◌^◌, ◌<◌, ◌≤◌, true, List, [], ◌∷◌, ◌++◌, length, get_or, take, drop, set, sym, refl, ap, ◌∙◌, subst, inl, inr, arith}
use Rattle.std.proofs.lemmas.List.{drop_at, take_more, length-take-le}
use Rattle.columns.specs.Cols.{Cols, columns, set_in}
use Rattle.columns.specs.Members.{In, Sub}
use Rattle.columns.specs.Sets.{cols}
use Rattle.columns.specs.declared.set.ColumnSet.{ColumnSet}
use Rattle.columns.proofs.Columns.{has_in, below}
use Rattle.columns.proofs.SetNumbers.{bits_below, cols_narrow}
use Rattle.dependencies.specs.Layout.{rules_in}
use Rattle.dependencies.specs.Lent.{put_list}
use Rattle.dependencies.specs.Rules.{dep, deps}
use Rattle.dependencies.specs.Tables.{Dep, is_proper}
use Rattle.dependencies.specs.declared.rules.Rule.{Rule}
use Rattle.dependencies.proofs.Lent.{put_append, put_fits, length_put}
use Rattle.cover.specs.Answer.{coded, LeastRow}
use Rattle.cover.specs.Least.{Least}
use Rattle.cover.specs.Ordered.{Narrowed, singles}
use Rattle.cover.proofs.ProperRules.{proper_at}
use Rattle.cover.specs.RuleLists.{in_deps}

pub length_coded : (rs : List Rule) → length (coded rs) ≡ 2 * length rs
length_coded [] = refl
length_coded (r ∷ rs) = omega (arith, length_coded rs)

pub coded_push : (rs : List Rule) (r : Rule) → coded (rs ++ r ∷ []) ≡ coded rs ++ r.left.bits ∷ r.right.bits ∷ []
coded_push [] r = refl
coded_push (x ∷ rs) r = ap (λ v. x.left.bits ∷ x.right.bits ∷ v) (coded_push rs r)

-- one more rule is written
pub written_turn : (row : List ℕ) (rs : List Rule) (i : ℕ) (r : Rule) → i < length rs → r ≡ get_or rs i r
    → set (set (put_list row 1 (coded (take i rs))) (1 + 2 * i) r.left.bits) (2 + 2 * i) r.right.bits ≡ put_list row 1 (coded (take (i + 1) rs))
unfolding put_list
written_turn row rs i r h e =
    let done : List ℕ = coded (take i rs) in
    let n : length done ≡ 2 * i = length_coded (take i rs) ∙ ap (λ k. 2 * k) (length-take-le i rs (omega arith)) in
    let more : take (i + 1) rs ≡ take i rs ++ r ∷ [] = take_more rs i r h ∙ ap (λ y. take i rs ++ y ∷ []) (sym e) in
    let m : suc (1 + 2 * i) ≡ 2 + 2 * i = omega arith in
    sym (ap (λ v. put_list row 1 (coded v)) more ∙ ap (λ v. put_list row 1 v) (coded_push (take i rs) r)
    ∙ put_append row 1 (1 + 2 * i) done (r.left.bits ∷ r.right.bits ∷ []) (omega arith)
    ∙ ap (λ k. set (set (put_list row 1 done) (1 + 2 * i) r.left.bits) k r.right.bits) m)

-- ---- to read it back

abbrev FitsTable : ℕ → ColumnSet → Type 0
FitsTable n s = s.bits < 2 ^ n

fits_sub : (n : ℕ) (s : ColumnSet) → Sub (cols s) (columns 0 n) → FitsTable n s
fits_sub n s f = bits_below s n (λ c h. below n c (f c (has_in (cols s) c h)))

abbrev FitTable : ℕ → List Rule → Type 0
FitTable n rs = (r : Rule) → In r rs → FitsTable n r.left × FitsTable n r.right

fit_proper : (n : ℕ) (rs : List Rule) → is_proper n (deps rs) ≡ true → FitTable n rs
fit_proper n rs p r i =
    let o = proper_at n (deps rs) p (dep r) (in_deps rs r i) in
    (fits_sub n r.left o.0, fits_sub n r.right o.1)

decode : (n : ℕ) (rs : List Rule) (ys : List ℕ) → n ≤ 16 → FitTable n rs → rules_in n (length rs) (coded rs ++ ys) ≡ deps rs
unfolding rules_in deps
decode n [] ys h f = refl
decode n (r ∷ rs) ys h f =
    let here = f r (inl refl) in
    let tail = rules_in n (length rs) (coded rs ++ ys) in
    ap (λ (x : Cols). record { left = x; right = set_in 0 n r.right.bits } ∷ tail) (sym (cols_narrow r.left n h here.0))
    ∙ ap (λ (x : Cols). record { left = cols r.left; right = x } ∷ tail) (sym (cols_narrow r.right n h here.1))
    ∙ ap (λ (v : List Dep). dep r ∷ v) (decode n rs ys h (λ x i. f x (inr i)))

coded_fit : (n : ℕ) (rs : List Rule) (ys : List ℕ) (i : ℕ) → FitTable n rs → i < 2 * length rs → get_or (coded rs ++ ys) i 0 < 2 ^ n
coded_fit n [] ys i f h = absurd (omega arith)
coded_fit n (r ∷ rs) ys zero f h = (f r (inl refl)).0
coded_fit n (r ∷ rs) ys (suc zero) f h = (f r (inl refl)).1
coded_fit n (r ∷ rs) ys (suc (suc i)) f h = coded_fit n rs ys i (λ x k. f x (inr k)) (omega arith)

module _ (n : ℕ) (ds : List Dep) (row : List ℕ) (rs : List Rule) (narrow : n ≤ 16) (proper : is_proper n (deps rs) ≡ true) (least : Least ds (deps rs)) (ordered : Narrowed (singles ds) (deps rs))
    (room : 1 + 2 * length rs ≤ length row) where
  abbrev all : List ℕ
  all = length rs ∷ coded rs

  all_long : length all ≡ 1 + 2 * length rs
  all_long = omega (arith, length_coded rs)

  abbrev whole : List ℕ
  whole = all ++ drop (length all) row

  fit : FitTable n rs
  fit = fit_proper n rs proper

  whole_row : LeastRow n ds row (length rs) whole
  whole_row =
      record {
        count = refl;
        least = subst (λ v. Least ds v) (sym (decode n rs (drop (length all) row) narrow fit)) least;
        ordered = subst (λ v. Narrowed (singles ds) v) (sym (decode n rs (drop (length all) row) narrow fit)) ordered;
        named = λ i h.
            let e : 1 + i ≡ suc i = omega arith in
            subst (λ k. get_or whole k 0 < 2 ^ n) (sym e) (coded_fit n rs (drop (length all) row) i fit h);
        behind = drop_at all (drop (length all) row) (1 + 2 * length rs) all_long ∙ ap (λ k. drop k row) all_long;
        long = omega (arith, ap length (put_fits row all (omega (arith, all_long))), length_put row 0 all);
      }

  pub written_row : LeastRow n ds row (length rs) (put_list row 0 all)
  written_row = subst (λ v. LeastRow n ds row (length rs) v) (sym (put_fits row all (omega (arith, all_long)))) whole_row
