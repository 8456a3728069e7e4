-- What is written reads back as the parts.
use Rattle.std.proofs.Common.{◌≡◌, ℕ, suc, ◌+◌, ◌*◌, ◌^◌, ◌≤◌, Bool, true, false, List, [], ◌∷◌, ◌++◌, length, drop, sym, refl, ap, ◌∙◌, inl, inr, append_assoc, arith, length-append}
use Rattle.std.proofs.lemmas.List.{drop_at}
use Rattle.std.proofs.lemmas.Bool.{lt-ltb, and_from}
use Rattle.columns.specs.Cols.{Cols, pick, set_in}
use Rattle.columns.specs.Sets.{cols}
use Rattle.columns.specs.declared.set.ColumnSet.{ColumnSet}
use Rattle.columns.proofs.SetNumbers.{cols_narrow}
use Rattle.dependencies.specs.Tables.{Dep}
use Rattle.dependencies.specs.Layout.{rules_in}
use Rattle.dependencies.specs.Rules.{dep, deps}
use Rattle.dependencies.specs.declared.rules.Rule.{Rule}
use Rattle.schema.specs.Design.{Part}
use Rattle.schema.specs.Layout.{parts_in, extent, all_sets_fit, parts_fit}
use Rattle.schema.specs.Made.{lying, left_over, parts_of}
use Rattle.schema.specs.Plans.{SmallRules, SmallSets}
use Rattle.schema.specs.Sets.{sets_of}
use Rattle.schema.specs.Writing.{inside, own, over, flat, one_part, encoded}
use Rattle.schema.proofs.Sifting.{those_sub, others_sub}
use Rattle.schema.proofs.Written.{flat_length}

pub own_deps : (rs : List Rule) (s : ColumnSet) → deps (own rs s) ≡ lying (deps rs) (cols s)
unfolding deps
own_deps [] s = refl
own_deps (r ∷ rs) s = go (inside r s) (own_deps rs s)
  where
    go : (b : Bool) → deps (own rs s) ≡ lying (deps rs) (cols s) → deps (pick b (r ∷ own rs s) (own rs s)) ≡ pick b (dep r ∷ lying (deps rs) (cols s)) (lying (deps rs) (cols s))
    go true e = ap (λ v. dep r ∷ v) e
    go false e = e

pub over_deps : (rs : List Rule) (s : ColumnSet) → deps (over rs s) ≡ left_over (deps rs) (cols s)
unfolding deps
over_deps [] s = refl
over_deps (r ∷ rs) s = go (inside r s) (over_deps rs s)
  where
    go : (b : Bool) → deps (over rs s) ≡ left_over (deps rs) (cols s) → deps (pick b (over rs s) (r ∷ over rs s)) ≡ pick b (left_over (deps rs) (cols s)) (dep r ∷ left_over (deps rs) (cols s))
    go true e = e
    go false e = ap (λ v. dep r ∷ v) e

abbrev in_set : ColumnSet → Rule → Bool
in_set s r = inside r s

read_rules_lem : (n : ℕ) (rs : List Rule) (tail : List ℕ) → n ≤ 16 → SmallRules n rs → rules_in n (length rs) (flat rs ++ tail) ≡ deps rs
unfolding rules_in deps
read_rules_lem n [] tail h f = refl
read_rules_lem n (r ∷ rs) tail h f =
    let p = f r (inl refl) in
    ap (λ v. record { left = set_in 0 n r.left.bits; right = set_in 0 n r.right.bits } ∷ v) (read_rules_lem n rs tail h (λ x i. f x (inr i)))
    ∙ ap (λ (v : Cols). record { left = v; right = set_in 0 n r.right.bits } ∷ deps rs) (sym (cols_narrow r.left n h p.0))
    ∙ ap (λ (v : Cols). record { left = cols r.left; right = v } ∷ deps rs) (sym (cols_narrow r.right n h p.1))

fit_rules : (n : ℕ) (rs : List Rule) (tail : List ℕ) → SmallRules n rs → all_sets_fit n (length (flat rs)) (flat rs ++ tail) ≡ true
unfolding all_sets_fit
fit_rules n [] tail f = refl
fit_rules n (r ∷ rs) tail f =
    let p = f r (inl refl) in
    and_from _ _ (lt-ltb r.left.bits (2 ^ n) p.0) (and_from _ _ (lt-ltb r.right.bits (2 ^ n) p.1) (fit_rules n rs tail (λ x i. f x (inr i))))

module _ (rs : List Rule) (s : ColumnSet) (E tail : List ℕ) where
  abbrev O : List Rule
  O = own rs s

  row_is : (one_part rs s ++ E) ++ tail ≡ s.bits ∷ length O ∷ (flat O ++ (E ++ tail))
  row_is = ap (λ v. s.bits ∷ length O ∷ v) (append_assoc (flat O) E tail)

  behind : drop (2 + 2 * length O) (s.bits ∷ length O ∷ (flat O ++ (E ++ tail))) ≡ E ++ tail
  behind =
      let e : 2 + 2 * length O ≡ suc (suc (length (flat O))) = omega (arith, flat_length O) in
      ap (λ (k : ℕ). drop k (s.bits ∷ length O ∷ (flat O ++ (E ++ tail)))) e ∙ drop_at (flat O) (E ++ tail) (length (flat O)) refl

pub read_parts : (n : ℕ) (rs : List Rule) (ss : List ColumnSet) (tail : List ℕ) → n ≤ 16 → SmallRules n rs → SmallSets n ss
    → parts_in n (length ss) (encoded rs ss ++ tail) ≡ parts_of (deps rs) (sets_of ss)
unfolding parts_in sets_of
read_parts n rs [] tail h f g = refl
read_parts n rs (s ∷ ss) tail h f g =
    let E : List ℕ = encoded (over rs s) ss in
    let O' : List Rule = own rs s in
    ap (λ (v : List ℕ). parts_in n (suc (length ss)) v) (row_is rs s E tail)
    ∙ ap (λ (v : List ℕ). record { cols = set_in 0 n s.bits; rules = rules_in n (length O') (flat O' ++ (E ++ tail)) } ∷ parts_in n (length ss) v) (behind rs s E tail)
    ∙ ap (λ (v : List Dep). record { cols = set_in 0 n s.bits; rules = v } ∷ parts_in n (length ss) (E ++ tail)) (read_rules_lem n O' (E ++ tail) h (λ x i. f x (those_sub (in_set s) rs x i)) ∙ own_deps rs s)
    ∙ ap (λ (v : Cols). record { cols = v; rules = lying (deps rs) (cols s) } ∷ parts_in n (length ss) (E ++ tail)) (sym (cols_narrow s n h (g s (inl refl))))
    ∙ ap (λ (v : List Part). record { cols = cols s; rules = lying (deps rs) (cols s) } ∷ v)
    (read_parts n (over rs s) ss tail h (λ x i. f x (others_sub (in_set s) rs x i)) (λ x i. g x (inr i)) ∙ ap (λ (v : List Dep). parts_of v (sets_of ss)) (over_deps rs s))

pub read_extent : (rs : List Rule) (ss : List ColumnSet) (tail : List ℕ) → extent (length ss) (encoded rs ss ++ tail) ≡ length (encoded rs ss)
unfolding extent
read_extent rs [] tail = refl
read_extent rs (s ∷ ss) tail =
    let E : List ℕ = encoded (over rs s) ss in
    let O' : List Rule = own rs s in
    ap (λ (v : List ℕ). extent (suc (length ss)) v) (row_is rs s E tail)
    ∙ ap (λ (v : List ℕ). 2 + 2 * length O' + extent (length ss) v) (behind rs s E tail)
    ∙ omega (arith, read_extent (over rs s) ss tail, flat_length O', length-append (one_part rs s) E)

pub read_fit : (n : ℕ) (rs : List Rule) (ss : List ColumnSet) (tail : List ℕ) → SmallRules n rs → SmallSets n ss → parts_fit n (length ss) (encoded rs ss ++ tail) ≡ true
unfolding parts_fit
read_fit n rs [] tail f g = refl
read_fit n rs (s ∷ ss) tail f g =
    let E : List ℕ = encoded (over rs s) ss in
    let O' : List Rule = own rs s in
    ap (λ (v : List ℕ). parts_fit n (suc (length ss)) v) (row_is rs s E tail)
    ∙ and_from _ _
    (and_from _ _ (lt-ltb s.bits (2 ^ n) (g s (inl refl)))
    (ap (λ (k : ℕ). all_sets_fit n k (flat O' ++ (E ++ tail))) (sym (flat_length O')) ∙ fit_rules n O' (E ++ tail) (λ x i. f x (those_sub (in_set s) rs x i))))
    (ap (λ (v : List ℕ). parts_fit n (length ss) v) (behind rs s E tail) ∙ read_fit n (over rs s) ss tail (λ x i. f x (others_sub (in_set s) rs x i)) (λ x i. g x (inr i)))
