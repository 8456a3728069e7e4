-- The answer in full, from the parts that are written.
use Rattle.std.proofs.Common.{◌≡◌, ℕ, ◌+◌, ◌*◌, ◌≤◌, List, [], ◌∷◌, ◌++◌, length, drop, sym, refl, ap, ◌∙◌, subst, arith, length-append}
use Rattle.std.proofs.lemmas.List.{length-drop, drop_at}
use Rattle.columns.specs.declared.set.ColumnSet.{ColumnSet}
use Rattle.dependencies.specs.Tables.{Dep}
use Rattle.dependencies.specs.Layout.{columns_of, count_of, rules_of_row}
use Rattle.dependencies.specs.Lent.{put_list}
use Rattle.dependencies.specs.Rules.{deps}
use Rattle.dependencies.specs.declared.rules.Rule.{Rule}
use Rattle.dependencies.proofs.Lent.{put_fits}
use Rattle.schema.specs.Design.{Design}
use Rattle.schema.specs.Designed.{Designed}
use Rattle.schema.specs.Layout.{parts_in, extent, parts_fit}
use Rattle.schema.specs.Plans.{SmallRules, SmallSets}
use Rattle.schema.specs.Made.{parts_of}
use Rattle.schema.specs.Sets.{sets_of}
use Rattle.schema.specs.Writing.{over, one_part, encoded}
use Rattle.schema.proofs.Written.{part_length}
use Rattle.schema.proofs.Decoding.{read_parts, read_extent, read_fit}
use Rattle.schema.proofs.Synthesis.{parts_length}

-- two numbers a part and two a rule suffice
pub encoded_short : (rs : List Rule) (ss : List ColumnSet) → length (encoded rs ss) ≤ 2 * length ss + 2 * length rs
encoded_short rs [] = omega arith
encoded_short rs (s ∷ ss) =
    omega (arith, encoded_short (over rs s) ss, part_length rs s, length-append (one_part rs s) (encoded (over rs s) ss))

sets_length : (ss : List ColumnSet) → length (sets_of ss) ≡ length ss
unfolding sets_of
sets_length [] = refl
sets_length (s ∷ ss) = omega (arith, sets_length ss)

-- a plan that is written into a row that is long enough
module _ (n many : ℕ) (ds : List Dep) (rs : List Rule) (ss : List ColumnSet) (out out₁ : List ℕ) (narrow : n ≤ 16)
    (design : Design n ds (parts_of (deps rs) (sets_of ss))) (few : length ss ≤ n * many + 1) (sr : SmallRules n rs) (st : SmallSets n ss)
    (fits : 1 + length (encoded rs ss) ≤ length out) (put : out₁ ≡ put_list out 0 (length ss ∷ encoded rs ss)) where
  abbrev k : ℕ
  k = length ss

  abbrev E : List ℕ
  E = encoded rs ss

  abbrev tail : List ℕ
  tail = drop (length (k ∷ E)) out

  abbrev row : List ℕ
  row = k ∷ (E ++ tail)

  row_is : out₁ ≡ row
  row_is = put ∙ put_fits out (k ∷ E) (omega arith)

  extent_is : extent k (E ++ tail) ≡ length E
  extent_is = read_extent rs ss tail

  parts_are : parts_in n k (E ++ tail) ≡ parts_of (deps rs) (sets_of ss)
  parts_are = read_parts n rs ss tail narrow sr st

  long : length row ≡ length out
  long = omega (arith, length-append E tail, length-drop (length (k ∷ E)) out)

  end : drop (1 + length E) row ≡ drop (1 + length E) out
  end =
      let two : 1 + length E ≡ length (k ∷ E) = omega arith in
      ap (λ (j : ℕ). drop j row) two ∙ drop_at (k ∷ E) tail (length (k ∷ E)) refl ∙ ap (λ (j : ℕ). drop j out) (sym two)

  in_row : (xs : List ℕ) → columns_of xs ≡ n → rules_of_row xs ≡ ds → count_of xs ≡ many → Designed xs out k row
  in_row xs a b c =
      record {
        count = refl;
        design =
            subst (λ m. Design m (rules_of_row xs) (parts_in m k (E ++ tail))) (sym a)
            (subst (λ v. Design n v (parts_in n k (E ++ tail))) (sym b) (subst (λ v. Design n ds v) (sym parts_are) design));
        few =
            subst (λ m. length (parts_in m k (E ++ tail)) ≤ m * count_of xs + 1) (sym a)
            (subst (λ m. length (parts_in n k (E ++ tail)) ≤ n * m + 1) (sym c)
            (subst (λ (m : ℕ). m ≤ n * many + 1) (sym (ap length parts_are ∙ parts_length (deps rs) (sets_of ss) ∙ sets_length ss)) few));
        small = ap (λ m. parts_fit m k (E ++ tail)) a ∙ read_fit n rs ss tail sr st;
        fits = omega (arith, extent_is);
        past = subst (λ j. drop (1 + j) row ≡ drop (1 + j) out) (sym extent_is) end;
        same_length = long;
      }

  pub told_done : (xs : List ℕ) → n ≡ columns_of xs → many ≡ count_of xs → ds ≡ rules_of_row xs → Designed xs out k out₁
  told_done xs a c b = subst (λ v. Designed xs out k v) (sym row_is) (in_row xs (sym a) (sym b) (sym c))
