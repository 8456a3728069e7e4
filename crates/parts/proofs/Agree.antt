-- Rows that agree in columns, and what a row looks like in them.
use Rattle.std.proofs.Common.{◌≡◌, ℕ, zero, suc, ◌+◌, true, [], ◌∷◌, get_or, sym, refl, ◌∙◌, add-zero, add-suc, suc-add, zero-add}
use Rattle.columns.specs.Cols.{Cols, has, all_in}
use Rattle.columns.proofs.Columns.{in_has, all_in_sub, sub_all_in}
use Rattle.columns.proofs.Lists.{same_test}
use Rattle.dependencies.specs.Tables.{Row, agree}
use Rattle.dependencies.proofs.Rows.{agree_same, same_agree}
use Rattle.parts.specs.Day.{masked}

pub all_in_refl : (cs : Cols) → all_in cs cs ≡ true
all_in_refl cs = sub_all_in cs cs (λ c i. i)

pub all_in_trans : (cs ds es : Cols) → all_in cs ds ≡ true → all_in ds es ≡ true → all_in cs es ≡ true
all_in_trans cs ds es a b = sub_all_in cs es (λ c i. all_in_sub ds es b c (all_in_sub cs ds a c i))

pub agree_refl : (cs : Cols) (r : Row) → agree cs r r ≡ true
agree_refl cs r = same_agree cs r r (λ c i. refl)

pub agree_sym : (cs : Cols) (r s : Row) → agree cs r s ≡ true → agree cs s r ≡ true
agree_sym cs r s a = same_agree cs s r (λ c i. sym (agree_same cs r s a c i))

pub agree_trans : (cs : Cols) (r s u : Row) → agree cs r s ≡ true → agree cs s u ≡ true → agree cs r u ≡ true
agree_trans cs r s u a b = same_agree cs r u (λ c i. agree_same cs r s a c i ∙ agree_same cs s u b c i)

pub like_agree : (cs : Cols) (q r s : Row) → agree cs q r ≡ true → agree cs q s ≡ agree cs r s
like_agree cs q r s a = same_test _ _ (λ h. agree_trans cs r q s (agree_sym cs q r a) h) (λ h. agree_trans cs q r s a h)

-- what agrees with one of two rows that agree agrees with the other
pub agree_like : (cs : Cols) (q r s : Row) → agree cs r s ≡ true → agree cs q r ≡ agree cs q s
agree_like cs q r s a = same_test _ _ (λ h. agree_trans cs q r s h a) (λ h. agree_trans cs q s r h (agree_sym cs r s a))

pub agree_inside : (cs ds : Cols) (r s : Row) → all_in cs ds ≡ true → agree ds r s ≡ true → agree cs r s ≡ true
agree_inside cs ds r s i a = same_agree cs r s (λ c h. agree_same ds r s a c (all_in_sub cs ds i c h))

masked_at : (p : Cols) (k : ℕ) (r : Row) (c : ℕ) → has p (k + c) ≡ true → get_or r c 0 ≡ get_or (masked p k r) c 0
unfolding masked
masked_at p k [] c h = refl
masked_at p k (x ∷ xs) zero h = let e : has p k ≡ true = rw add-zero at h in rw e
masked_at p k (x ∷ xs) (suc c) h = masked_at p (suc k) xs c (rw (suc-add, ← add-suc) h)

pub agree_masked : (p : Cols) (r : Row) → agree p r (masked p 0 r) ≡ true
agree_masked p r = same_agree p r (masked p 0 r) (λ c i. masked_at p 0 r c (rw zero-add (in_has p c i)))
