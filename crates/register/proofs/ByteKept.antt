-- A day from bytes is kept as the day that is read into the lent row.
use Rattle.std.proofs.Common.{◌≡◌, ℕ, ◌+◌, ◌-◌, ◌*◌, List, take, drop, Ok, Err, Result, ap, ◌∙◌, subst, ap₂, arith}
use Rattle.std.proofs.lemmas.Bool.{both_ways}
use Rattle.std.proofs.lemmas.List.{get_or-take, take_at}
use Rattle.dependencies.specs.Told.{Told, done, told, or_else}
use Rattle.dependencies.specs.Layout.{columns_of}
use Rattle.dependencies.specs.Bytes.{row_of_bytes}
use Rattle.dependencies.specs.declared.refusals.Refusal.{Refusal}
use Rattle.dependencies.proofs.ByteRows.{reading_cut}
use Rattle.parts.specs.Answers.{outcome, opening, design_told}
use Rattle.register.specs.Deeds.{is_done, DayKept, DaySays}
use Rattle.register.specs.DayBytes.{whole_deeds, day_read, lent_after, ByteDaySays}
use Rattle.register.proofs.Daily.{told_refuses}
use Rattle.register.proofs.ByteDays.{deeds_length}

-- the rules that are read from the bytes
pub columns_read : (bs xs : List ℕ) → xs ≡ take 66 (row_of_bytes bs) → columns_of xs ≡ columns_of (row_of_bytes bs)
columns_read bs xs e = ap columns_of e ∙ get_or-take 66 (row_of_bytes bs) 0 0 (omega arith)

pub opening_read : (bs xs d : List ℕ) → xs ≡ take 66 (row_of_bytes bs) → opening xs d ≡ opening (row_of_bytes bs) d
opening_read bs xs d e =
    ap (λ (ys : List ℕ). opening ys d) e
    ∙ ap₂ (λ (t : Told) (n : ℕ). or_else t (design_told n d)) (reading_cut (row_of_bytes bs)) (get_or-take 66 (row_of_bytes bs) 0 0 (omega arith))

-- the deeds at the front of the lent row
read_front : (n k m : ℕ) (bs lent lent₁ : List ℕ) → k ≡ whole_deeds n bs lent → m ≡ n → lent₁ ≡ lent_after n bs lent → take (k * (m + 1) - 0) lent₁ ≡ day_read n bs lent
read_front n k m bs lent lent₁ e q f =
    let W : ℕ = whole_deeds n bs lent in
    let a : k * (m + 1) ≡ W * (n + 1) = ap₂ (λ (u v : ℕ). u * (v + 1)) e q in
    let z : k * (m + 1) - 0 ≡ W * (n + 1) = omega arith in
    ap₂ (λ (u : ℕ) (ys : List ℕ). take u ys) z f ∙ take_at (day_read n bs lent) (drop (W * (n + 1)) lent) (W * (n + 1)) (deeds_length n W bs)

module _ (n : ℕ) (d g g₁ bs lent lent₁ out out₁ : List ℕ) where
  says_read : (xs : List ℕ) (r : Result ℕ Refusal) → xs ≡ day_read n bs lent → lent₁ ≡ lent_after n bs lent → outcome r ≡ done → DaySays n d g g₁ xs out out₁ r
      → ByteDaySays n d g g₁ bs lent lent₁ out out₁ r
  says_read xs (Ok k) e f o s = (f, subst (λ (ys : List ℕ). DayKept n d g g₁ ys out out₁ k) e s)
  says_read xs (Err e) q f o s = absurd (both_ways (is_done (told e)) (told_refuses e) (ap is_done o))

  -- the same, as the code comes by the width w, the columns m and the bytes behind the rules
  pub byte_day : (w m c k : ℕ) (day : List ℕ) (r : Result ℕ Refusal) → w ≡ n → m ≡ n → c ≡ w → day ≡ bs → k ≡ whole_deeds w day lent → lent₁ ≡ lent_after w day lent → outcome r ≡ done
      → DaySays m d g g₁ (take (k * (c + 1) - 0) lent₁) out out₁ r → ByteDaySays n d g g₁ bs lent lent₁ out out₁ r
  byte_day w m c k day r a b e f h l o s =
      let l' : lent₁ ≡ lent_after n bs lent = l ∙ ap₂ (λ (u : ℕ) (ys : List ℕ). lent_after u ys lent) a f in
      let h' : k ≡ whole_deeds n bs lent = h ∙ ap₂ (λ (u : ℕ) (ys : List ℕ). whole_deeds u ys lent) a f in
      says_read (take (k * (c + 1) - 0) lent₁) r (read_front n k c bs lent lent₁ h' (e ∙ a) l') l' o
      (subst (λ (u : ℕ). DaySays u d g g₁ (take (k * (c + 1) - 0) lent₁) out out₁ r) b s)
