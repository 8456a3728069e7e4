-- The first tableau, row by row, and what the last one says. Assumes nothing.
use Rattle.std.proofs.Common.{◌≡◌, ℕ, suc, ◌+◌, ◌<◌, ◌≤◌, Bool, true, false, ltb, List, [], ◌∷◌, ◌++◌, length, get_or, take, set, sym, refl, ap, ◌∙◌, subst, inl, inr, append_assoc, add-one, arith, length-set}
use Rattle.std.proofs.lemmas.Bool.{cases_Bool, ltb-true, ltb-false, true≢false}
use Rattle.std.proofs.lemmas.List.{take_more_set}
use Rattle.columns.specs.Cols.{columns}
use Rattle.columns.specs.Every.{any}
use Rattle.columns.proofs.Columns.{below}
use Rattle.columns.proofs.Everyone.{any_some, any_from}
use Rattle.columns.proofs.Members.{at_in}
use Rattle.dependencies.specs.Tables.{Row, Dep, agree, draw, zero_row}
use Rattle.dependencies.proofs.Drawn.{drawn}
use Rattle.dependencies.proofs.Rows.{agree_same, same_agree}
use Rattle.dependencies.proofs.Smalls.{Small}
use Rattle.verdict.specs.Chase.{first_cell, tableau}
use Rattle.verdict.specs.Deciding.{Decides}
use Rattle.schema.specs.Design.{Part, LosesNothing}
use Rattle.verdict.specs.Sweeps.{Chased, AllQuiet}
use Rattle.verdict.proofs.ChaseComplete.{Zeros, start_zeros, mend_zeros, faultless_zeros}
use Rattle.verdict.proofs.ChaseSound.{Reads, reads_mend, start_reads, choose, value}
use Rattle.verdict.proofs.Faults.{fault_why, Faultless}
use Rattle.schema.proofs.Looks.{seen_loses}
use Rattle.verdict.proofs.Sweeping.{chased_kept}

-- the rows before i are written, and the parts that are left make those behind
pub record Laying (n : ℕ) (rows : List Row) (i : ℕ) (left all : List Part) : Type 0 where
  pub front : take i rows ++ tableau n i left ≡ tableau n 0 all
  pub count : i + length left ≡ length rows

pub laying_turn : (n : ℕ) (rows : List Row) (i : ℕ) (r : Row) (p : Part) (left rest all : List Part) → i < length rows → left ≡ p ∷ rest
    → r ≡ draw (first_cell p.cols (i + 1)) 0 n → Laying n rows i left all → Laying n (set rows i r) (i + 1) rest all
laying_turn n rows i r p left rest all l e q h =
    let cs = p.cols in
    let a : take (i + 1) (set rows i r) ≡ take i rows ++ r ∷ [] = take_more_set rows i r l in
    let next : tableau n (i + 1) rest ≡ tableau n (suc i) rest = ap (λ (k : ℕ). tableau n k rest) (add-one i) in
    let row : r ≡ draw (first_cell cs (suc i)) 0 n = q ∙ ap (λ (k : ℕ). draw (first_cell cs k) 0 n) (add-one i) in
    let len : length left ≡ suc (length rest) = ap length e in
    record {
      front =
          ap (λ (v : List Row). v ++ tableau n (i + 1) rest) a
          ∙ append_assoc (take i rows) (r ∷ []) (tableau n (i + 1) rest)
          ∙ ap (λ (v : List Row). take i rows ++ r ∷ v) next
          ∙ ap (λ (v : Row). take i rows ++ v ∷ tableau n (suc i) rest) row
          ∙ ap (λ (v : List Part). take i rows ++ tableau n i v) (sym e)
          ∙ h.front;
      count = omega (arith, h.count, length-set rows i r);
    }

quiet_faultless : (ds : List Dep) (t : List Row) → AllQuiet ds t → Faultless ds t
quiet_faultless ds t q f h =
    let w = fault_why ds t f h in
    let i = at_in t w.one [] w.one_there in
    let j = at_in t w.two [] w.two_there in
    let same : (a b : Row) (x y : ℕ) → x < y → y < length t → get_or t x [] ≡ a → get_or t y [] ≡ b → agree w.rule.left a b ≡ true → agree w.rule.right a b ≡ true
    = λ a b x y l m d e.
    subst (λ v. agree w.rule.left v b ≡ true → agree w.rule.right v b ≡ true) d
    (subst (λ v. agree w.rule.left (get_or t x []) v ≡ true → agree w.rule.right (get_or t x []) v ≡ true) e (q w.rule w.rule_there x (omega arith) y l m)) in
    let c = f.column in
    let lower : get_or w.one c 0 < get_or w.two c 0 = (let x = w.low_is in let y = w.high_is in let z = w.lower in omega arith) in
    elim (cases_Bool (ltb i.0 j.0)) [
      | inl a ↦
          let e = agree_same w.rule.right w.one w.two (same w.one w.two i.0 j.0 (ltb-true i.0 j.0 a) j.1 i.2 j.2 w.agrees) c w.right_of in
          absurd (omega arith)
      | inr a ↦
          elim (cases_Bool (ltb j.0 i.0)) [
            | inl b ↦
                let back : agree w.rule.left w.two w.one ≡ true
                = same_agree w.rule.left w.two w.one (λ x k. sym (agree_same w.rule.left w.one w.two w.agrees x k)) in
                let e = agree_same w.rule.right w.two w.one (same w.two w.one j.0 i.0 (ltb-true j.0 i.0 b) i.1 j.2 i.2 back) c w.right_of in
                absurd (omega arith)
            | inr b ↦
                let x = ltb-false i.0 j.0 a in
                let y = ltb-false j.0 i.0 b in
                let z : i.0 ≡ j.0 = omega arith in
                let e : w.one ≡ w.two = sym i.2 ∙ ap (λ (k : ℕ). get_or t k []) z ∙ j.2 in
                let d : get_or w.one c 0 ≡ get_or w.two c 0 = ap (λ (v : Row). get_or v c 0) e in
                absurd (omega arith)
          ]
    ]

-- a row of zeros, of which the table has n columns, looks like no row at all
zeros_agree : (n m : ℕ) (x : Row) → n ≤ m → agree (columns 0 n) (zero_row m) x ≡ true → agree (columns 0 n) [] x ≡ true
zeros_agree n m x l e =
    same_agree (columns 0 n) [] x (λ c i. sym (drawn (λ k. 0) m c (let b = below n c i in omega arith)) ∙ agree_same (columns 0 n) (zero_row m) x e c i)

agree_zeros : (n m : ℕ) (x : Row) → n ≤ m → agree (columns 0 n) [] x ≡ true → agree (columns 0 n) (zero_row m) x ≡ true
agree_zeros n m x l e =
    same_agree (columns 0 n) (zero_row m) x (λ c i. drawn (λ k. 0) m c (let b = below n c i in omega arith) ∙ agree_same (columns 0 n) [] x e c i)

module _ (n m : ℕ) (ds : List Dep) (ps : List Part) (u : List Row) where
  abbrev Zero : Row → Bool
  Zero x = agree (columns 0 n) (zero_row m) x

  chased_sound : n ≤ m → Small n ds → Chased ds (tableau m 0 ps) u → any u Zero ≡ true → LosesNothing n ds ps
  chased_sound l small steps h =
      let s = any_some u Zero h in
      let x = s.0 in
      let z = zeros_agree n m x l s.2 in
      let wide : Small m ds = λ d i c. (λ k. (let a = (small d i c).0 k in omega arith), λ k. (let a = (small d i c).1 k in omega arith)) in
      seen_loses n ds ps (λ t r o looks.
      let us = choose t r ps looks in
      let v = value r us.0 in
      let start : Reads m t v (tableau m 0 ps) = start_reads m t r v (λ c. refl) 0 ps us.0 us.1 (λ c j. let e : suc (0 + j) ≡ suc j = omega arith in ap (v c) e) in
      let w = chased_kept ds (Reads m t v) (reads_mend m ds wide t o v) (tableau m 0 ps) u steps start x s.1 in
      (w.0, w.1, λ c i. ap (v c) (agree_same (columns 0 n) [] x z c i) ∙ w.2 c (let b = below n c i in omega arith)))

  chased_complete : n ≤ m → 0 < length ps → Chased ds (tableau m 0 ps) u → AllQuiet ds u → LosesNothing n ds ps → any u Zero ≡ true
  chased_complete l some· steps q loses =
      let z = chased_kept ds (Zeros ps) (mend_zeros ds ps) (tableau m 0 ps) u steps (start_zeros m 0 ps) in
      let s = faultless_zeros n ds ps some· loses u (quiet_faultless ds u q) z in
      any_from u Zero s.0 s.1 (agree_zeros n m s.0 l s.2)

  -- some row of the last tableau is all 0 exactly if nothing is lost
  pub chased_decides : n ≤ m → Small n ds → 0 < length ps → Chased ds (tableau m 0 ps) u → AllQuiet ds u → (r : Bool) → r ≡ any u Zero → Decides (LosesNothing n ds ps) r
  chased_decides l small some· steps q true e = chased_sound l small steps (sym e)
  chased_decides l small some· steps q false e = λ loses. true≢false (sym (chased_complete l some· steps q loses) ∙ sym e)
