-- Clean cells are what the held rows write: each row's look and its count, and then nothing but 0.
use Rattle.std.proofs.Common.{◌≡◌, ℕ, zero, suc, ◌+◌, ◌-◌, ◌*◌, ◌≤◌, eqb, List, [], ◌∷◌, ◌++◌, length, get_or, take, drop, replicate, sym, refl, ap, ◌∙◌, subst, ap₂, inl, inr, arith}
use Rattle.std.proofs.lemmas.List.{take-append-drop, drop_more, drop-drop, take-take, drop-take, get_or-drop, get_or-take, get_or-replicate, length-take-le, length-drop, length-replicate, nil_from_length, ext_get_or}
use Rattle.std.proofs.lemmas.Bool.{cases_Bool, eqb-true, eqb-false}
use Rattle.parts.specs.Day.{Held}
use Rattle.parts.specs.Store.{held_row, held_in, all_held, room_of, Clean, AllClean, rows_written, cells_written}
use Rattle.register.specs.Theorems.{ToTheLetter}
use Rattle.parts.proofs.Decoded.{held_stop, held_more}
use Rattle.parts.proofs.Spaces.{suc_row}
use Rattle.parts.proofs.Walks.{shares_fit}

-- a row that counts nothing, with all behind it
zero_rows : (n k : ℕ) (xs : List ℕ) → length xs ≡ k * (n + 1) → ((j : ℕ) → get_or xs j 0 ≡ 0) → xs ≡ rows_written n k []
unfolding rows_written
zero_rows n zero xs e z = nil_from_length xs (omega arith)
zero_rows n (suc k) xs e z =
    let s = suc_row k (n + 1) in
    let t : length (take (n + 1) xs) ≡ n + 1 = length-take-le (n + 1) xs (omega arith) in
    let r : length (replicate {A = ℕ} (n + 1) 0) ≡ n + 1 = length-replicate (n + 1) 0 in
    let f : take (n + 1) xs ≡ replicate (n + 1) 0 = ext_get_or 0 (take (n + 1) xs) (replicate (n + 1) 0) (t ∙ sym r)
    (λ i h. get_or-take (n + 1) xs i 0 (omega arith) ∙ z i ∙ sym (get_or-replicate (n + 1) i 0 0 (omega arith))) in
    sym (take-append-drop (n + 1) xs)
    ∙ ap₂ (λ (u v : List ℕ). u ++ v) f (zero_rows n k (drop (n + 1) xs) (length-drop (n + 1) xs ∙ omega arith) (λ j. get_or-drop (n + 1) xs j 0 ∙ z (n + 1 + j)))

clean_rows : (n k : ℕ) (xs : List ℕ) → length xs ≡ k * (n + 1) → Clean n k xs → xs ≡ rows_written n k (held_in n k xs)
unfolding rows_written held_row
clean_rows n zero xs e c = nil_from_length xs (omega arith)
clean_rows n (suc k) xs e c = elim (cases_Bool (eqb (get_or xs n 0) 0)) [
  | inl t ↦
      let h : held_in n (suc k) xs ≡ [] = held_stop n (suc k) xs (eqb-true _ _ t) in
      let l : length (held_in n (suc k) xs) ≡ 0 = ap length h in
      zero_rows n (suc k) xs e (λ j. c j (subst (λ (m : ℕ). m * (n + 1) ≤ j) (sym l) (omega arith))) ∙ ap (λ (hs : List Held). rows_written n (suc k) hs) (sym h)
  | inr t ↦
      let s = suc_row k (n + 1) in
      let z : suc k - 1 ≡ k = omega arith in
      let D : List ℕ = drop (n + 1) xs in
      let h : held_in n (suc k) xs ≡ held_row n xs ∷ held_in n k D
      = held_more n (suc k) xs (omega arith) (eqb-false _ _ t) ∙ ap (λ (m : ℕ). held_row n xs ∷ held_in n m D) z in
      let l : length (held_in n (suc k) xs) ≡ suc (length (held_in n k D)) = ap length h in
      let i : D ≡ rows_written n k (held_in n k D) = clean_rows n k D (length-drop (n + 1) xs ∙ omega arith)
      (λ j g. get_or-drop (n + 1) xs j 0 ∙ c (n + 1 + j) (subst (λ (m : ℕ). m * (n + 1) ≤ n + 1 + j) (sym l) (omega (arith, suc_row (length (held_in n k D)) (n + 1))))) in
      sym (take-append-drop n xs)
      ∙ ap (λ (u : List ℕ). take n xs ++ u) (drop_more xs n 0 (omega arith) ∙ ap (λ (u : List ℕ). get_or xs n 0 ∷ u) i)
      ∙ ap (λ (hs : List Held). rows_written n (suc k) hs) (sym h)
]

clean_parts : (n room k : ℕ) (xs : List ℕ) → k * (room * (n + 1)) ≤ length xs → AllClean n room k xs → take (k * (room * (n + 1))) xs ≡ cells_written n room (all_held n room k xs)
unfolding cells_written all_held
clean_parts n room zero xs l c = let z : zero * (room * (n + 1)) ≡ 0 = omega arith in ap (λ (m : ℕ). take m xs) z ∙ nothing xs
  where
    nothing : (xs : List ℕ) → take 0 xs ≡ []
    nothing [] = refl
    nothing (x ∷ xs) = refl
clean_parts n room (suc k) xs l c =
    let S : ℕ = room * (n + 1) in
    let s : suc k * S ≡ S + k * S = suc_row k S in
    let t : length (take S xs) ≡ S = length-take-le S xs (omega arith) in
    let first : 0 * S ≡ 0 = omega arith in
    let here : Clean n room (take S xs) = subst (λ (z : ℕ). Clean n room (take S (drop z xs))) first (c 0 (omega arith)) in
    ap (λ (m : ℕ). take m xs) s ∙ sym (take-append-drop S (take (S + k * S) xs))
    ∙ ap₂ (λ (u v : List ℕ). u ++ v)
    (take-take S (S + k * S) xs (omega arith) ∙ clean_rows n room (take S xs) t here)
    (drop-take S (k * S) xs
    ∙ clean_parts n room k (drop S xs) (simp length-drop (omega arith))
    (λ p h.
    let next : drop (suc p * S) xs ≡ drop (p * S) (drop S xs) = ap (λ (m : ℕ). drop m xs) (suc_row p S) ∙ sym (drop-drop (p * S) S xs) in
    subst (λ (z : List ℕ). Clean n room (take S z)) next (c (suc p) (omega arith))))

pub to_the_letter : ToTheLetter
unfolding ToTheLetter
to_the_letter n d g c = clean_parts n (room_of n d g) (get_or d 0 0) g (shares_fit (length g) (get_or d 0 0) (n + 1)) c
