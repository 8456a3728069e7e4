-- A new look written into a part's cells.
use Rattle.std.proofs.Common.{◌≡◌, ℕ, ◌+◌, ◌-◌, ◌*◌, ◌<◌, ◌≤◌, List, [], ◌∷◌, ◌++◌, length, get_or, take, drop, set, sym, ap, ◌∙◌, ap₂, arith}
use borrow.Rule.Slice.PartMut.{put_mid}
use Rattle.std.proofs.lemmas.List.{take_all, take_more, take_more_set, drop_more, append_assoc, append-nil, drop-set-lt, drop-drop, drop_all, length-drop, set_at, set-append_right, set_past, length-append}

-- writing a new look
pub cell_written : (e xs M : List ℕ) (c v : ℕ) → c < length xs → c < length M → v ≡ get_or M c 0 → take c xs ≡ take c M → drop c xs ≡ drop c e
    → (take (c + 1) (set xs c v) ≡ take (c + 1) M) × (drop (c + 1) (set xs c v) ≡ drop (c + 1) e)
cell_written e xs M c v l m q t d = (
  take_more_set xs c v l ∙ ap₂ (λ (a : List ℕ) (b : ℕ). a ++ (b ∷ [])) t q ∙ sym (take_more M c 0 m),
  drop-set-lt (c + 1) xs c v (omega arith) ∙ sym (drop-drop 1 c xs) ∙ ap (λ (z : List ℕ). drop 1 z) d ∙ drop-drop 1 c e,
)

pub row_written : (e xs M : List ℕ) (n c : ℕ) → n < length e → n ≤ c → length xs ≡ n → length M ≡ n → take c xs ≡ take c M → set (xs ++ drop n e) n 1 ≡ M ++ (1 ∷ drop (n + 1) e)
row_written e xs M n c l q k m t =
    let a : xs ++ drop n e ≡ M ++ (get_or e n 0 ∷ drop (n + 1) e)
    = ap₂ (λ (u v : List ℕ). u ++ v) (sym (take_all c xs (omega arith)) ∙ t ∙ take_all c M (omega arith)) (drop_more e n 0 l) in
    ap (λ (z : List ℕ). set z n 1) a ∙ set_at M (get_or e n 0) (drop (n + 1) e) 1 n m

pub row_ended : (e xs M : List ℕ) (n : ℕ) → length M ≡ n → xs ≡ M ++ (1 ∷ drop (n + 1) e) → set xs (2 * n + 1) 0 ≡ M ++ (1 ∷ set (drop (n + 1) e) n 0)
row_ended e xs M n m q =
    let one : List ℕ = 1 ∷ [] in
    let a : xs ≡ (M ++ one) ++ drop (n + 1) e = q ∙ sym (append_assoc M one (drop (n + 1) e)) in
    let k : 2 * n + 1 - (n + 1) ≡ n = omega arith in
    ap (λ (z : List ℕ). set z (2 * n + 1) 0) a
    ∙ set-append_right (M ++ one) (drop (n + 1) e) (n + 1) (2 * n + 1) 0 (length-append M one ∙ omega arith) (omega arith)
    ∙ ap (λ (z : ℕ). (M ++ one) ++ set (drop (n + 1) e) z 0) k ∙ append_assoc M one (set (drop (n + 1) e) n 0)

pub row_last : (e xs M : List ℕ) (n : ℕ) → length e ≤ 2 * n + 1 → xs ≡ M ++ (1 ∷ drop (n + 1) e) → xs ≡ M ++ (1 ∷ set (drop (n + 1) e) n 0)
row_last e xs M n l q = q ∙ ap (λ (z : List ℕ). M ++ (1 ∷ z)) (sym (set_past (drop (n + 1) e) n 0 (simp length-drop (omega arith))))

-- the end of a lent row, written
pub put_end : (xs ys : List ℕ) (a : ℕ) → put_mid a (length xs - a) xs ys ≡ take a xs ++ ys
put_end xs ys a =
    let none : drop (length xs - a) (drop a xs) ≡ [] = drop_all (length xs - a) (drop a xs) (simp length-drop (omega arith)) in
    rw none (ap (λ (z : List ℕ). take a xs ++ z) (append-nil ys))
