-- A drawn row has the cells that it was drawn from. Assumes nothing.
use Rattle.std.proofs.Common.{◌≡◌, ℕ, zero, suc, ◌+◌, ◌<◌, ◌≤◌, List, [], ◌∷◌, length, get_or, take, refl, ap, ◌∙◌, arith}
use Rattle.dependencies.specs.Tables.{draw}

drawn_from : (f : ℕ → ℕ) (a k i : ℕ) → i < k → get_or (draw f a k) i 0 ≡ f (a + i)
drawn_from f a zero i l = absurd (omega arith)
drawn_from f a (suc k) zero l = ap f (omega arith)
drawn_from f a (suc k) (suc i) l = drawn_from f (suc a) k i (omega arith) ∙ ap f (omega arith)

pub drawn : (f : ℕ → ℕ) (k c : ℕ) → c < k → get_or (draw f 0 k) c 0 ≡ f c
drawn f k c l = drawn_from f 0 k c l ∙ ap f (omega arith)

-- past its end a row has 0
past_from : (f : ℕ → ℕ) (a k i : ℕ) → k ≤ i → get_or (draw f a k) i 0 ≡ 0
past_from f a zero i l = refl
past_from f a (suc k) zero l = absurd (omega arith)
past_from f a (suc k) (suc i) l = past_from f (suc a) k i (omega arith)

pub past : (f : ℕ → ℕ) (k c : ℕ) → k ≤ c → get_or (draw f 0 k) c 0 ≡ 0
past f k c l = past_from f 0 k c l

-- the first cells of a list are a drawn row if each of them is
take_drawn : (f : ℕ → ℕ) (a k : ℕ) (xs : List ℕ) → k ≤ length xs → ((i : ℕ) → i < k → get_or xs i 0 ≡ f (a + i)) → take k xs ≡ draw f a k
take_drawn f a zero xs l h = refl
take_drawn f a (suc k) [] l h = absurd (omega arith)
take_drawn f a (suc k) (x ∷ xs) l h =
    let head : x ≡ f a = h 0 (omega arith) ∙ ap f (omega arith) in
    let tail : take k xs ≡ draw f (suc a) k = take_drawn f (suc a) k xs (omega arith) (λ i m. h (suc i) (omega arith) ∙ ap f (omega arith)) in
    ap (λ v. v ∷ take k xs) head ∙ ap (λ v. f a ∷ v) tail

pub cells_drawn : (f : ℕ → ℕ) (k : ℕ) (xs : List ℕ) → k ≤ length xs → ((i : ℕ) → i < k → get_or xs i 0 ≡ f i) → take k xs ≡ draw f 0 k
cells_drawn f k xs l h = take_drawn f 0 k xs l (λ i m. h i m ∙ ap f (omega arith))

-- the first cells of a drawn row
pub take_draw : (f : ℕ → ℕ) (a n k : ℕ) → n ≤ k → take n (draw f a k) ≡ draw f a n
take_draw f a zero k l = refl
take_draw f a (suc n) zero l = absurd (omega arith)
take_draw f a (suc n) (suc k) l = ap (λ v. f a ∷ v) (take_draw f (suc a) n k (omega arith))
