-- How many rows of a table agree with a row in some columns, and how this changes as a row comes or goes.
use Rattle.std.proofs.Common.{◌≡◌, ℕ, ◌+◌, Bool, true, false, ltb, List, [], ◌∷◌, ◌++◌, length, sym, refl, ap, ◌∙◌, inl, inr, zero-add, arith}
use Rattle.columns.proofs.Members.{pick_both}
use Rattle.std.proofs.lemmas.Bool.{false≢true, lt-ltb}
use Rattle.dependencies.specs.Tables.{Row, agree}
use Rattle.columns.specs.Cols.{Cols, all_in, pick}
use Rattle.parts.specs.Day.{present, without}
use Rattle.columns.specs.Members.{In, Sub}
use Rattle.parts.proofs.Agree.{agree_like, agree_inside}

abbrev pub one : Bool → ℕ
one true = 1
one false = 0

unfoldable pub count : Cols → Row → List Row → ℕ
count cs r [] = 0
count cs r (s ∷ ss) = one (agree cs r s) + count cs r ss

pub count_length : (t : List Row) → count [] [] t ≡ length t
unfolding count agree
count_length [] = refl
count_length (s ∷ t) = let e = count_length t in omega arith

pub present_count : (cs : Cols) (r : Row) (t : List Row) → present cs r t ≡ ltb 0 (count cs r t)
unfolding present count
present_count cs r [] = refl
present_count cs r (s ∷ ss) = go (agree cs r s) (present_count cs r ss)
  where
    go : (b : Bool) → present cs r ss ≡ ltb 0 (count cs r ss) → pick b true (present cs r ss) ≡ ltb 0 (one b + count cs r ss)
    go true e = sym (lt-ltb 0 (1 + count cs r ss) (omega arith))
    go false e = rw zero-add e

pub present_in : (cs : Cols) (r : Row) (t : List Row) → present cs r t ≡ true → (s : Row) × In s t × (agree cs r s ≡ true)
unfolding present
present_in cs r [] h = absurd (false≢true h)
present_in cs r (s ∷ ss) h = go (agree cs r s) refl h (present_in cs r ss)
  where
    go : (b : Bool) → agree cs r s ≡ b → pick b true (present cs r ss) ≡ true
        → (present cs r ss ≡ true → (u : Row) × In u ss × (agree cs r u ≡ true)) → (u : Row) × In u (s ∷ ss) × (agree cs r u ≡ true)
    go true e k f = (s, inl refl, e)
    go false e k f = let u = f k in (u.0, inr u.1, u.2)

pub in_present : (cs : Cols) (r s : Row) (t : List Row) → In s t → agree cs r s ≡ true → present cs r t ≡ true
unfolding present
in_present cs r s [] k a = absurd k
in_present cs r s (b ∷ t) k a =
    elim k [
      | inl e ↦ ap (λ (v : Bool). pick v true (present cs r t)) (ap (λ (u : Row). agree cs r u) e ∙ a)
      | inr i ↦ pick_both (agree cs r b) true (present cs r t) (λ v. v ≡ true) (λ z. refl) (λ z. in_present cs r s t i a)
    ]

pub present_inside : (p cs : Cols) (r : Row) (t : List Row) → all_in p cs ≡ true → present cs r t ≡ true → present p r t ≡ true
present_inside p cs r t i h = let u = present_in cs r t h in in_present p r u.0 t u.1 (agree_inside p cs r u.0 i u.2)

pub count_come : (cs : Cols) (q r : Row) (t : List Row) → count cs q (t ++ r ∷ []) ≡ one (agree cs q r) + count cs q t
unfolding count
count_come cs q r [] = refl
count_come cs q r (s ∷ t) = let e = count_come cs q r t in omega arith

pub count_go : (p cs : Cols) (q r : Row) (t : List Row) → all_in p cs ≡ true → present cs r t ≡ true
    → count p q t ≡ one (agree p q r) + count p q (without cs r t)
unfolding count without present
count_go p cs q r [] i h = absurd (false≢true h)
count_go p cs q r (s ∷ t) i h = go (agree cs r s) refl h (count_go p cs q r t i)
  where
    go : (b : Bool) → agree cs r s ≡ b → pick b true (present cs r t) ≡ true
        → (present cs r t ≡ true → count p q t ≡ one (agree p q r) + count p q (without cs r t))
        → count p q (s ∷ t) ≡ one (agree p q r) + count p q (pick b t (s ∷ without cs r t))
    go true e k f = rw (agree_like p q r s (agree_inside p cs r s i e))
    go false e k f = let g = f k in omega arith

pub without_in : (cs : Cols) (r : Row) (t : List Row) → Sub (without cs r t) t
unfolding without
without_in cs r [] s k = k
without_in cs r (u ∷ t) s k = go (agree cs r u) k (without_in cs r t s)
  where
    go : (b : Bool) → In s (pick b t (u ∷ without cs r t)) → (In s (without cs r t) → In s t) → In s (u ∷ t)
    go true m f = inr m
    go false m f = elim m [ inl e ↦ inl e | inr i ↦ inr (f i) ]
