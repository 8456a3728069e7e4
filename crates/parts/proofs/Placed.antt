-- A look that is counted once more or once less, by its place.
use Rattle.std.proofs.Common.{◌≡◌, ℕ, suc, ◌+◌, ◌-◌, ◌<◌, ◌≤◌, Bool, true, false, eqb, ltb, List, [], ◌∷◌, ◌++◌, length, get_or, take, drop, Ok, Err, Result, sym, refl, ap, ◌∙◌, inl, inr, arith}
use Rattle.std.specs.Result.{is_ok}
use Rattle.std.proofs.lemmas.Bool.{lt-ltb, le-ltb, eq-eqb, ne_eqb, cases_lt}
use Rattle.dependencies.specs.Tables.{Row, agree}
use Rattle.columns.specs.Cols.{Cols, pick}
use Rattle.parts.specs.Day.{Held, holds, one_more, one_less, masked}
use Rattle.parts.specs.Store.{place_in, no_held}
use Rattle.parts.specs.Places.{Found}

ltb_suc : (a b : ℕ) → ltb a b ≡ ltb (suc a) (suc b)
ltb_suc a b =
    elim (cases_lt a b) [
      | inl l ↦ lt-ltb a b l ∙ sym (lt-ltb (suc a) (suc b) (omega arith))
      | inr l ↦ le-ltb a b l ∙ sym (le-ltb (suc a) (suc b) (omega arith))
    ]

pub place_le : (p : Cols) (r : Row) (hs : List Held) → place_in p r hs ≤ length hs
unfolding place_in
place_le p r [] = omega arith
place_le p r (h ∷ hs) = go (agree p r h.looks) (place_le p r hs)
  where
    go : (b : Bool) → place_in p r hs ≤ length hs → pick b 0 (suc (place_in p r hs)) ≤ suc (length hs)
    go true l = omega arith
    go false l = omega arith

pub holds_place : (p : Cols) (r : Row) (hs : List Held) → holds p r hs ≡ ltb (place_in p r hs) (length hs)
unfolding place_in holds
holds_place p r [] = sym (le-ltb 0 0 (omega arith))
holds_place p r (h ∷ hs) = go (agree p r h.looks) (holds_place p r hs)
  where
    go : (b : Bool) → holds p r hs ≡ ltb (place_in p r hs) (length hs) → pick b true (holds p r hs) ≡ ltb (pick b 0 (suc (place_in p r hs))) (suc (length hs))
    go true l = sym (lt-ltb 0 (suc (length hs)) (omega arith))
    go false l = l ∙ ltb_suc (place_in p r hs) (length hs)

-- a row that was found is held
pub held_tells : (p : Cols) (r : Row) (hs : List Held) (at : Result ℕ ℕ) → Found p r hs at → is_ok at ≡ holds p r hs
held_tells p r hs (Ok i) w = sym (holds_place p r hs ∙ lt-ltb (place_in p r hs) (length hs) (omega arith))
held_tells p r hs (Err i) w = sym (holds_place p r hs ∙ le-ltb (place_in p r hs) (length hs) (omega arith))

pub more_at : (p : Cols) (r : Row) (hs : List Held) → place_in p r hs < length hs
    → one_more p r hs
    ≡ take (place_in p r hs) hs ++ (record { looks = (get_or hs (place_in p r hs) no_held).looks; times = (get_or hs (place_in p r hs) no_held).times + 1 } ∷ drop (suc (place_in p r hs)) hs)
unfolding place_in one_more
more_at p r [] l = absurd (omega arith)
more_at p r (h ∷ hs) l = go (agree p r h.looks) l (more_at p r hs)
  where
    go : (b : Bool) → pick b 0 (suc (place_in p r hs)) < suc (length hs)
        → (place_in p r hs < length hs → one_more p r hs
        ≡ take (place_in p r hs) hs ++ (record { looks = (get_or hs (place_in p r hs) no_held).looks; times = (get_or hs (place_in p r hs) no_held).times + 1 } ∷ drop (suc (place_in p r hs)) hs))
        → pick b (record { looks = h.looks; times = h.times + 1 } ∷ hs) (h ∷ one_more p r hs)
        ≡ take (pick b 0 (suc (place_in p r hs))) (h ∷ hs)
        ++ (record { looks = (get_or (h ∷ hs) (pick b 0 (suc (place_in p r hs))) no_held).looks; times = (get_or (h ∷ hs) (pick b 0 (suc (place_in p r hs))) no_held).times + 1 }
        ∷ drop (suc (pick b 0 (suc (place_in p r hs)))) (h ∷ hs))
    go true k f = refl
    go false k f = ap (λ (z : List Held). h ∷ z) (f (omega arith))

pub more_new : (p : Cols) (r : Row) (hs : List Held) → length hs ≤ place_in p r hs → one_more p r hs ≡ hs ++ (record { looks = masked p 0 r; times = 1 } ∷ [])
unfolding place_in one_more
more_new p r [] l = refl
more_new p r (h ∷ hs) l = go (agree p r h.looks) l (more_new p r hs)
  where
    go : (b : Bool) → suc (length hs) ≤ pick b 0 (suc (place_in p r hs))
        → (length hs ≤ place_in p r hs → one_more p r hs ≡ hs ++ (record { looks = masked p 0 r; times = 1 } ∷ []))
        → pick b (record { looks = h.looks; times = h.times + 1 } ∷ hs) (h ∷ one_more p r hs) ≡ h ∷ (hs ++ (record { looks = masked p 0 r; times = 1 } ∷ []))
    go true k f = absurd (omega arith)
    go false k f = ap (λ (z : List Held). h ∷ z) (f (omega arith))

pub less_last : (p : Cols) (r : Row) (hs : List Held) → place_in p r hs < length hs → (get_or hs (place_in p r hs) no_held).times ≡ 1
    → one_less p r hs ≡ take (place_in p r hs) hs ++ drop (suc (place_in p r hs)) hs
unfolding place_in one_less
less_last p r [] l e = absurd (omega arith)
less_last p r (h ∷ hs) l e = go (agree p r h.looks) l e (less_last p r hs)
  where
    go : (b : Bool) → pick b 0 (suc (place_in p r hs)) < suc (length hs) → (get_or (h ∷ hs) (pick b 0 (suc (place_in p r hs))) no_held).times ≡ 1
        → (place_in p r hs < length hs → (get_or hs (place_in p r hs) no_held).times ≡ 1 → one_less p r hs ≡ take (place_in p r hs) hs ++ drop (suc (place_in p r hs)) hs)
        → pick b (pick (eqb h.times 1) hs (record { looks = h.looks; times = h.times - 1 } ∷ hs)) (h ∷ one_less p r hs)
        ≡ take (pick b 0 (suc (place_in p r hs))) (h ∷ hs) ++ drop (suc (pick b 0 (suc (place_in p r hs)))) (h ∷ hs)
    go true k z f = rw (eq-eqb h.times 1 z)
    go false k z f = ap (λ (u : List Held). h ∷ u) (f (omega arith) z)

pub less_at : (p : Cols) (r : Row) (hs : List Held) → place_in p r hs < length hs → ((get_or hs (place_in p r hs) no_held).times ≡ 1 → ⊥)
    → one_less p r hs
    ≡ take (place_in p r hs) hs ++ (record { looks = (get_or hs (place_in p r hs) no_held).looks; times = (get_or hs (place_in p r hs) no_held).times - 1 } ∷ drop (suc (place_in p r hs)) hs)
unfolding place_in one_less
less_at p r [] l e = absurd (omega arith)
less_at p r (h ∷ hs) l e = go (agree p r h.looks) l e (less_at p r hs)
  where
    go : (b : Bool) → pick b 0 (suc (place_in p r hs)) < suc (length hs) → ((get_or (h ∷ hs) (pick b 0 (suc (place_in p r hs))) no_held).times ≡ 1 → ⊥)
        → (place_in p r hs < length hs → ((get_or hs (place_in p r hs) no_held).times ≡ 1 → ⊥) → one_less p r hs
        ≡ take (place_in p r hs) hs ++ (record { looks = (get_or hs (place_in p r hs) no_held).looks; times = (get_or hs (place_in p r hs) no_held).times - 1 } ∷ drop (suc (place_in p r hs)) hs))
        → pick b (pick (eqb h.times 1) hs (record { looks = h.looks; times = h.times - 1 } ∷ hs)) (h ∷ one_less p r hs)
        ≡ take (pick b 0 (suc (place_in p r hs))) (h ∷ hs)
        ++ (record { looks = (get_or (h ∷ hs) (pick b 0 (suc (place_in p r hs))) no_held).looks; times = (get_or (h ∷ hs) (pick b 0 (suc (place_in p r hs))) no_held).times - 1 }
        ∷ drop (suc (pick b 0 (suc (place_in p r hs)))) (h ∷ hs))
    go true k z f = rw (ne_eqb h.times 1 z)
    go false k z f = ap (λ (u : List Held). h ∷ u) (f (omega arith) z)
