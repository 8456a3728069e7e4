-- What comes and what goes change the parts each by itself.
use Rattle.std.proofs.Common.{◌≡◌, ℕ, zero, suc, ◌+◌, ◌<◌, Bool, true, false, List, [], ◌∷◌, length, get_or, Some, None, refl, ap, arith}
use Rattle.std.proofs.lemmas.Bool.{and_parts}
use Rattle.columns.specs.Cols.{pick}
use Rattle.dependencies.specs.Tables.{Row}
use Rattle.schema.specs.Design.{Part, no_part}
use Rattle.parts.specs.Answers.{full, first_full_part}
use Rattle.parts.specs.Changes.{Apart, EachMay}
use Rattle.parts.specs.Day.{Held, holds, all_hold, one_more, one_less, all_more, all_less}

-- a design that is not full has no full part
none_full : (j room : ℕ) (ps : List Part) (hs : List (List Held)) (r : Row) (p : ℕ) → first_full_part j room ps hs r ≡ None → p < length ps → length hs ≡ length ps
    → full room (get_or ps p no_part).cols r (get_or hs p []) ≡ false
unfolding first_full_part
none_full j room [] hs r p e l m = absurd (omega arith)
none_full j room (x ∷ ps) [] r p e l m = absurd (omega arith)
none_full j room (x ∷ ps) (h ∷ hs) r p e l m = go (full room x.cols r h) refl e (λ f q b. none_full (j + 1) room ps hs r q f b (omega arith)) p l
  where
    go : (b : Bool) → full room x.cols r h ≡ b → pick b (Some j) (first_full_part (j + 1) room ps hs r) ≡ None
        → (first_full_part (j + 1) room ps hs r ≡ None → (q : ℕ) → q < length ps → full room (get_or ps q no_part).cols r (get_or hs q []) ≡ false)
        → (p : ℕ) → p < suc (length ps) → full room (get_or (x ∷ ps) p no_part).cols r (get_or (h ∷ hs) p []) ≡ false
    go true f e rec p l = let z : ◌≡◌ {A = ℕ} 0 1 = cc in absurd (omega arith)
    go false f e rec zero l = f
    go false f e rec (suc q) l = rec e q (omega arith)

hold_at : (ps : List Part) (hs : List (List Held)) (r : Row) (p : ℕ) → all_hold ps hs r ≡ true → p < length ps → length hs ≡ length ps
    → holds (get_or ps p no_part).cols r (get_or hs p []) ≡ true
unfolding all_hold
hold_at [] hs r p e l m = absurd (omega arith)
hold_at (x ∷ ps) [] r p e l m = absurd (omega arith)
hold_at (x ∷ ps) (h ∷ hs) r zero e l m = (and_parts _ _ e).0
hold_at (x ∷ ps) (h ∷ hs) r (suc p) e l m = hold_at ps hs r p (and_parts (holds x.cols r h) _ e).1 (omega arith) (omega arith)

length_more : (ps : List Part) (hs : List (List Held)) (r : Row) → length hs ≡ length ps → length (all_more ps hs r) ≡ length ps
unfolding all_more
length_more [] hs r m = refl
length_more (x ∷ ps) [] r m = absurd (omega arith)
length_more (x ∷ ps) (h ∷ hs) r m = ap suc (length_more ps hs r (omega arith))

get_or_more : (ps : List Part) (hs : List (List Held)) (r : Row) (p : ℕ) → p < length ps → length hs ≡ length ps
    → get_or (all_more ps hs r) p [] ≡ one_more (get_or ps p no_part).cols r (get_or hs p [])
unfolding all_more
get_or_more [] hs r p l m = absurd (omega arith)
get_or_more (x ∷ ps) [] r p l m = absurd (omega arith)
get_or_more (x ∷ ps) (h ∷ hs) r zero l m = refl
get_or_more (x ∷ ps) (h ∷ hs) r (suc p) l m = get_or_more ps hs r p (omega arith) (omega arith)

length_less : (ps : List Part) (hs : List (List Held)) (r : Row) → length hs ≡ length ps → length (all_less ps hs r) ≡ length ps
unfolding all_less
length_less [] hs r m = refl
length_less (x ∷ ps) [] r m = absurd (omega arith)
length_less (x ∷ ps) (h ∷ hs) r m = ap suc (length_less ps hs r (omega arith))

get_or_less : (ps : List Part) (hs : List (List Held)) (r : Row) (p : ℕ) → p < length ps → length hs ≡ length ps
    → get_or (all_less ps hs r) p [] ≡ one_less (get_or ps p no_part).cols r (get_or hs p [])
unfolding all_less
get_or_less [] hs r p l m = absurd (omega arith)
get_or_less (x ∷ ps) [] r p l m = absurd (omega arith)
get_or_less (x ∷ ps) (h ∷ hs) r zero l m = refl
get_or_less (x ∷ ps) (h ∷ hs) r (suc p) l m = get_or_less ps hs r p (omega arith) (omega arith)

pub more_apart : Apart all_more one_more
more_apart = record { lists = length_more; list = get_or_more }

pub less_apart : Apart all_less one_less
less_apart = record { lists = length_less; list = get_or_less }

pub each_has_room : EachMay (λ room ps hs r. first_full_part 0 room ps hs r ≡ None) (λ room p r hs. full room p r hs ≡ false)
each_has_room room ps hs r e p l m = none_full 0 room ps hs r p e l m

pub each_holds : EachMay (λ room ps hs r. all_hold ps hs r ≡ true) (λ room p r hs. holds p r hs ≡ true)
each_holds room ps hs r e p l m = hold_at ps hs r p e l m
