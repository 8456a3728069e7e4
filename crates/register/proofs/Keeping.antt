-- What one part holds for a table: each look as often as rows of the table look so.
use Rattle.std.proofs.Common.{◌≡◌, ℕ, ◌+◌, ◌-◌, ◌<◌, ◌≤◌, Bool, true, false, eqb, ltb, List, [], ◌∷◌, ◌++◌, length, sym, refl, ap, ◌∙◌, zero-add, arith}
use Rattle.std.proofs.lemmas.Bool.{false≢true, lt-ltb, eqb-true, eqb-false}
use Rattle.dependencies.specs.Tables.{Row, agree}
use Rattle.columns.specs.Cols.{Cols, all_in, pick}
use Rattle.parts.specs.Day.{Held, holds, looks_of, one_more, one_less, masked, present, without}
use Rattle.parts.proofs.Agree.{agree_like, agree_inside, agree_masked, all_in_refl, all_in_trans}
use Rattle.register.proofs.Counts.{one, count, count_length, present_count, count_come, count_go, present_inside}

unfoldable pub times_of : Cols → Row → List Held → ℕ
times_of p r [] = 0
times_of p r (h ∷ hs) = pick (agree p r h.looks) h.times 0 + times_of p r hs

abbrev pub Positive : List Held → Type 0
Positive [] = Unit {0}
Positive (h ∷ hs) = (0 < h.times) × Positive hs

pub holds_looks : (p : Cols) (r : Row) (hs : List Held) → present p r (looks_of hs) ≡ holds p r hs
unfolding present looks_of holds
holds_looks p r [] = refl
holds_looks p r (h ∷ hs) = ap (λ x. pick (agree p r h.looks) true x) (holds_looks p r hs)

pub holds_times : (p : Cols) (r : Row) (hs : List Held) → Positive hs → holds p r hs ≡ ltb 0 (times_of p r hs)
unfolding holds times_of
holds_times p r [] o = refl
holds_times p r (h ∷ hs) o = go (agree p r h.looks) (holds_times p r hs o.1)
  where
    go : (b : Bool) → holds p r hs ≡ ltb 0 (times_of p r hs) → pick b true (holds p r hs) ≡ ltb 0 (pick b h.times 0 + times_of p r hs)
    go true e = sym (lt-ltb 0 (h.times + times_of p r hs) (omega arith))
    go false e = rw zero-add e

more_here : (b : Bool) (n m : ℕ) → pick b (n + 1) 0 + m ≡ one b + (pick b n 0 + m)
more_here true n m = omega arith
more_here false n m = omega arith

first_here : (b : Bool) → pick b 1 0 + 0 ≡ one b + 0
first_here true = refl
first_here false = refl

-- in any columns of the part
pub times_more : (cs p : Cols) (q r : Row) (hs : List Held) → all_in cs p ≡ true → times_of cs q (one_more p r hs) ≡ one (agree cs q r) + times_of cs q hs
unfolding times_of one_more
times_more cs p q r [] i =
    rw (agree_like cs q r (masked p 0 r) (agree_inside cs p r (masked p 0 r) i (agree_masked p r))) (first_here (agree cs q (masked p 0 r)))
times_more cs p q r (h ∷ hs) i = go (agree p r h.looks) refl (times_more cs p q r hs i)
  where
    go : (b : Bool) → agree p r h.looks ≡ b → times_of cs q (one_more p r hs) ≡ one (agree cs q r) + times_of cs q hs
        → times_of cs q (pick b (record { looks = h.looks; times = h.times + 1 } ∷ hs) (h ∷ one_more p r hs)) ≡ one (agree cs q r) + times_of cs q (h ∷ hs)
    go true e f = rw (agree_like cs q r h.looks (agree_inside cs p r h.looks i e)) (more_here (agree cs q h.looks) h.times (times_of cs q hs))
    go false e f = omega arith

less_last : (b : Bool) (n m : ℕ) → n ≡ 1 → pick b n 0 + m ≡ one b + m
less_last true n m e = omega arith
less_last false n m e = refl

less_here : (b : Bool) (n m : ℕ) → 0 < n → pick b n 0 + m ≡ one b + (pick b (n - 1) 0 + m)
less_here true n m e = omega arith
less_here false n m e = omega arith

pub times_less : (cs p : Cols) (q r : Row) (hs : List Held) → all_in cs p ≡ true → Positive hs → holds p r hs ≡ true
    → times_of cs q hs ≡ one (agree cs q r) + times_of cs q (one_less p r hs)
unfolding times_of one_less holds
times_less cs p q r [] i o h = absurd (false≢true h)
times_less cs p q r (h ∷ hs) i o k = go (agree p r h.looks) refl k (times_less cs p q r hs i o.1)
  where
    last : (b : Bool) → eqb h.times 1 ≡ b → agree cs r h.looks ≡ true
        → times_of cs q (h ∷ hs) ≡ one (agree cs q r) + times_of cs q (pick b hs (record { looks = h.looks; times = h.times - 1 } ∷ hs))
    last true l e = rw (agree_like cs q r h.looks e) (less_last (agree cs q h.looks) h.times (times_of cs q hs) (eqb-true _ _ l))
    last false l e = rw (agree_like cs q r h.looks e) (less_here (agree cs q h.looks) h.times (times_of cs q hs) o.0)

    go : (b : Bool) → agree p r h.looks ≡ b → pick b true (holds p r hs) ≡ true
        → (holds p r hs ≡ true → times_of cs q hs ≡ one (agree cs q r) + times_of cs q (one_less p r hs))
        → times_of cs q (h ∷ hs)
        ≡ one (agree cs q r) + times_of cs q (pick b (pick (eqb h.times 1) hs (record { looks = h.looks; times = h.times - 1 } ∷ hs)) (h ∷ one_less p r hs))
    go true e m f = last (eqb h.times 1) refl (agree_inside cs p r h.looks i e)
    go false e m f = let g = f m in omega arith

pub positive_more : (p : Cols) (r : Row) (hs : List Held) → Positive hs → Positive (one_more p r hs)
unfolding one_more
positive_more p r [] o = (omega arith, tt)
positive_more p r (h ∷ hs) o = go (agree p r h.looks) (positive_more p r hs o.1)
  where
    go : (b : Bool) → Positive (one_more p r hs) → Positive (pick b (record { looks = h.looks; times = h.times + 1 } ∷ hs) (h ∷ one_more p r hs))
    go true f = (omega arith, o.1)
    go false f = (o.0, f)

pub positive_less : (p : Cols) (r : Row) (hs : List Held) → Positive hs → Positive (one_less p r hs)
unfolding one_less
positive_less p r [] o = tt
positive_less p r (h ∷ hs) o = go (agree p r h.looks) (positive_less p r hs o.1)
  where
    last : (b : Bool) → eqb h.times 1 ≡ b → Positive (pick b hs (record { looks = h.looks; times = h.times - 1 } ∷ hs))
    last true l = o.1
    last false l = let ne = eqb-false h.times 1 l in (omega arith, o.1)

    go : (b : Bool) → Positive (one_less p r hs)
        → Positive (pick b (pick (eqb h.times 1) hs (record { looks = h.looks; times = h.times - 1 } ∷ hs)) (h ∷ one_less p r hs))
    go true f = last (eqb h.times 1) refl
    go false f = (o.0, f)

-- THE INVARIANT of one part: in any of its columns, a look stands as often as rows of the table look so
pub record Kept (p : Cols) (t : List Row) (hs : List Held) : Type 0 where
  pub positive : Positive hs
  pub counts : (cs : Cols) (q : Row) → all_in cs p ≡ true → times_of cs q hs ≡ count cs q t

pub kept_none : (p : Cols) → Kept p [] []
unfolding times_of count
kept_none p = record { positive = tt; counts = λ cs q i. refl }

pub kept_holds : (p : Cols) (r : Row) (t : List Row) (hs : List Held) → Kept p t hs → holds p r hs ≡ present p r t
kept_holds p r t hs k = holds_times p r hs k.positive ∙ (ap (λ n. ltb 0 n) (k.counts p r (all_in_refl p)) ∙ sym (present_count p r t))

pub kept_looks : (p : Cols) (r : Row) (t : List Row) (hs : List Held) → Kept p t hs → present p r (looks_of hs) ≡ present p r t
kept_looks p r t hs k = holds_looks p r hs ∙ kept_holds p r t hs k

pub kept_more : (p : Cols) (r : Row) (t : List Row) (hs : List Held) → Kept p t hs → Kept p (t ++ r ∷ []) (one_more p r hs)
kept_more p r t hs k =
    record {
      positive = positive_more p r hs k.positive;
      counts = λ cs q i. times_more cs p q r hs i ∙ (ap (λ n. one (agree cs q r) + n) (k.counts cs q i) ∙ sym (count_come cs q r t));
    }

pub kept_less : (p es : Cols) (r : Row) (t : List Row) (hs : List Held) → all_in p es ≡ true → present es r t ≡ true → Kept p t hs
    → Kept p (without es r t) (one_less p r hs)
kept_less p es r t hs i h k =
    record {
      positive = positive_less p r hs k.positive;
      counts = λ cs q j. let a = times_less cs p q r hs j k.positive (kept_holds p r t hs k ∙ present_inside p es r t i h) in
          let b = count_go cs es q r t (all_in_trans cs p es j i) h in let c = k.counts cs q j in omega arith;
    }

-- a part holds no more looks than the table has rows, and none where the table has none
looks_times : (hs : List Held) → Positive hs → length hs ≤ times_of [] [] hs
unfolding times_of agree
looks_times [] o = omega arith
looks_times (h ∷ hs) o = let k = looks_times hs o.1 in omega arith

pub kept_length : (p : Cols) (t : List Row) (hs : List Held) → Kept p t hs → length hs ≤ length t
unfolding all_in
kept_length p t hs k = let a = looks_times hs k.positive in let b = k.counts [] [] refl in let c = count_length t in omega arith
