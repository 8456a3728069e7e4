-- How the lists of joined rows grow, look by look and row by row.
use Rattle.std.proofs.Common.{◌≡◌, ℕ, ◌+◌, ◌<◌, ◌≤◌, Bool, true, false, eqb, List, [], ◌∷◌, ◌++◌, length, get_or, take, Some, None, Option, sym, ap, ◌∙◌, append_assoc, add-one}
use Rattle.std.specs.Option.{option_to_list}
use Rattle.std.proofs.lemmas.List.{append-nil, take_more}
use Rattle.std.proofs.lemmas.Bool.{lt-ltb, le-ltb, eq-eqb, ne_eqb}
use Rattle.columns.specs.Cols.{Cols, pick}
use Rattle.columns.specs.Every.{each}
use Rattle.dependencies.specs.Tables.{Row, agree}
use Rattle.parts.specs.Day.{Held}
use Rattle.parts.specs.Store.{place_in}
use Rattle.join.specs.Steps.{merged, look_at, join_with, join_first, join_all}

module _ (S p : Cols) (hs : List Held) (r : Row) where
  -- no look, a look that disagrees, a look listed before, and one that joins
  pub with_none : (i : ℕ) → length hs ≤ i → join_with S p hs r i ≡ None
  unfolding join_with
  with_none i l = ap (λ (b : Bool). pick b (pick (agree S r (look_at hs i)) (pick (eqb (place_in p (look_at hs i) hs) i) (Some (merged p (look_at hs i) r)) None) None) None) (le-ltb i (length hs) l)

  with_look : (i : ℕ) → i < length hs → join_with S p hs r i ≡ pick (agree S r (look_at hs i)) (pick (eqb (place_in p (look_at hs i) hs) i) (Some (merged p (look_at hs i) r)) None) None
  unfolding join_with
  with_look i l = ap (λ (b : Bool). pick b (pick (agree S r (look_at hs i)) (pick (eqb (place_in p (look_at hs i) hs) i) (Some (merged p (look_at hs i) r)) None) None) None) (lt-ltb i (length hs) l)

  pub with_other : (i : ℕ) → i < length hs → agree S r (look_at hs i) ≡ false → join_with S p hs r i ≡ None
  with_other i l e = with_look i l ∙ ap (λ (b : Bool). pick b (pick (eqb (place_in p (look_at hs i) hs) i) (Some (merged p (look_at hs i) r)) None) None) e

  with_agreed : (i : ℕ) → i < length hs → agree S r (look_at hs i) ≡ true → join_with S p hs r i ≡ pick (eqb (place_in p (look_at hs i) hs) i) (Some (merged p (look_at hs i) r)) None
  with_agreed i l e = with_look i l ∙ ap (λ (b : Bool). pick b (pick (eqb (place_in p (look_at hs i) hs) i) (Some (merged p (look_at hs i) r)) None) None) e

  pub with_again : (i : ℕ) → i < length hs → agree S r (look_at hs i) ≡ true → (place_in p (look_at hs i) hs ≡ i → ⊥) → join_with S p hs r i ≡ None
  with_again i l e f = with_agreed i l e ∙ ap (λ (b : Bool). pick b (Some (merged p (look_at hs i) r)) None) (ne_eqb (place_in p (look_at hs i) hs) i f)

  pub with_joined : (i : ℕ) → i < length hs → agree S r (look_at hs i) ≡ true → place_in p (look_at hs i) hs ≡ i → join_with S p hs r i ≡ Some (merged p (look_at hs i) r)
  with_joined i l e f = with_agreed i l e ∙ ap (λ (b : Bool). pick b (Some (merged p (look_at hs i) r)) None) (eq-eqb (place_in p (look_at hs i) hs) i f)

  first_more : (k : ℕ) → join_first S p hs r (k + 1) ≡ join_first S p hs r k ++ option_to_list (join_with S p hs r k)
  unfolding join_first
  first_more k = ap (λ (m : ℕ). join_first S p hs r m) (add-one k)

  pub first_none : (xs : List Row) → xs ≡ xs ++ join_first S p hs r 0
  unfolding join_first
  first_none xs = sym (append-nil xs)

  -- one look more, which joins or not
  pub first_push : (vs xs : List Row) (k : ℕ) (x : Row) → vs ≡ xs ++ join_first S p hs r k → join_with S p hs r k ≡ Some x → vs ++ x ∷ [] ≡ xs ++ join_first S p hs r (k + 1)
  first_push vs xs k x e w =
      ap (λ (z : List Row). z ++ x ∷ []) e ∙ append_assoc xs (join_first S p hs r k) (x ∷ [])
      ∙ ap (λ (z : List Row). xs ++ z) (ap (λ (o : Option Row). join_first S p hs r k ++ option_to_list o) (sym w) ∙ sym (first_more k))

  pub first_same : (vs xs : List Row) (k : ℕ) → vs ≡ xs ++ join_first S p hs r k → join_with S p hs r k ≡ None → vs ≡ xs ++ join_first S p hs r (k + 1)
  first_same vs xs k e w =
      e ∙ ap (λ (z : List Row). xs ++ z) (sym (append-nil (join_first S p hs r k)) ∙ ap (λ (o : Option Row). join_first S p hs r k ++ option_to_list o) (sym w) ∙ sym (first_more k))

pub each_push : {A B : Type 0} (f : A → List B) (xs : List A) (x : A) → each (xs ++ x ∷ []) f ≡ each xs f ++ f x
each_push f [] x = append-nil (f x)
each_push f (y ∷ xs) x = ap (λ z. f y ++ z) (each_push f xs x) ∙ sym (append_assoc (f y) (each xs f) (f x))

pub all_more : (S p : Cols) (hs : List Held) (rows vs us : List Row) (i : ℕ) → i < length rows → vs ≡ join_all S p hs (take i rows)
    → us ≡ vs ++ join_first S p hs (get_or rows i []) (length hs) → us ≡ join_all S p hs (take (i + 1) rows)
all_more S p hs rows vs us i l e f =
    f ∙ ap (λ (z : List Row). z ++ join_first S p hs (get_or rows i []) (length hs)) e ∙ sym (each_push (λ (r : Row). join_first S p hs r (length hs)) (take i rows) (get_or rows i []))
    ∙ ap (λ (z : List Row). join_all S p hs z) (sym (take_more rows i [] l))
