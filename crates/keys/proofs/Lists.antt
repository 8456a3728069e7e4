-- Lists of just the sets that are asked for: none, one, and two lists one after the other.
use Rattle.std.proofs.Common.{◌≡◌, true, ◌⊎◌, List, [], ◌∷◌, ◌++◌, subst, inl, inr}
use Rattle.columns.specs.Cols.{Cols, Rising}
use Rattle.columns.specs.Order.{before, no_set, one_set}
use Rattle.columns.proofs.InOrder.{listed_in, in_listed}
use Rattle.columns.proofs.Members.{in_left, in_right, in_either}
use Rattle.dependencies.specs.Tables.{Dep}
use Rattle.keys.specs.Keys.{Key, AllKeys}
use Rattle.keys.specs.Listed.{Exactly}
use Rattle.keys.proofs.Orderly.{order_append}

module _ (P : Cols → Type 0) where
  pub exactly_none : ((k : Cols) → P k → ⊥) → Exactly P []
  exactly_none f = record { order = no_set; only = λ k i. absurd i; all = λ k h. f k h }

  pub exactly_one : (s : Cols) → P s → ((k : Cols) → P k → s ≡ k) → Exactly P (s ∷ [])
  exactly_one s h f =
      record { order = one_set; only = λ k i. elim i [ inl e ↦ subst P e h | inr z ↦ absurd z ]; all = λ k q. inl (f k q) }

  -- what holds of a set holds of it by one of two reasons, and those with the first come before those with the second
  pub exactly_both : (Q R : Cols → Type 0) → ((k : Cols) → Q k → P k) → ((k : Cols) → R k → P k) → ((k : Cols) → P k → Q k ⊎ R k)
      → ((k j : Cols) → Q k → R j → before k j ≡ true) → (ks js : List Cols) → Exactly Q ks → Exactly R js → Exactly P (ks ++ js)
  exactly_both Q R q r either early ks js a b =
      record {
        order = order_append ks js a.order b.order (λ k j i h. early k j (a.only k i) (b.only j h));
        only = λ k i. elim (in_either ks js k i) [ inl h ↦ q k (a.only k h) | inr h ↦ r k (b.only k h) ];
        all = λ k h. elim (either k h) [ inl x ↦ in_left ks js k (a.all k x) | inr x ↦ in_right ks js k (b.all k x) ];
      }

  -- a list of just the keys is the list of all keys
  pub all_keys : (ds : List Dep) (p : Cols) (ks : List Cols) → ((k : Cols) → P k → Rising k) → ((k : Cols) → P k → Key ds p k)
      → ((k : Cols) → Rising k → Key ds p k → P k) → Exactly P ks → AllKeys ds p ks
  all_keys ds p ks rises key every h =
      record {
        order = h.order;
        rise = λ k i. rises k (h.only k (listed_in i));
        keys = λ k i. key k (h.only k (listed_in i));
        all = λ k r q. in_listed ks k (h.all k (every k r q));
      }
