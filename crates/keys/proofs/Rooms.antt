-- Lists written into lent room, one after the other.
use Rattle.std.proofs.Common.{◌≡◌, ℕ, ◌+◌, ◌-◌, List, [], ◌++◌, length, take, drop, Some, None, sym, refl, ap, ◌∙◌, append_assoc, arith}
use Rattle.std.proofs.Math.Seq.{take-append-add}
use Rattle.std.proofs.lemmas.List.{length-append, length-drop, take_at, drop_at, drop_all, drop-drop, take_rest, take-append-le, append-nil}
use borrow.Rule.Slice.PartMut.{mid_of, put_mid}
use Rattle.keys.specs.Room.{Emitted}

-- one list written, and then the row behind it lent for another
module _ (row ys : List ℕ) (m : ℕ) (mid : List ℕ) (a : Emitted row ys (Some m) mid) (zs rest : List ℕ) where
  abbrev pub lent : List ℕ
  lent = mid_of m (length mid - m) mid

  abbrev pub after : List ℕ
  after = put_mid m (length mid - m) mid rest

  behind : lent ≡ drop (length ys) row
  behind = take_rest mid m ∙ ap (drop m) a.2 ∙ drop_at ys (drop (length ys) row) m (sym a.0)

  left : length ys + length lent ≡ length row
  left = omega (arith, a.1, ap length behind, length-drop (length ys) row)

  whole : after ≡ ys ++ rest
  whole =
      ap (λ v. take m mid ++ v) (ap (λ v. rest ++ v) (drop_all (length mid - m) (drop m mid) (omega (arith, length-drop m mid))) ∙ append-nil rest)
      ∙ ap (λ v. v ++ rest) (ap (take m) a.2 ∙ take_at ys (drop (length ys) row) m (sym a.0))

  pub both : (k : ℕ) → Emitted lent zs (Some k) rest → Emitted row (ys ++ zs) (Some (m + k)) after
  both k b = (
    omega (arith, a.0, b.0, length-append ys zs),
    omega (arith, left, b.1, length-append ys zs),
    whole ∙ ap (λ v. ys ++ v) (b.2 ∙ ap (λ v. zs ++ drop (length zs) v) behind ∙ ap (λ v. zs ++ v) (drop-drop (length zs) (length ys) row))
        ∙ sym (append_assoc ys zs (drop (length ys + length zs) row)) ∙ ap (λ n. (ys ++ zs) ++ drop n row) (sym (length-append ys zs)),
  )

  -- for the second there was no room
  pub cut : Emitted lent zs None rest → Emitted row (ys ++ zs) None after
  cut b = (
    omega (arith, left, b.0, length-append ys zs),
    whole ∙ ap (λ v. ys ++ v) b.1 ∙ sym (take-append-add ys zs (length lent)) ∙ ap (λ n. take n (ys ++ zs)) left,
  )

-- one list that had no room leaves none for another
pub stop : (row ys out zs : List ℕ) → Emitted row ys None out → Emitted row (ys ++ zs) None out
stop row ys out zs a = (omega (arith, a.0, length-append ys zs), a.1 ∙ sym (take-append-le (length row) ys zs (omega (arith, a.0))))

pub nothing_put : (row : List ℕ) → Emitted row [] (Some 0) row
nothing_put row = (refl, omega arith, refl)
