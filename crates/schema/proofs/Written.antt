-- Parts written one after the other, as one list of numbers.
use Rattle.std.proofs.Common.{◌≡◌, ℕ, zero, suc, ◌+◌, ◌-◌, ◌*◌, ◌<◌, ◌≤◌, Bool, true, false, List, [], ◌∷◌, ◌++◌, length, get_or, take, drop, set, sym, refl, ap, ◌∙◌, append_assoc, add-one, arith, length-append}
use borrow.Rule.Slice.PartMut.{put_mid}
use Rattle.std.proofs.lemmas.List.{take_more, drop_more, append-nil, drop_all, length-drop, take_rest, set_comm}
use Rattle.columns.specs.Cols.{pick}
use Rattle.columns.specs.declared.set.ColumnSet.{ColumnSet}
use Rattle.dependencies.specs.declared.rules.Rule.{Rule}
use Rattle.dependencies.specs.Lent.{put_list}
use Rattle.dependencies.proofs.Lent.{put_append, put_cons}
use Rattle.schema.specs.Writing.{inside, own, over, flat, one_part, encoded, PartPut}
use Rattle.schema.proofs.Sifting.{those_push, both_sides}

-- ---- the rules that lie in a set
flat_append : (xs ys : List Rule) → flat (xs ++ ys) ≡ flat xs ++ flat ys
flat_append [] ys = refl
flat_append (x ∷ xs) ys = ap (λ v. x.left.bits ∷ x.right.bits ∷ v) (flat_append xs ys)

pub flat_length : (xs : List Rule) → length (flat xs) ≡ 2 * length xs
flat_length [] = refl
flat_length (x ∷ xs) = omega (arith, flat_length xs)

-- after i of the rules
pub record Owned (rs : List Rule) (s : ColumnSet) (row₀ : List ℕ) (i count : ℕ) (row : List ℕ) : Type 0 where
  pub low : count ≤ i
  pub many : count ≡ length (own (take i rs) s)
  pub put : row ≡ put_list row₀ 0 (flat (own (take i rs) s))

pub owned_start : (rs : List Rule) (s : ColumnSet) (row : List ℕ) → Owned rs s row 0 0 row
unfolding put_list
owned_start rs s row = record { low = omega arith; many = refl; put = refl }

module _ (rs : List Rule) (s : ColumnSet) (row₀ : List ℕ) (i count : ℕ) (row : List ℕ) (so : Owned rs s row₀ i count row) (x : Rule)
    (h : i < length rs) (is : x ≡ get_or rs i x) where
  abbrev o : List Rule
  o = own (take i rs) s

  more : own (take (i + 1) rs) s ≡ o ++ pick (inside x s) (x ∷ []) []
  more =
      ap (λ (v : List Rule). own v s) (take_more rs i x h ∙ ap (λ (y : Rule). take i rs ++ y ∷ []) (sym is))
      ∙ those_push (λ r. inside r s) (take i rs) x

  pub owned_leave : inside x s ≡ false → Owned rs s row₀ (i + 1) count row
  owned_leave e =
      let same : own (take (i + 1) rs) s ≡ o = more ∙ ap (λ (b : Bool). o ++ pick b (x ∷ []) []) e ∙ append-nil o in
      record {
        low = omega (arith, so.low);
        many = so.many ∙ sym (ap length same);
        put = so.put ∙ ap (λ (v : List Rule). put_list row₀ 0 (flat v)) (sym same);
      }

  pub owned_put : (a b : ℕ) → a ≡ x.left.bits → b ≡ x.right.bits → inside x s ≡ true
      → Owned rs s row₀ (i + 1) (count + 1) (set (set row (2 * count) a) (2 * count + 1) b)
  unfolding put_list
  owned_put a b a-is b-is e =
      let next : own (take (i + 1) rs) s ≡ o ++ x ∷ [] = more ∙ ap (λ (b : Bool). o ++ pick b (x ∷ []) []) e in
      let k : ℕ = 2 * count in
      let two : List ℕ = x.left.bits ∷ x.right.bits ∷ [] in
      record {
        low = omega (arith, so.low);
        many = ap (λ (m : ℕ). m + 1) so.many ∙ sym (ap length next ∙ length-append o (x ∷ []));
        put = ap (λ (m : ℕ). set (set row k a) m b) (add-one k) ∙ ap (λ (m : ℕ). set (set row k m) (suc k) b) a-is
            ∙ ap (λ (m : ℕ). set (set row k x.left.bits) (suc k) m) b-is
            ∙ ap (λ (v : List ℕ). put_list v k two) so.put
            ∙ sym (put_append row₀ 0 k (flat o) two (omega (arith, flat_length o, so.many)))
            ∙ ap (λ (v : List ℕ). put_list row₀ 0 v) (sym (flat_append o (x ∷ [])) ∙ ap flat (sym next));
      }

-- ---- a list that is written into a part of a row
put_behind : (xs : List ℕ) (at : ℕ) (ys : List ℕ) → at ≤ length xs → put_list xs at ys ≡ take at xs ++ put_list (drop at xs) 0 ys
put_behind xs zero ys h = refl
put_behind [] (suc at) ys h = absurd (omega arith)
put_behind (x ∷ xs) (suc at) ys h = put_cons x xs at ys ∙ ap (λ v. x ∷ v) (put_behind xs at ys (omega arith))

-- what the row holds once its part from `at` on is written
pub put_mid_lem : (xs : List ℕ) (at : ℕ) (ys zs : List ℕ) → at ≤ length xs → zs ≡ put_list (take (length xs - at) (drop at xs)) 0 ys
    → put_mid at (length xs - at) xs zs ≡ put_list xs at ys
put_mid_lem xs at ys zs h e =
    let none : drop (length xs - at) (drop at xs) ≡ [] = drop_all (length xs - at) (drop at xs) (omega (arith, length-drop at xs)) in
    ap (λ (v : List ℕ). take at xs ++ (zs ++ v)) none ∙ ap (λ (v : List ℕ). take at xs ++ v) (append-nil zs ∙ e)
    ∙ ap (λ (v : List ℕ). take at xs ++ put_list v 0 ys) (take_rest xs at) ∙ sym (put_behind xs at ys h)

-- a number before a list that stands further on
set_put : (xs : List ℕ) (n j v : ℕ) (ys : List ℕ) → j < n → set (put_list xs n ys) j v ≡ put_list (set xs j v) n ys
unfolding put_list
set_put xs n j v [] h = refl
set_put xs n j v (y ∷ ys) h =
    set_put (set xs n y) (suc n) j v ys (omega arith) ∙ ap (λ (w : List ℕ). put_list w (suc n) ys) (set_comm xs n j y v (λ e. omega arith))

-- how many numbers a part takes
pub part_length : (rest : List Rule) (s : ColumnSet) → length (one_part rest s) + 2 * length (over rest s) ≡ 2 + 2 * length rest
part_length rest s = omega (arith, both_sides (λ r. inside r s) rest, flat_length (own rest s))

pub part_put : (s : ColumnSet) (rest : List Rule) (row : List ℕ) (owned : ℕ) (rest₁ : List Rule) (row₁ : List ℕ) (a : ℕ)
    → owned ≡ length (own rest s) → row₁ ≡ put_list row 2 (flat (own rest s)) → rest₁ ≡ over rest s → a ≡ s.bits
    → PartPut s rest row (2 + 2 * owned) rest₁ (set (set row₁ 0 a) 1 owned)
unfolding put_list
part_put s rest row owned rest₁ row₁ a many put left bits =
    let o : List ℕ = flat (own rest s) in
    record {
      long = omega (arith, many, flat_length (own rest s));
      left = left;
      put = ap (λ (v : List ℕ). set (set v 0 a) 1 owned) put
          ∙ ap (λ (v : List ℕ). set v 1 owned) (set_put row 2 0 a o (omega arith))
          ∙ set_put (set row 0 a) 2 1 owned o (omega arith)
          ∙ ap (λ (k : ℕ). put_list (set (set row 0 k) 1 owned) 2 o) bits
          ∙ ap (λ (k : ℕ). put_list (set (set row 0 s.bits) 1 k) 2 o) many;
    }

-- ---- after p of the parts: what is written, and what is left to write, is all
pub record Partly (rs : List Rule) (sets : List ColumnSet) (out₀ : List ℕ) (p at : ℕ) (rest : List Rule) (out : List ℕ) : Type 0 where
  pub done : List ℕ
  pub out_is : out ≡ put_list out₀ 1 done
  pub at_is : at ≡ 1 + length done
  pub left : done ++ encoded rest (drop p sets) ≡ encoded rs sets
  pub room : at + 2 * length rest ≡ 1 + 2 * p + 2 * length rs

pub partly_start : (rs : List Rule) (sets : List ColumnSet) (out : List ℕ) → Partly rs sets out 0 1 rs out
unfolding put_list
partly_start rs sets out = record { done = []; out_is = refl; at_is = refl; left = refl; room = omega arith }

pub partly_turn : (rs : List Rule) (sets : List ColumnSet) (out₀ : List ℕ) (p at : ℕ) (rest : List Rule) (out : List ℕ) (s : ColumnSet)
    (size : ℕ) (rest₁ : List Rule) (row₁ : List ℕ) → p < length sets → s ≡ get_or sets p s → at ≤ length out → Partly rs sets out₀ p at rest out
    → PartPut s rest (take (length out - at) (drop at out)) size rest₁ row₁
    → Partly rs sets out₀ (p + 1) (at + size) rest₁ (put_mid at (length out - at) out row₁)
partly_turn rs sets out₀ p at rest out s size rest₁ row₁ h is fits so w =
    let part : List ℕ = one_part rest s in
    let front : drop p sets ≡ s ∷ drop (p + 1) sets = drop_more sets p s h ∙ ap (λ (y : ColumnSet). y ∷ drop (p + 1) sets) (sym is) in
    record {
      done = so.done ++ part;
      out_is = put_mid_lem out at part row₁ fits w.put ∙ ap (λ (v : List ℕ). put_list v at part) so.out_is
          ∙ sym (put_append out₀ 1 at so.done part so.at_is);
      at_is = omega (arith, so.at_is, w.long, length-append so.done part);
      left = append_assoc so.done part (encoded rest₁ (drop (p + 1) sets))
          ∙ ap (λ (v : List Rule). so.done ++ (part ++ encoded v (drop (p + 1) sets))) w.left
          ∙ ap (λ (v : List ColumnSet). so.done ++ encoded rest v) (sym front)
          ∙ so.left;
      room = omega (arith, so.room, w.long, ap length w.left, part_length rest s);
    }

pub partly_end : (rs : List Rule) (sets : List ColumnSet) (out₀ : List ℕ) (p at : ℕ) (rest : List Rule) (out : List ℕ) (k : ℕ)
    → length sets ≤ p → Partly rs sets out₀ p at rest out → set out 0 k ≡ put_list out₀ 0 (k ∷ encoded rs sets)
unfolding put_list
partly_end rs sets out₀ p at rest out k h so =
    let none : drop p sets ≡ [] = drop_all p sets h in
    let all : so.done ≡ encoded rs sets
    = sym (append-nil so.done) ∙ ap (λ (v : List ColumnSet). so.done ++ encoded rest v) (sym none) ∙ so.left in
    ap (λ (v : List ℕ). set v 0 k) so.out_is ∙ set_put out₀ 1 0 k so.done (omega arith) ∙ ap (λ (v : List ℕ). put_list (set out₀ 0 k) 1 v) all
