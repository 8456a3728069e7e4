-- One table that tells all rules that follow: for each set of columns, two rows that are equal in its closure alone. Assumes nothing.
use Rattle.std.proofs.Common.{◌≡◌, ℕ, suc, ◌+◌, ◌<◌, ◌≤◌, List, [], ◌∷◌, get_or, sym, refl, ap, ◌∙◌, subst, inl, inr, arith}
use Rattle.dependencies.specs.Tables.{Row, Dep, Obeys, ObeysAll, Implied, draw}
use Rattle.columns.specs.Cols.{Cols, has, pick, columns}
use Rattle.dependencies.specs.Closure.{closure}
use Rattle.columns.specs.Every.{subsets}
use Rattle.dependencies.specs.Theorems.{OneTableTells}
use Rattle.columns.specs.Members.{In, Sub}
use Rattle.columns.proofs.Members.{pick_both}
use Rattle.dependencies.proofs.Rows.{Same, agree_same, same_agree}
use Rattle.columns.proofs.Columns.{has_in, has_not_in, in_or_not, all_in_sub, below}
use Rattle.dependencies.proofs.Tables.{PairObeys, pair_obeys, obeys_pair, each_obeys}
use Rattle.dependencies.proofs.Closures.{Closed, closure_grows}
use Rattle.dependencies.proofs.Fired.{closure_closed}
use Rattle.dependencies.proofs.Marks.{self_obeys, turn_obeys}
use Rattle.dependencies.proofs.Exact.{closure_implied}
use Rattle.dependencies.proofs.Fixing.{closure_monotone}
use Rattle.columns.proofs.Subsets.{subset_same}
use Rattle.dependencies.proofs.Drawn.{drawn}
use Rattle.dependencies.proofs.Smalls.{Small, proper_small}

-- rows that are equal in a closed set alone
pub closed_pair : (n : ℕ) (ds : List Dep) → Small n ds → (cs : Cols) → Closed ds (λ c. In c cs) → (r s : Row) → ((c : ℕ) → c < n → Same r s c → In c cs)
    → ((c : ℕ) → c < n → In c cs → Same r s c) → (d : Dep) → In d ds → PairObeys r s d
closed_pair n ds small cs k r s to from d h a =
    same_agree d.right r s (λ c i.
    from c ((small d h c).1 i) (k d h (λ x j. to x ((small d h x).0 j) (agree_same d.left r s a x j)) c i))

module _ (n : ℕ) (ds : List Dep) (small : Small n ds) where
  abbrev base : Cols
  base = closure ds []

  -- the cells of the two rows of number m, for the set x
  abbrev one_cell : ℕ → ℕ → ℕ
  one_cell m c = pick (has base c) 0 (suc (m + m))

  abbrev two_cell : ℕ → Cols → ℕ → ℕ
  two_cell m x c = pick (has (closure ds x) c) (one_cell m c) (suc (suc (m + m)))

  abbrev one_row : ℕ → Row
  one_row m = draw (one_cell m) 0 n

  abbrev two_row : ℕ → Cols → Row
  two_row m x = draw (two_cell m x) 0 n

  abbrev rows : ℕ → List Cols → List Row
  rows m [] = []
  rows m (x ∷ xs) = one_row m ∷ two_row m x ∷ rows (suc m) xs

  abbrev Lower : ℕ → ℕ → ℕ → Type 0
  Lower u c v = (In c base → v ≡ 0) × ((In c base → ⊥) → (0 < v) × (v < u))

  abbrev Upper : ℕ → ℕ → ℕ → Type 0
  Upper u c v = (In c base → v ≡ 0) × ((In c base → ⊥) → u ≤ v)

  one_small : (m c : ℕ) → one_cell m c < suc (suc (m + m))
  one_small m c = pick_both (has base c) 0 (suc (m + m)) (λ v. v < suc (suc (m + m))) (λ e. omega arith) (λ e. omega arith)

  one_lower : (m c : ℕ) → Lower (suc (suc (suc (m + m)))) c (one_cell m c)
  one_lower m c =
      pick_both (has base c) 0 (suc (m + m)) (Lower (suc (suc (suc (m + m)))) c)
      (λ e. (λ i. refl, λ f. absurd (f (has_in base c e))))
      (λ e. (λ i. absurd (has_not_in base c e i), λ f. (omega arith, omega arith)))

  one_upper : (m c : ℕ) → Upper (suc (m + m)) c (one_cell m c)
  one_upper m c =
      pick_both (has base c) 0 (suc (m + m)) (Upper (suc (m + m)) c)
      (λ e. (λ i. refl, λ f. absurd (f (has_in base c e)))) (λ e. (λ i. absurd (has_not_in base c e i), λ f. omega arith))

  base_in : (x : Cols) → Sub base (closure ds x)
  base_in x = closure_monotone ds [] x (λ c i. absurd i)

  two_lower : (m : ℕ) (x : Cols) (c : ℕ) → Lower (suc (suc (suc (m + m)))) c (two_cell m x c)
  two_lower m x c =
      pick_both (has (closure ds x) c) (one_cell m c) (suc (suc (m + m))) (Lower (suc (suc (suc (m + m)))) c) (λ e. one_lower m c)
      (λ e. (λ i. absurd (has_not_in (closure ds x) c e (base_in x c i)), λ f. (omega arith, omega arith)))

  two_upper : (m : ℕ) (x : Cols) (c : ℕ) → Upper (suc (m + m)) c (two_cell m x c)
  two_upper m x c =
      pick_both (has (closure ds x) c) (one_cell m c) (suc (suc (m + m))) (Upper (suc (m + m)) c) (λ e. one_upper m c)
      (λ e. (λ i. absurd (has_not_in (closure ds x) c e (base_in x c i)), λ f. omega arith))

  upper_less : (u v c x : ℕ) → u ≤ v → Upper v c x → Upper u c x
  upper_less u v c x l h = (h.0, λ f. let k = h.1 f in omega arith)

  rows_upper : (m : ℕ) (xs : List Cols) (r : Row) → In r (rows m xs) → (c : ℕ) → c < n → Upper (suc (m + m)) c (get_or r c 0)
  rows_upper m [] r h c l = absurd h
  rows_upper m (x ∷ xs) r h c l =
      elim h [
        | inl e ↦ subst (λ v. Upper (suc (m + m)) c (get_or v c 0)) e (subst (Upper (suc (m + m)) c) (sym (drawn (one_cell m) n c l)) (one_upper m c))
        | inr k ↦
            elim k [
              | inl e ↦ subst (λ v. Upper (suc (m + m)) c (get_or v c 0)) e (subst (Upper (suc (m + m)) c) (sym (drawn (two_cell m x) n c l)) (two_upper m x c))
              | inr j ↦ upper_less (suc (m + m)) (suc (suc m + suc m)) c (get_or r c 0) (omega arith) (rows_upper (suc m) xs r j c l)
            ]
      ]

  -- a row of lower numbers and one of higher are equal in the base alone
  across : (u : ℕ) (r s : Row) → ((c : ℕ) → c < n → Lower u c (get_or r c 0)) → ((c : ℕ) → c < n → Upper u c (get_or s c 0)) → (d : Dep) → In d ds → PairObeys r s d
  across u r s low high =
      closed_pair n ds small base (closure_closed ds []) r s
      (λ c l e. elim (in_or_not base c) [ inl h ↦ h | inr h ↦ absurd (let a = (low c l).1 h in let b = (high c l).1 h in omega arith) ])
      (λ c l i. (low c l).0 i ∙ sym ((high c l).0 i))

  apart_cell : (m : ℕ) (x : Cols) (c : ℕ) → one_cell m c ≡ two_cell m x c → In c (closure ds x)
  apart_cell m x c =
      pick_both (has (closure ds x) c) (one_cell m c) (suc (suc (m + m))) (λ v. one_cell m c ≡ v → In c (closure ds x))
      (λ e q. has_in (closure ds x) c e) (λ e q. absurd (omega (arith, one_small m c)))

  equal_cell : (m : ℕ) (x : Cols) (c : ℕ) → In c (closure ds x) → one_cell m c ≡ two_cell m x c
  equal_cell m x c i =
      pick_both (has (closure ds x) c) (one_cell m c) (suc (suc (m + m))) (λ v. one_cell m c ≡ v)
      (λ e. refl) (λ e. absurd (has_not_in (closure ds x) c e i))

  pub apart : (m : ℕ) (x : Cols) (c : ℕ) → c < n → Same (one_row m) (two_row m x) c → In c (closure ds x)
  apart m x c l e = apart_cell m x c (sym (drawn (one_cell m) n c l) ∙ e ∙ drawn (two_cell m x) n c l)

  pub equal : (m : ℕ) (x : Cols) (c : ℕ) → c < n → In c (closure ds x) → Same (one_row m) (two_row m x) c
  equal m x c l i = drawn (one_cell m) n c l ∙ equal_cell m x c i ∙ sym (drawn (two_cell m x) n c l)

  abbrev Fine : Row → Row → Type 0
  Fine r s = (d : Dep) → In d ds → PairObeys r s d

  turn : (r s : Row) → Fine r s → Fine s r
  turn r s f d h = turn_obeys r s d (f d h)

  -- a row more, that is fine with all others
  grown : (r : Row) (t : List Row) → ((s : Row) → In s t → Fine r s) → ((x y : Row) → In x t → In y t → Fine x y)
      → (x y : Row) → In x (r ∷ t) → In y (r ∷ t) → Fine x y
  grown r t f g x y (inl a) (inl b) = subst (λ v. Fine v y) a (subst (λ v. Fine r v) b (λ d h. self_obeys r d))
  grown r t f g x y (inl a) (inr b) = subst (λ v. Fine v y) a (f y b)
  grown r t f g x y (inr a) (inl b) = subst (λ v. Fine x v) b (turn r x (f x a))
  grown r t f g x y (inr a) (inr b) = g x y a b

  all_fine : (m : ℕ) (xs : List Cols) (r s : Row) → In r (rows m xs) → In s (rows m xs) → Fine r s
  all_fine m [] = λ r s h k. absurd h
  all_fine m (x ∷ xs) =
      grown (one_row m) (two_row m x ∷ rows (suc m) xs)
      (λ s h.
      elim h [
        | inl e ↦ subst (λ v. Fine (one_row m) v) e (closed_pair n ds small (closure ds x) (closure_closed ds x) (one_row m) (two_row m x) (apart m x) (equal m x))
        | inr k ↦ across (suc (suc (suc (m + m)))) (one_row m) s (λ c l. subst (Lower (suc (suc (suc (m + m)))) c) (sym (drawn (one_cell m) n c l)) (one_lower m c)) (far m xs s k)
      ])
      (grown (two_row m x) (rows (suc m) xs)
      (λ s k. across (suc (suc (suc (m + m)))) (two_row m x) s (λ c l. subst (Lower (suc (suc (suc (m + m)))) c) (sym (drawn (two_cell m x) n c l)) (two_lower m x c)) (far m xs s k))
      (all_fine (suc m) xs))
    where
      far : (m : ℕ) (xs : List Cols) (s : Row) → In s (rows (suc m) xs) → (c : ℕ) → c < n → Upper (suc (suc (suc (m + m)))) c (get_or s c 0)
      far m xs s k c l = upper_less (suc (suc (suc (m + m)))) (suc (suc m + suc m)) c (get_or s c 0) (omega arith) (rows_upper (suc m) xs s k c l)

  rows_pair : (m : ℕ) (xs : List Cols) (x : Cols) → In x xs → (k : ℕ) × In (one_row k) (rows m xs) × In (two_row k x) (rows m xs)
  rows_pair m [] x h = absurd h
  rows_pair m (y ∷ ys) x h =
      elim h [
        | inl e ↦ (m, inl refl, inr (inl (ap (two_row m) e)))
        | inr j ↦ let r = rows_pair (suc m) ys x j in (r.0, inr (inr r.1), inr (inr r.2))
      ]

  pub table : List Row
  table = rows 0 (subsets (columns 0 n))

  pub table_obeys : ObeysAll table ds
  unfolding table
  table_obeys = each_obeys table ds (λ d h. pair_obeys table d (λ r s a b. all_fine 0 (subsets (columns 0 n)) r s a b d h))

  pub table_tells : (d : Dep) → Sub d.left (columns 0 n) → Sub d.right (columns 0 n) → Obeys table d → Implied ds d
  unfolding table
  table_tells d left right o =
      let y = subset_same (columns 0 n) d.left left in
      let p = rows_pair 0 (subsets (columns 0 n)) y.0 y.1 in
      closure_implied ds d (λ c i.
      closure_monotone ds y.0 d.left y.2 c
      (apart p.0 y.0 c (below n c (right c i))
      (agree_same d.right (one_row p.0) (two_row p.0 y.0)
      (obeys_pair table d o (one_row p.0) (two_row p.0 y.0) p.1 p.2
      (same_agree d.left (one_row p.0) (two_row p.0 y.0) (λ x j.
      equal p.0 y.0 x (below n x (left x j)) (closure_grows ds y.0 x (y.3 x j)))))
      c i)))

pub one_table_tells_lem : OneTableTells
unfolding OneTableTells
one_table_tells_lem n ds p =
    let small = proper_small n ds p in (
      table n ds small,
      table_obeys n ds small,
      λ d l r. table_tells n ds small d (all_in_sub d.left (columns 0 n) l) (all_in_sub d.right (columns 0 n) r),
    )
