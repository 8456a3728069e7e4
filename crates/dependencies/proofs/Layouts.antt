-- Reading rules from numbers, two sets at a time: what the numbers that are left say of all.
use Rattle.std.proofs.Common.{◌≡◌, ℕ, zero, suc, ◌+◌, ◌-◌, ◌*◌, ◌^◌, ◌<◌, ◌≤◌, true, false, ltb, List, [], ◌∷◌, ◌++◌, get_or, take, drop, sym, refl, ap, ◌∙◌, append_assoc, arith}
use Rattle.std.specs.Simd.{first_chunks}
use Rattle.std.proofs.lemmas.List.{get_or-drop, get_or-take, drop-drop, append-nil}
use Rattle.std.proofs.lemmas.Bool.{lt-ltb, le-ltb, and_from}
use Rattle.columns.specs.Cols.{pick, all_in, columns, set_in}
use Rattle.columns.specs.Sets.{cols}
use Rattle.columns.specs.declared.set.ColumnSet.{ColumnSet}
use Rattle.columns.proofs.Columns.{below_in, sub_all_in}
use Rattle.columns.proofs.Rising.{set_high}
use Rattle.dependencies.specs.Tables.{Dep, is_proper}
use Rattle.dependencies.specs.Rules.{dep, deps}
use Rattle.dependencies.specs.Layout.{rules_in, sets_told}
use Rattle.dependencies.specs.Told.{Told, done, refused}
use Rattle.dependencies.specs.declared.rules.Rule.{Rule}

pub deps_push : (rs : List Rule) (r : Rule) → deps (rs ++ r ∷ []) ≡ deps rs ++ dep r ∷ []
unfolding deps
deps_push [] r = refl
deps_push (x ∷ rs) r = ap (λ (ds : List Dep). dep x ∷ ds) (deps_push rs r)

-- the two sets of the rule i
abbrev pub left_at : List ℕ → ℕ → ℕ
left_at xs i = get_or xs (2 * i) 0

abbrev pub right_at : List ℕ → ℕ → ℕ
right_at xs i = get_or xs (2 * i + 1) 0

-- the rule that they stand for
abbrev pub rule_at : ℕ → List ℕ → ℕ → Dep
rule_at n xs i = record { left = set_in 0 n (left_at xs i); right = set_in 0 n (right_at xs i) }

abbrev rest : List ℕ → ℕ → List ℕ
rest xs i = drop (2 * i) xs

rest_left : (xs : List ℕ) (i : ℕ) → get_or (rest xs i) 0 0 ≡ left_at xs i
rest_left xs i = get_or-drop (2 * i) xs 0 0 ∙ ap (λ (k : ℕ). get_or xs k 0) (omega arith)

rest_right : (xs : List ℕ) (i : ℕ) → get_or (rest xs i) 1 0 ≡ right_at xs i
rest_right xs i = get_or-drop (2 * i) xs 1 0

rest_next : (xs : List ℕ) (i : ℕ) → drop 2 (rest xs i) ≡ rest xs (i + 1)
rest_next xs i = let e : 2 * i + 2 ≡ 2 * (i + 1) = omega arith in drop-drop 2 (2 * i) xs ∙ ap (λ (k : ℕ). drop k xs) e

-- the same in pairs
chunk_at : (k : ℕ) (xs : List ℕ) (i : ℕ) → i < k → get_or (first_chunks 2 k xs) i [] ≡ take 2 (rest xs i)
chunk_at zero xs i h = absurd (omega arith)
chunk_at (suc k) xs zero h = refl
chunk_at (suc k) xs (suc i) h =
    let e : 2 + 2 * i ≡ 2 * suc i = omega arith in
    chunk_at k (drop 2 xs) i (omega arith) ∙ ap (take 2) (drop-drop (2 * i) 2 xs ∙ ap (λ (j : ℕ). drop j xs) e)

pub pair_left : (k : ℕ) (xs : List ℕ) (i : ℕ) → i < k → get_or (get_or (first_chunks 2 k xs) i []) 0 0 ≡ left_at xs i
pair_left k xs i h = ap (λ (ys : List ℕ). get_or ys 0 0) (chunk_at k xs i h) ∙ get_or-take 2 (rest xs i) 0 0 (omega arith) ∙ rest_left xs i

pub pair_right : (k : ℕ) (xs : List ℕ) (i : ℕ) → i < k → get_or (get_or (first_chunks 2 k xs) i []) 1 0 ≡ right_at xs i
pair_right k xs i h = ap (λ (ys : List ℕ). get_or ys 1 0) (chunk_at k xs i h) ∙ get_or-take 2 (rest xs i) 1 0 (omega arith) ∙ rest_right xs i

-- two sets at a time
told_two : (n i k : ℕ) (ys : List ℕ) → sets_told n i (suc (suc k)) ys
    ≡ pick (ltb (get_or ys 0 0) (2 ^ n)) (pick (ltb (get_or ys 1 0) (2 ^ n)) (sets_told n (suc (suc i)) k (drop 2 ys)) (refused 3 (suc i))) (refused 3 i)
unfolding sets_told
told_two n i k ys =
    ap (λ (x : ℕ). pick (ltb (get_or ys 0 0) (2 ^ n)) (pick (ltb x (2 ^ n)) (sets_told n (suc (suc i)) k (drop 1 (drop 1 ys))) (refused 3 (suc i))) (refused 3 i)) (get_or-drop 1 ys 0 0)
    ∙ ap (λ (zs : List ℕ). pick (ltb (get_or ys 0 0) (2 ^ n)) (pick (ltb (get_or ys 1 0) (2 ^ n)) (sets_told n (suc (suc i)) k zs) (refused 3 (suc i))) (refused 3 i)) (drop-drop 1 1 ys)

-- what is left after i of the rules, with those that were read
pub record Left (n count : ℕ) (xs : List ℕ) (i : ℕ) (ds : List Dep) : Type 0 where
  pub tells : sets_told n (2 * i) (2 * (count - i)) (rest xs i) ≡ sets_told n 0 (2 * count) xs
  pub gives : ds ++ rules_in n (count - i) (rest xs i) ≡ rules_in n count xs

pub left_start : (n count : ℕ) (xs : List ℕ) → Left n count xs 0 []
left_start n count xs =
    let e : count - 0 ≡ count = omega arith in
    record { tells = ap (λ (k : ℕ). sets_told n 0 (2 * k) xs) e; gives = ap (λ (k : ℕ). rules_in n k xs) e }

module _ (n count : ℕ) (xs : List ℕ) (i : ℕ) (ds : List Dep) (so : Left n count xs i ds) (more : i < count) where
  abbrev k : ℕ
  k = count - (i + 1)

  tells_here : sets_told n 0 (2 * count) xs
      ≡ pick (ltb (left_at xs i) (2 ^ n)) (pick (ltb (right_at xs i) (2 ^ n)) (sets_told n (2 * (i + 1)) (2 * k) (rest xs (i + 1))) (refused 3 (2 * i + 1))) (refused 3 (2 * i))
  tells_here =
      let e : 2 * (count - i) ≡ suc (suc (2 * k)) = omega arith in
      let e1 : suc (2 * i) ≡ 2 * i + 1 = omega arith in
      let e2 : suc (suc (2 * i)) ≡ 2 * (i + 1) = omega arith in
      let F : ℕ → ℕ → List ℕ → ℕ → ℕ → Told
      = λ a b ys u v. pick (ltb a (2 ^ n)) (pick (ltb b (2 ^ n)) (sets_told n u (2 * k) ys) (refused 3 v)) (refused 3 (2 * i)) in
      sym so.tells ∙ ap (λ (m : ℕ). sets_told n (2 * i) m (rest xs i)) e ∙ told_two n (2 * i) (2 * k) (rest xs i)
      ∙ ap (λ (a : ℕ). F a (get_or (rest xs i) 1 0) (drop 2 (rest xs i)) (suc (suc (2 * i))) (suc (2 * i))) (rest_left xs i)
      ∙ ap (λ (b : ℕ). F (left_at xs i) b (drop 2 (rest xs i)) (suc (suc (2 * i))) (suc (2 * i))) (rest_right xs i)
      ∙ ap (λ (ys : List ℕ). F (left_at xs i) (right_at xs i) ys (suc (suc (2 * i))) (suc (2 * i))) (rest_next xs i)
      ∙ ap (λ (u : ℕ). F (left_at xs i) (right_at xs i) (rest xs (i + 1)) u (suc (2 * i))) e2
      ∙ ap (λ (v : ℕ). F (left_at xs i) (right_at xs i) (rest xs (i + 1)) (2 * (i + 1)) v) e1

  gives_here : ds ++ rule_at n xs i ∷ rules_in n k (rest xs (i + 1)) ≡ rules_in n count xs
  unfolding rules_in
  gives_here =
      let e : count - i ≡ suc k = omega arith in
      let G : ℕ → ℕ → List ℕ → List Dep = λ a b ys. ds ++ record { left = set_in 0 n a; right = set_in 0 n b } ∷ rules_in n k ys in
      sym (ap (λ (m : ℕ). ds ++ rules_in n m (rest xs i)) e
      ∙ ap (λ (a : ℕ). G a (get_or (rest xs i) 1 0) (drop 2 (rest xs i))) (rest_left xs i)
      ∙ ap (λ (b : ℕ). G (left_at xs i) b (drop 2 (rest xs i))) (rest_right xs i)
      ∙ ap (λ (ys : List ℕ). G (left_at xs i) (right_at xs i) ys) (rest_next xs i))
      ∙ so.gives

  -- both sets are read
  pub left_turn : left_at xs i < 2 ^ n → right_at xs i < 2 ^ n → Left n count xs (i + 1) (ds ++ rule_at n xs i ∷ [])
  left_turn a b =
      let p : ltb (left_at xs i) (2 ^ n) ≡ true = lt-ltb (left_at xs i) (2 ^ n) a in
      let q : ltb (right_at xs i) (2 ^ n) ≡ true = lt-ltb (right_at xs i) (2 ^ n) b in
      record {
        tells = sym (rw (p, q) at tells_here);
        gives = append_assoc ds (rule_at n xs i ∷ []) (rules_in n k (rest xs (i + 1))) ∙ gives_here;
      }

  -- one of them names a column that is not there
  pub left_bad : 2 ^ n ≤ left_at xs i → sets_told n 0 (2 * count) xs ≡ refused 3 (2 * i)
  left_bad a = let p : ltb (left_at xs i) (2 ^ n) ≡ false = le-ltb (left_at xs i) (2 ^ n) a in rw p at tells_here

  pub right_bad : left_at xs i < 2 ^ n → 2 ^ n ≤ right_at xs i → sets_told n 0 (2 * count) xs ≡ refused 3 (2 * i + 1)
  right_bad a b =
      let p : ltb (left_at xs i) (2 ^ n) ≡ true = lt-ltb (left_at xs i) (2 ^ n) a in
      let q : ltb (right_at xs i) (2 ^ n) ≡ false = le-ltb (right_at xs i) (2 ^ n) b in
      rw (p, q) at tells_here

pub left_end : (n count : ℕ) (xs : List ℕ) (i : ℕ) (ds : List Dep) → Left n count xs i ds → count ≤ i
    → (sets_told n 0 (2 * count) xs ≡ done) × (ds ≡ rules_in n count xs)
unfolding sets_told rules_in
left_end n count xs i ds so h =
    let e : count - i ≡ 0 = omega arith in (
      sym so.tells ∙ ap (λ (k : ℕ). sets_told n (2 * i) (2 * k) (rest xs i)) e,
      sym (append-nil ds) ∙ sym (ap (λ (k : ℕ). ds ++ rules_in n k (rest xs i)) e) ∙ so.gives,
    )

-- one more rule is read
pub deps_read : (n : ℕ) (xs : List ℕ) (i : ℕ) (rs rs' : List Rule) (s t : ColumnSet) → cols s ≡ set_in 0 n (left_at xs i)
    → cols t ≡ set_in 0 n (right_at xs i) → rs' ≡ rs ++ record { left = s; right = t } ∷ [] → deps rs ++ rule_at n xs i ∷ [] ≡ deps rs'
deps_read n xs i rs rs' s t a b e =
    sym (ap deps e ∙ deps_push rs (record { left = s; right = t })
    ∙ ap (λ (x : List ℕ). deps rs ++ record { left = x; right = cols t } ∷ []) a
    ∙ ap (λ (x : List ℕ). deps rs ++ record { left = set_in 0 n (left_at xs i); right = x } ∷ []) b)

-- rules that are read name columns of the table only
set_proper : (n m : ℕ) → all_in (set_in 0 n m) (columns 0 n) ≡ true
set_proper n m = sub_all_in (set_in 0 n m) (columns 0 n) (λ c h. below_in n c (omega (arith, set_high 0 n m c h)))

pub rules_proper : (n k : ℕ) (xs : List ℕ) → is_proper n (rules_in n k xs) ≡ true
unfolding rules_in
rules_proper n zero xs = refl
rules_proper n (suc k) xs =
    and_from _ _ (and_from _ _ (set_proper n (get_or xs 0 0)) (set_proper n (get_or xs 1 0))) (rules_proper n k (drop 2 xs))
