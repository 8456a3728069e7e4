-- A day of deeds that were taken, undone backwards, leaves the table and the parts as they were.
use Rattle.std.proofs.Common.{◌≡◌, ℕ, zero, suc, ◌+◌, ◌<◌, ◌≤◌, Bool, true, false, not, List, [], ◌∷◌, ◌++◌, length, get_or, sym, refl, ◌∙◌, subst, ap₂, append_assoc, suc-le-suc, le_of_suc-le-suc, not-suc-le-zero, arith}
use Rattle.std.proofs.lemmas.Bool.{ltb-true, ltb-false, lt-ltb, and_parts, and_from, not-true, not_from_false}
use Rattle.dependencies.specs.Tables.{Row, Dep, agree, ObeysAll, no_dep, Proper}
use Rattle.columns.specs.Cols.{Cols, all_in, columns}
use Rattle.schema.specs.Design.{Part}
use Rattle.parts.specs.Day.{Deed, insert, remove, Held, present, without, rules_with, whole_takes, whole_after, whole_day, whole_end, parts_end, bare}
use Rattle.register.specs.Theorems.{backwards, AllTaken, NeverMore, Undone}
use Rattle.columns.specs.Members.{In}
use Rattle.columns.proofs.Members.{at_in}
use Rattle.parts.proofs.Agree.{agree_refl, agree_sym, agree_trans, agree_inside, like_agree, all_in_refl}
use Rattle.register.proofs.Counts.{one, count, present_count, present_in, count_come, count_go, without_in}
use Rattle.register.proofs.Keeping.{kept_length}
use Rattle.register.proofs.Obeying.{rule_with_from, rules_with_from, rule_with_like, obeys_at, obeys_come, obeys_none}
use Rattle.dependencies.proofs.Tables.{fewer_rows}
use Rattle.register.proofs.Together.{AllKept}
use Rattle.register.proofs.Days.{taken_rules, taken_there, day_same, end_beside, start_beside}

-- the same rows, in any order
abbrev pub SameRows : Cols → List Row → List Row → Type 0
SameRows cs t u = (q : Row) → count cs q t ≡ count cs q u

-- no row twice
abbrev pub Distinct : Cols → List Row → Type 0
Distinct cs t = (q : Row) → count cs q t ≤ 1

count_like : (cs : Cols) (q r : Row) (t : List Row) → agree cs q r ≡ true → count cs q t ≡ count cs r t
unfolding count
count_like cs q r [] a = refl
count_like cs q r (s ∷ t) a = ap₂ (λ b n. one b + n) (like_agree cs q r s a) (count_like cs q r t a)

present_some : (cs : Cols) (r : Row) (t : List Row) → present cs r t ≡ true → 0 < count cs r t
present_some cs r t h = ltb-true 0 (count cs r t) (sym (present_count cs r t) ∙ h)

some_present : (cs : Cols) (r : Row) (t : List Row) → 0 < count cs r t → present cs r t ≡ true
some_present cs r t h = present_count cs r t ∙ lt-ltb 0 (count cs r t) h

absent_none : (cs : Cols) (r : Row) (t : List Row) → present cs r t ≡ false → count cs r t ≡ 0
absent_none cs r t h = let k = ltb-false 0 (count cs r t) (sym (present_count cs r t) ∙ h) in omega arith

none_absent : (cs : Cols) (r : Row) (t : List Row) → count cs r t ≡ 0 → present cs r t ≡ false
none_absent cs r t h = present_count cs r t ∙ rw h

-- only the table with no row counts 0 everywhere
same_none : (cs : Cols) (t : List Row) → SameRows cs t [] → t ≡ []
unfolding count
same_none cs [] f = refl
same_none cs (s ∷ t) f = absurd (let k = rw (agree_refl cs s) at (f s) in omega arith)

distinct_come : (cs : Cols) (r : Row) (t : List Row) → present cs r t ≡ false → Distinct cs t → Distinct cs (t ++ r ∷ [])
distinct_come cs r t h d q = rw count_come (go (agree cs q r) refl)
  where
    go : (b : Bool) → agree cs q r ≡ b → one b + count cs q t ≤ 1
    go true e = let x = count_like cs q r t e in let y = absent_none cs r t h in omega arith
    go false e = let x = d q in omega arith

distinct_go : (cs : Cols) (r : Row) (t : List Row) → present cs r t ≡ true → Distinct cs t → Distinct cs (without cs r t)
distinct_go cs r t h d q = let x = count_go cs cs q r t (all_in_refl cs) h in let y = d q in omega arith

-- what the table is after a deed that is taken
after_insert : (n : ℕ) (ds : List Dep) (t : List Row) (r : Row) → whole_takes n ds t (insert r) ≡ true → whole_after n ds t (insert r) ≡ t ++ r ∷ []
unfolding whole_after
after_insert n ds t r w = rw w

after_remove : (n : ℕ) (ds : List Dep) (t : List Row) (r : Row) → whole_takes n ds t (remove r) ≡ true → whole_after n ds t (remove r) ≡ without (columns 0 n) r t
unfolding whole_after
after_remove n ds t r w = rw w

taken_absent : (n : ℕ) (ds : List Dep) (t : List Row) (r : Row) → whole_takes n ds t (insert r) ≡ true → present (columns 0 n) r t ≡ false
unfolding whole_takes
taken_absent n ds t r w = not-true _ (and_parts (not (present (columns 0 n) r t)) (rules_with ds r t) w).0

takes_absent : (n : ℕ) (ds : List Dep) (t : List Row) (r : Row) → present (columns 0 n) r t ≡ false → rules_with ds r t ≡ true → whole_takes n ds t (insert r) ≡ true
unfolding whole_takes
takes_absent n ds t r a w = and_from _ _ (not_from_false _ a) w

takes_there : (n : ℕ) (ds : List Dep) (t : List Row) (r : Row) → present (columns 0 n) r t ≡ true → whole_takes n ds t (remove r) ≡ true
unfolding whole_takes
takes_there n ds t r h = h

pub record Sound (n : ℕ) (ds : List Dep) (t : List Row) : Type 0 where
  pub obeys : ObeysAll t ds
  pub distinct : Distinct (columns 0 n) t

sound_none : (n : ℕ) (ds : List Dep) → Sound n ds []
unfolding count
sound_none n ds = record { obeys = obeys_none ds; distinct = λ q. omega arith }

sound_after : (n : ℕ) (ds : List Dep) (t : List Row) (e : Deed) → whole_takes n ds t e ≡ true → Sound n ds t → Sound n ds (whole_after n ds t e)
sound_after n ds t (insert r) w s = rw (after_insert n ds t r w) (record {
  obeys = obeys_come t r ds s.obeys (taken_rules n ds t r w);
  distinct = distinct_come (columns 0 n) r t (taken_absent n ds t r w) s.distinct;
})
sound_after n ds t (remove r) w s = rw (after_remove n ds t r w) (record {
  obeys = fewer_rows t (without (columns 0 n) r t) ds (without_in (columns 0 n) r t) s.obeys;
  distinct = distinct_go (columns 0 n) r t (taken_there n ds t r w) s.distinct;
})

whole_end_++ : (n : ℕ) (ds : List Dep) (es fs : List Deed) (t : List Row) → whole_end n ds t (es ++ fs) ≡ whole_end n ds (whole_end n ds t es) fs
unfolding whole_end
whole_end_++ n ds [] fs t = refl
whole_end_++ n ds (e ∷ es) fs t = whole_end_++ n ds es fs (whole_after n ds t e)

undo_insert : (n : ℕ) (ds : List Dep) (t u : List Row) (r : Row) → whole_takes n ds t (insert r) ≡ true
    → SameRows (columns 0 n) u (whole_after n ds t (insert r)) → SameRows (columns 0 n) (whole_after n ds u (remove r)) t
undo_insert n ds t u r w f q =
    let C : Cols = columns 0 n in
    let g : SameRows C u (t ++ r ∷ []) = rw (after_insert n ds t r w) at f in
    let i : one (agree C r r) ≡ 1 = rw (agree_refl C r) in
    let a = g r in let b = count_come C r r t in
    let h : present C r u ≡ true = some_present C r u (omega arith) in
    let x = g q in let y = count_come C q r t in let z = count_go C C q r u (all_in_refl C) h in
    rw (after_remove n ds u r (takes_there n ds u r h)) (omega arith)

module _ (n : ℕ) (ds : List Dep) (ok : Proper n ds) where
  proper_rule : (d : Dep) → In d ds → (all_in d.left (columns 0 n) ≡ true) × (all_in d.right (columns 0 n) ≡ true)
  unfolding Proper
  proper_rule d m = let x = at_in ds d no_dep m in
      let P : Dep → Type 0 = λ e. (all_in e.left (columns 0 n) ≡ true) × (all_in e.right (columns 0 n) ≡ true) in subst P x.2 (ok x.0 x.1)

  -- a row of a table breaks no rule with it, nor with less of it
  rules_there : (t u : List Row) (r : Row) → ObeysAll t ds → present (columns 0 n) r t ≡ true
      → ((q : Row) → present (columns 0 n) q u ≡ true → present (columns 0 n) q t ≡ true) → rules_with ds r u ≡ true
  rules_there t u r o h f = rules_with_from ds r u λ d m. let i = proper_rule d m in
      rule_with_like d (columns 0 n) r t u i.0 i.1 f (rule_with_from d r t λ s k a.
      let x = present_in (columns 0 n) r t h in
      let l = agree_inside d.left (columns 0 n) r x.0 i.0 x.2 in
      agree_trans d.right r x.0 s (agree_inside d.right (columns 0 n) r x.0 i.1 x.2)
      (obeys_at t ds o d x.0 s m x.1 k (agree_trans d.left x.0 r s (agree_sym d.left r x.0 l) a)))

  undo_remove : (t u : List Row) (r : Row) → Sound n ds t → whole_takes n ds t (remove r) ≡ true
      → SameRows (columns 0 n) u (whole_after n ds t (remove r)) → SameRows (columns 0 n) (whole_after n ds u (insert r)) t
  undo_remove t u r s w f q =
      let C : Cols = columns 0 n in
      let g : SameRows C u (without C r t) = rw (after_remove n ds t r w) at f in
      let h : present C r t ≡ true = taken_there n ds t r w in
      let i : one (agree C r r) ≡ 1 = rw (agree_refl C r) in
      let a = g r in let b = count_go C C r r t (all_in_refl C) h in let c = s.distinct r in
      let away : present C r u ≡ false = none_absent C r u (omega arith) in
      let less : (v : Row) → present C v u ≡ true → present C v t ≡ true = λ v p.
      let l = present_some C v u p in let m = g v in let k = count_go C C v r t (all_in_refl C) h in some_present C v t (omega arith) in
      let x = g q in let y = count_come C q r u in let z = count_go C C q r t (all_in_refl C) h in
      rw (after_insert n ds u r (takes_absent n ds u r away (rules_there t u r s.obeys h less))) (omega arith)

  undone : (es : List Deed) (t : List Row) → Sound n ds t → AllTaken (whole_day n ds t es) → SameRows (columns 0 n) (whole_end n ds t (es ++ backwards es)) t
  unfolding AllTaken whole_day whole_end backwards
  undone [] t s a = λ q. refl
  undone (insert r ∷ es) t s a =
      let w = a 0 (suc-le-suc (omega arith)) in
      let f = undone es (whole_after n ds t (insert r)) (sound_after n ds t (insert r) w s) (λ i h. a (suc i) (suc-le-suc h)) in
      rw (← append_assoc es (backwards es) (remove r ∷ []), whole_end_++ n ds (es ++ backwards es) (remove r ∷ []) (whole_after n ds t (insert r)))
      (undo_insert n ds t (whole_end n ds (whole_after n ds t (insert r)) (es ++ backwards es)) r w f)
  undone (remove r ∷ es) t s a =
      let w = a 0 (suc-le-suc (omega arith)) in
      let f = undone es (whole_after n ds t (remove r)) (sound_after n ds t (remove r) w s) (λ i h. a (suc i) (suc-le-suc h)) in
      rw (← append_assoc es (backwards es) (insert r ∷ []), whole_end_++ n ds (es ++ backwards es) (insert r ∷ []) (whole_after n ds t (remove r)))
      (undo_remove t (whole_end n ds (whole_after n ds t (remove r)) (es ++ backwards es)) r s w f)

held_none : {A : Type 0} (h : List A) → length h ≤ 0 → h ≡ []
held_none [] l = refl
held_none (x ∷ xs) l = absurd (not-suc-le-zero l)

kept_bare : (ps : List Part) (hs : List (List Held)) → AllKept [] ps hs → hs ≡ bare ps
unfolding bare
kept_bare [] [] k = refl
kept_bare [] (h ∷ hs) k = absurd k
kept_bare (p ∷ ps) [] k = absurd k
kept_bare (p ∷ ps) (h ∷ hs) k = ap₂ (λ x xs. x ∷ xs) (held_none h (kept_length p.cols [] h k.0)) (kept_bare ps hs k.1)

kept_lengths : (t : List Row) (ps : List Part) (hs : List (List Held)) → AllKept t ps hs → (i : ℕ) → i < length ps → length (get_or hs i []) ≤ length t
kept_lengths t [] hs k i h = absurd (not-suc-le-zero h)
kept_lengths t (p ∷ ps) [] k i h = absurd k
kept_lengths t (p ∷ ps) (g ∷ hs) k zero h = kept_length p.cols t g k.0
kept_lengths t (p ∷ ps) (g ∷ hs) k (suc i) h = kept_lengths t ps hs k.1 i (le_of_suc-le-suc h)

pub never_more_stands : NeverMore
unfolding NeverMore
never_more_stands n ds ps es design =
    kept_lengths (whole_end n ds [] es) ps (parts_end ps (bare ps) es) (end_beside n ds ps design es [] (bare ps) (start_beside n ds ps design)).kept

pub undone_stands : Undone
unfolding Undone
undone_stands n ds ps es ok design a =
    let start = start_beside n ds ps design in
    let b : AllTaken (whole_day n ds [] es) = rw (day_same n ds ps design es [] (bare ps) start) at a in
    let e : whole_end n ds [] (es ++ backwards es) ≡ [] = same_none (columns 0 n) _ (undone n ds ok es [] (sound_none n ds) b) in
    let k = (end_beside n ds ps design (es ++ backwards es) [] (bare ps) start).kept in kept_bare ps _ (rw e at k)
