-- A table laid into bare parts of a design and joined again is the same table.
use Rattle.std.proofs.Common.{◌≡◌, ℕ, zero, suc, ◌+◌, ◌<◌, Bool, true, false, not, ◌&&◌, List, [], ◌∷◌, ◌++◌, length, get_or, None, sym, refl, ap, ◌∙◌, subst, inl, inr, append_assoc, arith}
use Rattle.std.proofs.lemmas.List.{append-nil}
use Rattle.std.proofs.lemmas.Bool.{false≢true, both_ways, cases_Bool, and_from, not_from_false, or_cases, or_left, or_right}
use Rattle.columns.specs.Cols.{Cols, has, all_in, columns, pick}
use Rattle.columns.specs.Members.{In, Sub}
use Rattle.columns.specs.Order.{before}
use Rattle.columns.proofs.Columns.{has_in, below}
use Rattle.columns.proofs.Compared.{before_self}
use Rattle.columns.proofs.Lists.{all_gives}
use Rattle.columns.proofs.Members.{in_left, in_right, in_either}
use Rattle.dependencies.specs.Tables.{Row, Dep, ObeysAll}
use Rattle.dependencies.specs.Told.{Told, done, refused}
use Rattle.dependencies.proofs.Rows.{agree_same, same_agree}
use Rattle.dependencies.proofs.Tables.{fewer_rows}
use Rattle.schema.specs.Design.{Part, no_part, Design}
use Rattle.parts.specs.Answers.{put_told}
use Rattle.parts.specs.Day.{insert, Held, present, rules_with, whole_takes, whole_after, whole_day, whole_end, all_hold, bare}
use Rattle.register.specs.Deeds.{is_done, deed_after, day_told, day_end, taken_of, never_full}
use Rattle.parts.proofs.Agree.{agree_refl, agree_sym}
use Rattle.register.proofs.Counts.{present_in, in_present}
use Rattle.register.proofs.Obeying.{obeys_rules_with}
use Rattle.register.proofs.Whole.{WholeRows, day_whole}
use Rattle.join.specs.Joined.{covered, places, InTurn, Joined}
use Rattle.join.specs.Laid.{inserts, first_refusal}
use Rattle.join.specs.Theorems.{NoRowTwice, WholeTable, SameTable, LaidThenJoined}
use Rattle.join.proofs.OnePartMore.{alike_places}
use Rattle.join.proofs.TableLaid.{put_whole}

-- every answer is that the deed is taken
abbrev Yes : List Bool → Type 0
Yes [] = Unit {0}
Yes (b ∷ bs) = (b ≡ true) × Yes bs

yes_none : (i : ℕ) (ts : List Told) → Yes (taken_of ts) → first_refusal i ts ≡ None
unfolding taken_of first_refusal
yes_none i [] y = refl
yes_none i (done ∷ ts) y = yes_none (i + 1) ts y.1
yes_none i (refused k p ∷ ts) y = absurd (false≢true y.0)

none_yes : (i : ℕ) (ts : List Told) → first_refusal i ts ≡ None → Yes (taken_of ts)
unfolding taken_of first_refusal
none_yes i [] e = tt
none_yes i (done ∷ ts) e = (refl, none_yes (i + 1) ts e)
none_yes i (refused k p ∷ ts) e = let z : ◌≡◌ {A = ℕ} 0 1 = cc in absurd (omega arith)

yes_never_full : (ts : List Told) → Yes (taken_of ts) → never_full ts ≡ true
unfolding taken_of never_full
yes_never_full [] y = refl
yes_never_full (done ∷ ts) y = yes_never_full ts y.1
yes_never_full (refused k p ∷ ts) y = absurd (false≢true y.0)

-- rows that are all taken have n cells each
yes_whole : (n room : ℕ) (ps : List Part) (hs : List (List Held)) (t : List Row) → Yes (taken_of (day_told n room ps hs (inserts t))) → WholeRows n (inserts t)
unfolding taken_of day_told inserts
yes_whole n room ps hs [] y = tt
yes_whole n room ps hs (r ∷ t) y = (put_whole n room ps hs r (done_so (put_told n room ps hs r) y.0), yes_whole n room ps (deed_after n room ps hs (insert r)) t y.1)
  where
    done_so : (t : Told) → is_done t ≡ true → t ≡ done
    done_so done e = refl
    done_so (refused k p) e = absurd (false≢true e)

whole_rows : (n : ℕ) (t : List Row) → WholeTable n t → WholeRows n (inserts t)
unfolding inserts
whole_rows n [] w = tt
whole_rows n (r ∷ t) w = (w r (inl refl), whole_rows n t (λ s i. w s (inr i)))

-- rows that the one table takes all stand in it, in their order
yes_end : (n : ℕ) (ds : List Dep) (t pre : List Row) → Yes (whole_day n ds pre (inserts t)) → whole_end n ds pre (inserts t) ≡ pre ++ t
unfolding whole_day whole_end whole_after inserts
yes_end n ds [] pre y = sym (append-nil pre)
yes_end n ds (r ∷ t) pre y =
    let a : whole_after n ds pre (insert r) ≡ pre ++ r ∷ [] = ap (λ (b : Bool). pick b (pre ++ r ∷ []) pre) y.0 in
    ap (λ (z : List Row). whole_end n ds z (inserts t)) a
    ∙ yes_end n ds t (pre ++ r ∷ []) (subst (λ (z : List Row). Yes (whole_day n ds z (inserts t))) a y.1) ∙ append_assoc pre (r ∷ []) t

-- the one table takes a table that obeys the rules and lists no row twice
obeyed_yes : (n : ℕ) (ds : List Dep) (t pre : List Row) → ObeysAll (pre ++ t) ds → NoRowTwice n t → ((s : Row) → In s pre → present (columns 0 n) s t ≡ false)
    → Yes (whole_day n ds pre (inserts t))
unfolding whole_day whole_takes whole_after inserts
obeyed_yes n ds [] pre o d f = tt
obeyed_yes n ds (r ∷ t) pre o d f =
    let C : Cols = columns 0 n in
    let new : present C r pre ≡ false = elim (cases_Bool (present C r pre)) [
      | inl e ↦
          let x = present_in C r pre e in
          absurd (both_ways (present C x.0 (r ∷ t)) (f x.0 x.1) (in_present C x.0 r (r ∷ t) (inl refl) (agree_sym C r x.0 x.2)))
      | inr e ↦ e
    ] in
    let fine : rules_with ds r pre ≡ true = obeys_rules_with pre r ds (fewer_rows (pre ++ r ∷ t) (pre ++ r ∷ []) ds (begin pre r t) o) in
    let takes : (not (present C r pre) && rules_with ds r pre) ≡ true = and_from _ _ (not_from_false _ new) fine in
    let a : pick (not (present C r pre) && rules_with ds r pre) (pre ++ r ∷ []) pre ≡ pre ++ r ∷ [] = ap (λ (b : Bool). pick b (pre ++ r ∷ []) pre) takes in (
      takes,
      subst (λ (z : List Row). Yes (whole_day n ds z (inserts t))) (sym a)
          (obeyed_yes n ds t (pre ++ r ∷ []) (subst (λ (z : List Row). ObeysAll z ds) (sym (append_assoc pre (r ∷ []) t)) o) d.1
          (λ s i. elim (in_either pre (r ∷ []) s i) [
            | inl k ↦ behind C s r t (f s k)
            | inr k ↦ elim k [ inl e ↦ subst (λ (z : Row). present C z t ≡ false) e d.0 | inr j ↦ absurd j ]
          ])),
    )
  where
    begin : (pre : List Row) (r : Row) (t : List Row) → Sub (pre ++ r ∷ []) (pre ++ r ∷ t)
    begin pre r t s i = elim (in_either pre (r ∷ []) s i) [
      | inl k ↦ in_left pre (r ∷ t) s k
      | inr k ↦ elim k [ inl e ↦ in_right pre (r ∷ t) s (inl e) | inr j ↦ absurd j ]
    ]

    behind : (C : Cols) (s r : Row) (t : List Row) → present C s (r ∷ t) ≡ false → present C s t ≡ false
    behind C s r t e = elim (cases_Bool (present C s t)) [
      | inl h ↦
          let x = present_in C s t h in
          absurd (both_ways (present C s (r ∷ t)) e (in_present C s x.0 (r ∷ t) (inr x.1) x.2))
      | inr h ↦ h
    ]

-- what is joined of parts that hold exactly the rows of a table
module _ (n : ℕ) (ds : List Dep) (ps : List Part) (hs : List (List Held)) (t rows : List Row) (design : Design n ds ps)
    (hold : (r : Row) → all_hold ps hs r ≡ present (columns 0 n) r t) (J : Joined ps hs rows) where
  abbrev C : Cols
  C = columns 0 n

  covered_at : (qs : List Part) (i c : ℕ) → i < length qs → has (get_or qs i no_part).cols c ≡ true → covered qs c ≡ true
  unfolding covered
  covered_at [] i c l e = absurd (omega arith)
  covered_at (q ∷ qs) zero c l e = or_left (has q.cols c) (covered qs c) e
  covered_at (q ∷ qs) (suc i) c l e = or_right (has q.cols c) (covered qs c) (covered_at qs i c (omega arith) e)

  covers : (c : ℕ) → c < n → covered ps c ≡ true
  covers c l = let x = design.covers c l in covered_at ps x.0 c x.1 x.2

  within : (qs : List Part) → ((i : ℕ) → i < length qs → all_in (get_or qs i no_part).cols C ≡ true) → (c : ℕ) → covered qs c ≡ true → has C c ≡ true
  unfolding covered
  within [] w c e = absurd (false≢true e)
  within (q ∷ qs) w c e = elim (or_cases (has q.cols c) (covered qs c) e) [
    | inl h ↦ all_gives q.cols C (w 0 (omega arith)) c h
    | inr h ↦ within qs (λ i l. w (suc i) (omega arith)) c h
  ]

  lost : (r : Row) → In r t → present C r rows ≡ true
  lost r m =
      let x = J.complete r (hold r ∙ in_present C r r t m (agree_refl C r)) in
      in_present C r x.0 rows x.1 (same_agree C r x.0 (λ c i. sym (x.2 c (covers c (below n c i)))))

  made_up : (q : Row) → In q rows → present C q t ≡ true
  made_up q m = sym (hold q) ∙ J.sound q m

  twice : (rs : List Row) → InTurn ps hs rs → NoRowTwice n rs
  twice [] w = tt
  twice (r ∷ rs) w = (
    elim (cases_Bool (present C r rs)) [
      | inl e ↦
          let x = present_in C r rs e in
          let p : places ps hs r ≡ places ps hs x.0 = alike_places ps hs r x.0 (λ c h. agree_same C r x.0 x.2 c (has_in C c (within ps design.within c h))) in
          absurd (both_ways (before (places ps hs r) (places ps hs r)) (before_self (places ps hs r)) (ap (λ (z : List ℕ). before (places ps hs r) z) p ∙ w.0 x.0 x.1))
      | inr e ↦ e
    ],
    twice rs w.1,
  )

  pub same_table : SameTable n t rows
  same_table = record { none_lost = lost; none_made_up = made_up; none_twice = twice rows J.in_turn }

-- laid from bare parts, all rows taken
module _ (n room : ℕ) (ds : List Dep) (ps : List Part) (t rows : List Row) (design : Design n ds ps) where
  abbrev ts : List Told
  ts = day_told n room ps (bare ps) (inserts t)

  abbrev HS : List (List Held)
  HS = day_end n room ps (bare ps) (inserts t)

  as_whole : WholeRows n (inserts t) → never_full ts ≡ true
      → (taken_of ts ≡ whole_day n ds [] (inserts t)) × ((r : Row) → all_hold ps HS r ≡ present (columns 0 n) r (whole_end n ds [] (inserts t)))
  as_whole w f = day_whole n room ps HS (inserts t) w refl ds design f

  pub taken_same : first_refusal 0 ts ≡ None → Joined ps HS rows → SameTable n t rows
  taken_same e J =
      let y = none_yes 0 ts e in
      let w = as_whole (yes_whole n room ps (bare ps) t y) (yes_never_full ts y) in
      let end : whole_end n ds [] (inserts t) ≡ t = yes_end n ds t [] (subst (λ (bs : List Bool). Yes bs) w.0 y) in
      same_table n ds ps HS t rows design (λ r. w.1 r ∙ ap (λ (z : List Row). present (columns 0 n) r z) end) J

  pub taken_whole : ObeysAll t ds → NoRowTwice n t → WholeTable n t → never_full ts ≡ true → first_refusal 0 ts ≡ None
  taken_whole o d w f =
      yes_none 0 ts (subst (λ (bs : List Bool). Yes bs) (sym (as_whole (whole_rows n t w) f).0) (obeyed_yes n ds t [] o d (λ s i. absurd i)))

pub laid_then_joined_lem : LaidThenJoined
unfolding LaidThenJoined
laid_then_joined_lem n room ds ps t rows design o d w f =
    let e = taken_whole n room ds ps t rows design o d w f in (e, λ J. taken_same n room ds ps t rows design e J)
