-- Two parts lose nothing exactly if what they share fixes one of them. Assumes nothing.
use Rattle.std.proofs.Common.{◌≡◌, ℕ, ◌+◌, ◌<◌, List, [], ◌∷◌, ◌++◌, get_or, sym, refl, ◌∙◌, subst, inl, inr, arith}
use Rattle.std.proofs.lemmas.Bool.{and_parts, and_from, cases_Bool}
use Rattle.dependencies.specs.Tables.{Row, Dep, ObeysAll, Implied}
use Rattle.columns.specs.Cols.{Cols, has, all_in, columns}
use Rattle.dependencies.specs.Closure.{closure}
use Rattle.schema.specs.Theorems.{TwoParts}
use Rattle.columns.specs.Members.{In, Sub}
use Rattle.columns.proofs.Members.{in_either, in_left, in_right}
use Rattle.dependencies.proofs.Rows.{Same}
use Rattle.columns.proofs.Columns.{has_in, in_has, in_or_not, all_in_sub, not_all_in, in_columns}
use Rattle.dependencies.proofs.Closures.{Within, closure_grows}
use Rattle.dependencies.proofs.Fired.{closure_closed}
use Rattle.dependencies.proofs.Marks.{mark, mark_in, mark_out, tops, marks_obey}
use Rattle.schema.proofs.Looks.{Seen, loses_seen, seen_loses}
use Rattle.dependencies.proofs.Exact.{same_closed, closure_implied, implied_sound}

-- the row b that looks like r in q looks like r everywhere, if what is shared fixes p
other_looks : (n : ℕ) (ds : List Dep) (p q shared : Cols) → Sub (columns 0 n) (p ++ q) → ((c : ℕ) → In c shared → In c p × In c q)
    → Implied ds (record { left = shared; right = p }) → (t : List Row) (r : Row) → ObeysAll t ds → Seen t r p → Seen t r q → Seen t r (columns 0 n)
other_looks n ds p q shared cover both f t r o a b =
    let k : Within p (Same a.0 b.0)
    = implied_sound ds (record { left = shared; right = p }) f (Same a.0 b.0) (same_closed ds t o a.0 b.0 a.1 b.1)
    (λ c i. sym (a.2 c (both c i).0) ∙ b.2 c (both c i).1) in
    (b.0, b.1, λ c i. elim (in_either p q c (cover c i)) [ inl h ↦ a.2 c h ∙ k c h | inr h ↦ b.2 c h ])

sub_turn : (cs p q : Cols) → Sub cs (p ++ q) → Sub cs (q ++ p)
sub_turn cs p q f c i = elim (in_either p q c (f c i)) [ inl h ↦ in_right q p c h | inr h ↦ in_left q p c h ]

-- else two rows, mixed, give a row that was not there
module _ (n : ℕ) (ds : List Dep) (p q shared : Cols) (within : Sub (p ++ q) (columns 0 n)) (both : (c : ℕ) → In c p → In c q → In c shared) where
  abbrev cl : Cols
  cl = closure ds shared

  abbrev k : ℕ
  k = n + tops ds

  abbrev s : Row
  s = mark cl 0 k

  abbrev r : Row
  r = mark (p ++ cl) 0 k

  small : (c : ℕ) → In c (p ++ q) → c < k
  small c i = let l = in_columns 0 n c (within c i) in omega arith

  not_mixed : (c : ℕ) → In c q → (In c cl → ⊥) → In c (p ++ cl) → ⊥
  not_mixed c i no· m = elim (in_either p cl c m) [ inl h ↦ no· (closure_grows ds shared c (both c h i)) | inr h ↦ no· h ]

  r_in : (c : ℕ) → In c (p ++ cl) → get_or r c 0 ≡ 0
  r_in c i = mark_in (p ++ cl) k c i

  r_out : (c : ℕ) → In c q → (In c cl → ⊥) → get_or r c 0 ≡ 1
  r_out c i no· = mark_out (p ++ cl) k c (small c (in_right p q c i)) (not_mixed c i no·)

  looks_q : Within q (Same r s)
  looks_q c i =
      elim (in_or_not cl c) [
        | inl h ↦ r_in c (in_right p cl c h) ∙ sym (mark_in cl k c h)
        | inr h ↦ r_out c i h ∙ sym (mark_out cl k c (small c (in_right p q c i)) h)
      ]

  -- the mixed row is none of the two
  not_there : (a b : ℕ) → In a p → (In a cl → ⊥) → In b q → (In b cl → ⊥) → Seen ([] ∷ s ∷ []) r (columns 0 n) → ⊥
  not_there a b ha na hb nb u =
      elim u.1 [
        | inl e ↦
            let z : Same r [] b = subst (λ v. Same r v b) (sym e) (u.2 b (within b (in_right p q b hb))) in
            omega (arith, z, r_out b hb nb)
        | inr m ↦
            elim m [
              | inl e ↦
                  let z : Same r s a = subst (λ v. Same r v a) (sym e) (u.2 a (within a (in_left p q a ha))) in
                  omega (arith, z, r_in a (in_left p cl a ha), mark_out cl k a (small a (in_left p q a ha)) na)
              | inr x ↦ absurd x
            ]
      ]

  table_obeys : ObeysAll ([] ∷ s ∷ []) ds
  table_obeys = marks_obey ds cl k (closure_closed ds shared) (omega arith)

pub two_parts : TwoParts
unfolding TwoParts
two_parts n ds p q proper cover within shared is =
    let P : Cols = p.cols in
    let Q : Cols = q.cols in
    let cover' : Sub (columns 0 n) (P ++ Q) = all_in_sub (columns 0 n) (P ++ Q) cover in
    let within' : Sub (P ++ Q) (columns 0 n) = all_in_sub (P ++ Q) (columns 0 n) within in
    let apart : (c : ℕ) → In c shared → In c P × In c Q
    = λ c i. let h = and_parts (has P c) (has Q c) (sym (is c) ∙ in_has shared c i) in (has_in P c h.0, has_in Q c h.1) in
    let both : (c : ℕ) → In c P → In c Q → In c shared
    = λ c i j. has_in shared c (is c ∙ and_from (has P c) (has Q c) (in_has P c i) (in_has Q c j)) in (
      λ loses.
          elim (cases_Bool (all_in P (closure ds shared))) [
            | inl e ↦ inl (closure_implied ds (record { left = shared; right = P }) (all_in_sub P (closure ds shared) e))
            | inr e ↦
                elim (cases_Bool (all_in Q (closure ds shared))) [
                  | inl f ↦ inr (closure_implied ds (record { left = shared; right = Q }) (all_in_sub Q (closure ds shared) f))
                  | inr f ↦
                      let a = not_all_in P (closure ds shared) e in
                      let b = not_all_in Q (closure ds shared) f in
                      let row = r n ds P Q shared within' both in
                      let other = s n ds P Q shared within' both in
                      absurd (not_there n ds P Q shared within' both a.0 b.0 a.1 a.2 b.1 b.2
                      (loses_seen n ds (p ∷ q ∷ []) loses ([] ∷ other ∷ []) row (table_obeys n ds P Q shared within' both)
                      (λ x h.
                      elim h [
                        | inl g ↦
                            ([], inl refl, subst (λ v. Within v.cols (Same row [])) g (λ c i. r_in n ds P Q shared within' both c (in_left P (closure ds shared) c i)))
                        | inr m ↦
                            elim m [
                              | inl g ↦ (other, inr (inl refl), subst (λ v. Within v.cols (Same row other)) g (looks_q n ds P Q shared within' both))
                              | inr z ↦ absurd z
                            ]
                      ])
                      (omega arith)))
                ]
          ],
      λ fixes.
          seen_loses n ds (p ∷ q ∷ []) (λ t r o looks.
          let a = looks p (inl refl) in
          let b = looks q (inr (inl refl)) in
          elim fixes [
            | inl f ↦ other_looks n ds P Q shared cover' apart f t r o a b
            | inr f ↦ other_looks n ds Q P shared (sub_turn (columns 0 n) P Q cover') (λ c i. ((apart c i).1, (apart c i).0)) f t r o b a
          ]),
    )
