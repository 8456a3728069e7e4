-- To leave out of a list, from the front, what is redundant beside the others: what is needed goes to the end.
use Rattle.std.proofs.Common.{◌≡◌, ℕ, ◌-◌, ◌<◌, ◌⊎◌, List, [], ◌∷◌, ◌++◌, length, sym, refl, ap, ◌∙◌, subst, inl, inr, append_assoc, arith}
use Rattle.std.proofs.lemmas.List.{append-nil, length-append}
use Rattle.columns.specs.Members.{In, Sub}
use Rattle.columns.proofs.Members.{in_left, in_right, in_either}
use Rattle.columns.proofs.Shrink.{sub_front}
use Rattle.cover.specs.Ordered.{Part}
use Rattle.cover.specs.Trimmed.{RedundancyLaws, Trimming, Trimmed}
use Rattle.cover.proofs.Orders.{part_all, part_through, part_but}

no_split : {A : Type 0} (us vs : List A) (m : A) → [] ≡ us ++ m ∷ vs → ⊥
no_split [] vs m e = cc
no_split (u ∷ us) vs m e = cc

-- a list with one more at its end, taken apart
snoc_cases : {A : Type 0} (kept : List A) (x : A) (us : List A) (m : A) (vs : List A) → kept ++ x ∷ [] ≡ us ++ m ∷ vs
    → ((x ≡ m) × (kept ≡ us ++ vs)) ⊎ ((ws : List A) × (vs ≡ ws ++ x ∷ []) × (kept ≡ us ++ m ∷ ws))
snoc_cases [] x [] m vs e = inl ((cc), (cc))
snoc_cases [] x (u ∷ []) m vs e = cc
snoc_cases [] x (u ∷ w ∷ us) m vs e = cc
snoc_cases (k ∷ kept) x [] m vs e =
    let p : kept ++ x ∷ [] ≡ vs = cc in
    let q : k ≡ m = cc in
    inr (kept, sym p, ap (λ v. v ∷ kept) q)
snoc_cases (k ∷ kept) x (u ∷ us) m vs e =
    let p : kept ++ x ∷ [] ≡ us ++ m ∷ vs = cc in
    let q : k ≡ u = cc in
    elim (snoc_cases kept x us m vs p) [
      | inl a ↦ inl (a.0, ap (λ v. k ∷ v) a.1 ∙ ap (λ v. v ∷ (us ++ vs)) q)
      | inr a ↦ inr (a.0, a.1, ap (λ v. k ∷ v) a.2 ∙ ap (λ v. v ∷ (us ++ m ∷ a.0)) q)
    ]

module _ {A : Type 0} (redundant : List A → A → Type 0) (laws : RedundancyLaws redundant) where
  -- beside more it is redundant too
  pub redundant_more : (us vs : List A) → Sub us vs → (x : A) → redundant us x → redundant vs x
  redundant_more us vs f = laws.through vs us (λ v i. laws.own vs v (f v i))

  pub trimming_start : (fs : List A) → Trimming redundant fs fs []
  trimming_start fs =
      record {
        covers = λ m i. laws.own (fs ++ []) m (in_left fs [] m i);
        ordered = part_all fs;
        needed = λ us vs m e f. no_split us vs m e;
      }

  -- the front one is redundant beside the others
  pub trimming_leave : (fs : List A) (x : A) (todo kept : List A) → Trimming redundant fs (x ∷ todo) kept → redundant (todo ++ kept) x
      → Trimming redundant fs todo kept
  trimming_leave fs x todo kept t f =
      let all : (v : A) → In v (x ∷ (todo ++ kept)) → redundant (todo ++ kept) v
      = λ m i. elim i [ inl e ↦ subst (λ v. redundant (todo ++ kept) v) e f | inr j ↦ laws.own (todo ++ kept) m j ] in
      record {
        covers = λ m i. laws.through (todo ++ kept) (x ∷ (todo ++ kept)) all m (t.covers m i);
        ordered = part_through (part_but kept x todo) t.ordered;
        needed = λ us vs m e g. t.needed us vs m e (redundant_more (todo ++ (us ++ vs)) (x ∷ (todo ++ (us ++ vs))) (λ v i. inr i) m g);
      }

  -- it is not
  pub trimming_keep : (fs : List A) (x : A) (todo kept : List A) → Trimming redundant fs (x ∷ todo) kept → (redundant (todo ++ kept) x → ⊥)
      → Trimming redundant fs todo (kept ++ x ∷ [])
  trimming_keep fs x todo kept t f =
      record {
        covers = λ m i. redundant_more (x ∷ (todo ++ kept)) (todo ++ (kept ++ x ∷ [])) out m (t.covers m i);
        ordered = subst (λ v. Part v fs) (sym (append_assoc kept (x ∷ []) todo)) t.ordered;
        needed = λ us vs m e g.
            elim (snoc_cases kept x us m vs e) [
              | inl a ↦ f (subst (λ v. redundant (todo ++ v) x) (sym a.1) (subst (λ v. redundant (todo ++ (us ++ vs)) v) (sym a.0) g))
              | inr a ↦
                  t.needed us a.0 m a.2
                  (redundant_more (todo ++ (us ++ vs)) (x ∷ (todo ++ (us ++ a.0)))
                  (λ d i.
                  elim (in_either todo (us ++ vs) d i) [
                    | inl b ↦ inr (in_left todo (us ++ a.0) d b)
                    | inr b ↦
                        elim (in_either us vs d b) [
                          | inl b' ↦ inr (in_right todo (us ++ a.0) d (in_left us a.0 d b'))
                          | inr b' ↦
                              elim (in_either a.0 (x ∷ []) d (subst (λ v. In d v) a.1 b')) [
                                | inl b'' ↦ inr (in_right todo (us ++ a.0) d (in_right us a.0 d b''))
                                | inr b'' ↦ elim b'' [ inl q ↦ inl q | inr z ↦ absurd z ]
                              ]
                        ]
                  ]) m g)
            ];
      }
    where
      out : Sub (x ∷ (todo ++ kept)) (todo ++ (kept ++ x ∷ []))
      out d i =
          elim i [
            | inl e ↦ in_right todo (kept ++ x ∷ []) d (in_right kept (x ∷ []) d (inl e))
            | inr j ↦ sub_front todo kept (kept ++ x ∷ []) (λ v k. in_left kept (x ∷ []) v k) d j
          ]

  -- of the items, the first ones are still to be asked about
  pub record Turning (fs items : List A) (left : ℕ) : Type 0 where
    pub todo : List A
    pub kept : List A
    pub is : items ≡ todo ++ kept
    pub long : length todo ≡ left
    pub state : Trimming redundant fs todo kept

  pub turning_start : (fs : List A) → Turning fs fs (length fs)
  turning_start fs = record { todo = fs; kept = []; is = sym (append-nil fs); long = refl; state = trimming_start fs }

  front : (todo kept : List A) (x : A) (rest : List A) (left : ℕ) → length todo ≡ left → 0 < left → x ∷ rest ≡ todo ++ kept
      → (us : List A) × (todo ≡ x ∷ us) × (rest ≡ us ++ kept) × (length us ≡ left - 1)
  front [] kept x rest left l h e = absurd (omega arith)
  front (t ∷ todo) kept x rest left l h e = (todo, (let q : t ≡ x = cc in ap (λ v. v ∷ todo) q), (cc), omega arith)

  pub turning_drop : (fs items : List A) (left : ℕ) (x : A) (rest : List A) → Turning fs items left → 0 < left → items ≡ x ∷ rest → redundant rest x
      → Turning fs rest (left - 1)
  turning_drop fs items left x rest t h e f =
      let r = front t.todo t.kept x rest left t.long h (sym e ∙ t.is) in
      record {
        todo = r.0;
        kept = t.kept;
        is = r.2;
        long = r.3;
        state = trimming_leave fs x r.0 t.kept (subst (λ v. Trimming redundant fs v t.kept) r.1 t.state) (subst (λ v. redundant v x) r.2 f);
      }

  pub turning_keep : (fs items : List A) (left : ℕ) (x : A) (rest after : List A) → Turning fs items left → 0 < left → items ≡ x ∷ rest
      → (redundant rest x → ⊥) → after ≡ rest ++ x ∷ [] → Turning fs after (left - 1)
  turning_keep fs items left x rest after t h e f a =
      let r = front t.todo t.kept x rest left t.long h (sym e ∙ t.is) in
      record {
        todo = r.0;
        kept = t.kept ++ x ∷ [];
        is = a ∙ ap (λ v. v ++ x ∷ []) r.2 ∙ append_assoc r.0 t.kept (x ∷ []);
        long = r.3;
        state = trimming_keep fs x r.0 t.kept (subst (λ v. Trimming redundant fs v t.kept) r.1 t.state) (λ g. f (subst (λ v. redundant v x) (sym r.2) g));
      }

  none_left : (fs todo kept items : List A) → items ≡ todo ++ kept → length todo ≡ 0 → Trimming redundant fs todo kept → Trimmed redundant fs items
  none_left fs [] kept items e l s = subst (λ v. Trimming redundant fs [] v) (sym e) s
  none_left fs (t ∷ todo) kept items e l s = absurd (omega arith)

  pub turning_end : (fs items : List A) (left : ℕ) → Turning fs items left → left ≡ 0 → Trimmed redundant fs items
  turning_end fs items left t h = none_left fs t.todo t.kept items t.is (t.long ∙ h) t.state

  -- while some are left it is not empty
  pub turning_some : (fs items : List A) (left : ℕ) → Turning fs items left → 0 < left → items ≡ [] → ⊥
  turning_some fs items left t h e = omega (arith, t.long, ap length (sym e ∙ t.is), length-append t.todo t.kept)
