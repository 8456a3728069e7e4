-- The columns of all rules with one left side, rule by rule.
use Rattle.std.proofs.Common.{◌≡◌, ℕ, List, [], ◌∷◌, ◌++◌, sym, refl, ap, ◌∙◌, subst, inl, inr}
use Rattle.std.proofs.lemmas.Bool.{or_cases, or_left, or_right}
use Rattle.columns.specs.Cols.{Cols, has, set_in}
use Rattle.dependencies.specs.Tables.{Dep}
use Rattle.columns.specs.Members.{In, Sub}
use Rattle.columns.proofs.Members.{in_left, in_right, in_either}
use Rattle.columns.proofs.Columns.{has_in, in_has}
use Rattle.columns.specs.Sets.{cols}
use Rattle.columns.specs.declared.set.ColumnSet.{ColumnSet}
use Rattle.columns.proofs.SetNumbers.{cols_bits}
use Rattle.schema.specs.Gathers.{Gathered, Joined}

pub same_set : (s t : ColumnSet) → s.bits ≡ t.bits → cols s ≡ cols t
same_set s t e = cols_bits s ∙ ap (λ (m : ℕ). set_in 0 16 m) e ∙ sym (cols_bits t)

pub gathered_start : (l : Cols) → Gathered [] l l
gathered_start l = record { left_in = λ c i. i; right_in = λ m i. absurd i; no_more = λ c i. inl i }

pub gathered_turn : (es : List Dep) (l s : Cols) (m : Dep) (t : Cols) → Gathered es l s → Joined m l s t → Gathered (es ++ m ∷ []) l t
gathered_turn es l s m t g j =
    elim j [
      | inl a ↦
          let up : Sub s t = λ c i. has_in t c (a.1 c ∙ or_left (has s c) (has m.right c) (in_has s c i)) in
          record {
            left_in = λ c i. up c (g.left_in c i);
            right_in = λ d i e c k.
                elim (in_either es (m ∷ []) d i) [
                  | inl y ↦ up c (g.right_in d y e c k)
                  | inr y ↦
                      elim y [
                        | inl q ↦ has_in t c (a.1 c ∙ or_right (has s c) (has m.right c) (in_has m.right c (subst (λ v. In c v.right) (sym q) k)))
                        | inr z ↦ absurd z
                      ]
                ];
            no_more = λ c i.
                elim (or_cases (has s c) (has m.right c) (sym (a.1 c) ∙ in_has t c i)) [
                  | inl y ↦ elim (g.no_more c (has_in s c y)) [ inl z ↦ inl z | inr w ↦ inr (w.0, in_left es (m ∷ []) w.0 w.1, w.2, w.3) ]
                  | inr y ↦ inr (m, in_right es (m ∷ []) m (inl refl), a.0, has_in m.right c y)
                ];
          }
      | inr a ↦
          let up : Sub s t = λ c i. has_in t c (a.1 c ∙ in_has s c i) in
          record {
            left_in = λ c i. up c (g.left_in c i);
            right_in = λ d i e c k.
                elim (in_either es (m ∷ []) d i) [
                  | inl y ↦ up c (g.right_in d y e c k)
                  | inr y ↦ elim y [ inl q ↦ absurd (a.0 (ap (λ v. v.left) q ∙ e)) | inr z ↦ absurd z ]
                ];
            no_more = λ c i.
                elim (g.no_more c (has_in s c (sym (a.1 c) ∙ in_has t c i)))
                [ inl z ↦ inl z | inr w ↦ inr (w.0, in_left es (m ∷ []) w.0 w.1, w.2, w.3) ];
          }
    ]
