-- Lists that keep the order of others: laws of it.
use Rattle.std.proofs.Common.{◌≡◌, ◌≤◌, true, List, [], ◌∷◌, ◌++◌, length, sym, ap, ◌∙◌, inl, inr, append_assoc, arith}
use Rattle.std.proofs.lemmas.List.{append-nil}
use Rattle.columns.specs.Cols.{all_in}
use Rattle.columns.specs.Members.{Sub}
use Rattle.dependencies.specs.Tables.{Dep}
use Rattle.dependencies.specs.Rules.{deps}
use Rattle.dependencies.specs.declared.rules.Rule.{Rule}
use Rattle.cover.specs.Ordered.{Part, no_more, left_out, taken, singles_of, singles, Narrowed, no_rule, dropped, narrowed}

pub part_all : {A : Type 0} (xs : List A) → Part xs xs
part_all [] = no_more
part_all (x ∷ xs) = taken (part_all xs)

pub part_through : {A : Type 0} {xs ys zs : List A} → Part xs ys → Part ys zs → Part xs zs
part_through p no_more = p
part_through p (left_out q) = left_out (part_through p q)
part_through (left_out p) (taken q) = left_out (part_through p q)
part_through (taken p) (taken q) = taken (part_through p q)

pub part_but : {A : Type 0} (us : List A) (x : A) (vs : List A) → Part (us ++ vs) (us ++ x ∷ vs)
part_but [] x vs = left_out (part_all vs)
part_but (u ∷ us) x vs = taken (part_but us x vs)

pub part_sub : {A : Type 0} {xs ys : List A} → Part xs ys → Sub xs ys
part_sub no_more x i = i
part_sub (left_out p) x i = inr (part_sub p x i)
part_sub (taken p) x i = elim i [ inl e ↦ inl e | inr j ↦ inr (part_sub p x j) ]

pub part_short : {A : Type 0} {xs ys : List A} → Part xs ys → length xs ≤ length ys
part_short no_more = omega arith
part_short (left_out p) = omega (arith, part_short p)
part_short (taken p) = omega (arith, part_short p)

-- one more at the end of both
pub narrowed_push : {xs ms : List Dep} (x m : Dep) → Narrowed xs ms → m.right ≡ x.right → all_in m.left x.left ≡ true → Narrowed (xs ++ x ∷ []) (ms ++ m ∷ [])
narrowed_push x m no_rule e h = narrowed e h no_rule
narrowed_push x m (dropped n) e h = dropped (narrowed_push x m n e h)
narrowed_push x m (narrowed f g n) e h = narrowed f g (narrowed_push x m n e h)

pub narrowed_part : {xs ms ks : List Dep} → Narrowed xs ms → Part ks ms → Narrowed xs ks
narrowed_part no_rule no_more = no_rule
narrowed_part (dropped n) p = dropped (narrowed_part n p)
narrowed_part (narrowed e h n) (left_out p) = dropped (narrowed_part n p)
narrowed_part (narrowed e h n) (taken p) = narrowed e h (narrowed_part n p)

pub part_deps : {ks rs : List Rule} → Part ks rs → Part (deps ks) (deps rs)
unfolding deps
part_deps no_more = no_more
part_deps (left_out p) = left_out (part_deps p)
part_deps (taken p) = taken (part_deps p)

pub singles_push : (es : List Dep) (d : Dep) → singles (es ++ d ∷ []) ≡ singles es ++ singles_of d d.right
singles_push [] d = append-nil (singles_of d d.right)
singles_push (e ∷ es) d = ap (λ v. singles_of e e.right ++ v) (singles_push es d) ∙ sym (append_assoc (singles_of e e.right) (singles es) (singles_of d d.right))
