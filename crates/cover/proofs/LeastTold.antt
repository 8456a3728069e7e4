-- Rules that pass the test are a least set. Assumes nothing.
use Rattle.std.proofs.Common.{◌≡◌, Bool, true, not, ◌&&◌, eqb, List, [], ◌∷◌, ◌++◌, length, get_or, sym, ◌∙◌, subst, append_assoc, append-nil}
use Rattle.std.proofs.lemmas.Bool.{true≢false, eqb-true, and_parts, not-true}
use Rattle.dependencies.specs.Tables.{Dep, no_dep, Implied}
use Rattle.dependencies.specs.Closure.{closure, does_fix, do_follow}
use Rattle.cover.specs.Least.{Least, needs_each_rule, needs_each_column, is_least}
use Rattle.columns.specs.Every.{every, every_split}
use Rattle.columns.proofs.Members.{in_at}
use Rattle.columns.proofs.Columns.{sub_all_in}
use Rattle.dependencies.proofs.Exact.{implied_closure}
use Rattle.dependencies.proofs.Consequence.{follows_through}
use Rattle.columns.proofs.Everyone.{every_at}
use Rattle.dependencies.proofs.Fixing.{follow_to}

split_at : {A : Type 0} (pre xs : List A) (f : List A → A → List A → Bool) → every_split pre xs f ≡ true → (us vs : List A) (x : A) → xs ≡ us ++ x ∷ vs
    → f (pre ++ us) x vs ≡ true
split_at pre [] f h [] vs x e = cc
split_at pre [] f h (u ∷ us) vs x e = cc
split_at pre (y ∷ ys) f h [] vs x e =
    let w = and_parts (f pre y ys) (every_split (pre ++ y ∷ []) ys f) h in
    let head : y ≡ x = cc in
    let rest : ys ≡ vs = cc in
    subst (λ v. f v x vs ≡ true) (sym (append-nil pre)) (subst (λ v. f pre v vs ≡ true) head (subst (λ v. f pre y v ≡ true) rest w.0))
split_at pre (y ∷ ys) f h (u ∷ us) vs x e =
    let w = and_parts (f pre y ys) (every_split (pre ++ y ∷ []) ys f) h in
    let head : y ≡ u = cc in
    let rest : ys ≡ us ++ x ∷ vs = cc in
    subst (λ v. f (pre ++ v ∷ us) x vs ≡ true) head
    (subst (λ v. f v x vs ≡ true) (append_assoc pre (y ∷ []) us) (split_at (pre ++ y ∷ []) ys f w.1 us vs x rest))

not_follows : (ds : List Dep) (d : Dep) → not (does_fix ds d.left d.right) ≡ true → Implied ds d → ⊥
not_follows ds d h f =
    true≢false (sym (sub_all_in d.right (closure ds d.left) (implied_closure ds d f)) ∙ not-true (does_fix ds d.left d.right) h)

pub least_told : (ds ms : List Dep) → is_least ds ms ≡ true → Least ds ms
least_told ds ms h =
    let a = and_parts (do_follow ds ms && do_follow ms ds) (every ms (λ m. eqb (length m.right) 1) && (needs_each_rule ms && needs_each_column ms)) h in
    let b = and_parts (do_follow ds ms) (do_follow ms ds) a.0 in
    let c = and_parts (every ms (λ m. eqb (length m.right) 1)) (needs_each_rule ms && needs_each_column ms) a.1 in
    let d = and_parts (needs_each_rule ms) (needs_each_column ms) c.1 in
    record {
      same = λ x. (follows_through ms ds (follow_to ms ds b.1) x, follows_through ds ms (follow_to ds ms b.0) x);
      single = λ i l. eqb-true _ 1 (every_at ms (λ m. eqb (length m.right) 1) c.0 (get_or ms i no_dep) (in_at ms i no_dep l));
      no_rule = λ i xs ys e q l f.
          not_follows (xs ++ ys) (get_or ms i no_dep)
          (split_at [] ms (λ us m vs. not (does_fix (us ++ vs) m.left m.right)) d.0 xs ys (get_or ms i no_dep) e) f;
      no_column = λ i xs ys x l e f.
          let m = get_or ms i no_dep in
          not_follows ms (record { left = xs ++ ys; right = m.right })
          (split_at [] m.left (λ us z vs. not (does_fix ms (us ++ vs) m.right))
          (every_at ms (λ n. every_split [] n.left (λ us z vs. not (does_fix ms (us ++ vs) n.right))) d.1 m (in_at ms i no_dep l)) xs ys x e)
          f;
    }
