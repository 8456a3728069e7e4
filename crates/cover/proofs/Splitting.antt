-- Rules split by their right columns: what is written says the same, and each is fine.
use Rattle.std.proofs.Common.{◌≡◌, ℕ, true, List, [], ◌∷◌, ◌++◌, sym, refl, ap, ◌∙◌, subst, inl, inr, append_assoc}
use Rattle.std.proofs.lemmas.List.{append-nil}
use Rattle.std.proofs.lemmas.Bool.{cases_eq}
use Rattle.columns.specs.Cols.{Cols, has, Rising}
use Rattle.columns.specs.Members.{In}
use Rattle.columns.proofs.Members.{in_left, in_right, in_either}
use Rattle.columns.proofs.Columns.{in_has, all_in_sub}
use Rattle.dependencies.specs.Tables.{Dep, Implied, fixing}
use Rattle.dependencies.specs.Closure.{closure}
use Rattle.dependencies.proofs.Closures.{closure_grows}
use Rattle.dependencies.proofs.Fired.{closure_closed}
use Rattle.dependencies.proofs.Exact.{closure_implied, implied_closure}
use Rattle.dependencies.proofs.Consequence.{member_follows, follows_more}
use Rattle.cover.specs.Ordered.{Narrowed, no_rule, singles, singles_of}
use Rattle.cover.proofs.Orders.{narrowed_push, singles_push}
use Rattle.cover.specs.Fine.{Reduced, Fine, Splitting, Splits, AllSplit}

-- the left columns fix each right one
pub right_fixed : (ds : List Dep) (d : Dep) (b : ℕ) → In d ds → In b d.right → has (closure ds d.left) b ≡ true
right_fixed ds d b i h = in_has (closure ds d.left) b (implied_closure ds d (member_follows ds d i) b h)

module _ (ds : List Dep) (d : Dep) (b : ℕ) (before todo : Cols) (fs gs : List Dep) (l : Cols) (e : before ≡ b ∷ todo) (s : Splitting ds d before fs gs)
    (r : Rising l) (red : has (closure ds d.left) b ≡ true → Reduced ds d.left b l) where
  abbrev new : Dep
  new = fixing l b

  abbrev hs : List Dep
  hs = gs ++ new ∷ []

  of_right : In b d.right
  of_right = s.inside b (subst (λ v. In b v) (sym e) (inl refl))

  more_here : (x : Dep) → Implied gs x → Implied hs x
  more_here x i = follows_more gs hs (in_left gs (new ∷ [])) x i

  got_here : In d ds → Implied hs (fixing d.left b)
  got_here i =
      closure_implied hs (fixing d.left b) (λ c k.
      closure_closed hs d.left new (in_right gs (new ∷ []) new (inl refl))
      (λ x m. closure_grows hs d.left x (all_in_sub l d.left (red (right_fixed ds d b i of_right)).inside x m)) c k)

  ordered_here : In d ds → (xs : List Dep) → Narrowed xs fs → (ys : List Dep) × Narrowed ys hs × (ys ++ singles_of d todo ≡ xs ++ singles_of d d.right)
  ordered_here i xs n =
      let o = s.ordered i xs n in (
        o.0 ++ fixing d.left b ∷ [],
        narrowed_push (fixing d.left b) new o.1 refl (red (right_fixed ds d b i of_right)).inside,
        append_assoc o.0 (fixing d.left b ∷ []) (singles_of d todo) ∙ ap (λ v. o.0 ++ singles_of d v) (sym e) ∙ o.2,
      )

  -- one right column more has its rule
  pub splitting_turn : Splitting ds d todo fs hs
  splitting_turn =
      record {
        inside = λ c i. s.inside c (subst (λ v. In c v) (sym e) (inr i));
        fine = λ i f m k.
            elim (in_either gs (new ∷ []) m k) [
              | inl a ↦ s.fine i f m a
              | inr z ↦
                  elim z [
                    | inl q ↦
                        subst (λ v. Fine ds v) q
                        (record { origin = d; given = i; column = b; of_right = of_right; right_is = refl; rises = r; reduced = red (right_fixed ds d b i of_right) })
                    | inr y ↦ absurd y
                  ]
            ];
        more = λ x i. more_here x (s.more x i);
        got = λ i c h out.
            elim (cases_eq c b) [
              | inl q ↦ subst (λ v. Implied hs (fixing d.left v)) (sym q) (got_here i)
              | inr ne ↦ more_here (fixing d.left c) (s.got i c h (λ k. elim (subst (λ v. In c v) e k) [ inl q ↦ ne (sym q) | inr j ↦ out j ]))
            ];
        ordered = ordered_here;
      }

pub all_start : (ds : List Dep) → AllSplit ds [] []
all_start ds = record { fine = λ m i. absurd i; got = λ d i. absurd i; ordered = no_rule }

pub all_turn : (ds es gs : List Dep) (d : Dep) (hs : List Dep) → In d ds → AllSplit ds es gs → Splits ds d gs hs → AllSplit ds (es ++ d ∷ []) hs
all_turn ds es gs d hs given a s =
    record {
      fine = s.fine given a.fine;
      got = λ e i.
          elim (in_either es (d ∷ []) e i) [
            | inl j ↦ s.more e (a.got e j)
            | inr j ↦
                elim j [
                  | inl q ↦
                      subst (λ v. Implied hs v) q
                      (closure_implied hs d (λ c k. implied_closure hs (fixing d.left c) (s.got given c k (λ z. z)) c (inl refl)))
                  | inr z ↦ absurd z
                ]
          ];
      ordered =
          let o = s.ordered given (singles es) a.ordered in
          subst (λ v. Narrowed v hs) (sym (append-nil o.0) ∙ o.2 ∙ sym (singles_push es d)) o.1;
    }
