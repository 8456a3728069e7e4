-- All parts beside one table: what they hold, what they allow, and how both go on.
use Rattle.std.proofs.Common.{◌≡◌, ℕ, ◌<◌, true, ◌&&◌, List, [], ◌∷◌, ◌++◌, length, get_or, sym, refl, ap, ◌∙◌, subst, ap₂, inl, inr}
use mathlib.Core.Bool.{and_assoc}
use Rattle.std.proofs.lemmas.Bool.{and_parts, and_from}
use Rattle.dependencies.specs.Tables.{Row, Dep, ObeysAll, no_dep}
use Rattle.columns.specs.Cols.{Cols, all_in, columns}
use Rattle.schema.specs.Design.{Part, no_part, all_rules, Design, LosesNothing}
use Rattle.parts.specs.Day.{Held, holds, looks_of, present, without, rule_with, rules_with, all_hold, all_allow, all_more, all_less, bare}
use Rattle.columns.specs.Members.{In}
use Rattle.columns.proofs.Members.{in_at, at_in}
use Rattle.columns.proofs.Lists.{same_test}
use Rattle.register.proofs.Counts.{present_in, in_present, present_inside}
use Rattle.register.proofs.Keeping.{Kept, kept_none, kept_holds, kept_looks, kept_more, kept_less}
use Rattle.register.proofs.Obeying.{rules_with_at, rules_with_from, rule_with_like, obeys_come, obeys_rules_with}

-- each part holds what it should
abbrev pub AllKept : List Row → List Part → List (List Held) → Type 0
AllKept t [] [] = Unit {0}
AllKept t [] (h ∷ hs) = ⊥
AllKept t (p ∷ ps) [] = ⊥
AllKept t (p ∷ ps) (h ∷ hs) = Kept p.cols t h × AllKept t ps hs

-- each part lies in these columns, and its rules in it
abbrev pub ProperPart : Cols → Part → Type 0
ProperPart cs p = (all_in p.cols cs ≡ true) × ((d : Dep) → In d p.rules → (all_in d.left p.cols ≡ true) × (all_in d.right p.cols ≡ true))

abbrev pub AllProper : Cols → List Part → Type 0
AllProper cs ps = (p : Part) → In p ps → ProperPart cs p

pub bare_kept : (ps : List Part) → AllKept [] ps (bare ps)
unfolding bare
bare_kept [] = tt
bare_kept (p ∷ ps) = (kept_none p.cols, bare_kept ps)

pub more_kept : (t : List Row) (r : Row) (ps : List Part) (hs : List (List Held)) → AllKept t ps hs → AllKept (t ++ r ∷ []) ps (all_more ps hs r)
unfolding all_more
more_kept t r [] [] k = tt
more_kept t r [] (h ∷ hs) k = absurd k
more_kept t r (p ∷ ps) [] k = k
more_kept t r (p ∷ ps) (h ∷ hs) k = (kept_more p.cols r t h k.0, more_kept t r ps hs k.1)

pub less_kept : (cs : Cols) (t : List Row) (r : Row) (ps : List Part) (hs : List (List Held)) → AllProper cs ps → present cs r t ≡ true
    → AllKept t ps hs → AllKept (without cs r t) ps (all_less ps hs r)
unfolding all_less
less_kept cs t r [] [] o h k = tt
less_kept cs t r [] (g ∷ hs) o h k = absurd k
less_kept cs t r (p ∷ ps) [] o h k = k
less_kept cs t r (p ∷ ps) (g ∷ hs) o h k =
    (kept_less p.cols cs r t g (o p (inl refl)).0 h k.0, less_kept cs t r ps hs (λ q m. o q (inr m)) h k.1)

all_hold_at : (t : List Row) (r : Row) (ps : List Part) (hs : List (List Held)) → AllKept t ps hs → all_hold ps hs r ≡ true → (p : Part) → In p ps
    → present p.cols r t ≡ true
unfolding all_hold
all_hold_at t r [] hs k h p m = absurd m
all_hold_at t r (q ∷ ps) [] k h p m = absurd k
all_hold_at t r (q ∷ ps) (g ∷ hs) k h p m =
    let b = and_parts (holds q.cols r g) (all_hold ps hs r) h in
    elim m [
      | inl e ↦ subst (λ x. present x.cols r t ≡ true) e (sym (kept_holds q.cols r t g k.0) ∙ b.0)
      | inr i ↦ all_hold_at t r ps hs k.1 b.1 p i
    ]

pub all_hold_from : (t : List Row) (r : Row) (ps : List Part) (hs : List (List Held)) → AllKept t ps hs
    → ((p : Part) → In p ps → present p.cols r t ≡ true) → all_hold ps hs r ≡ true
unfolding all_hold
all_hold_from t r [] hs k f = refl
all_hold_from t r (p ∷ ps) [] k f = absurd k
all_hold_from t r (p ∷ ps) (g ∷ hs) k f =
    and_from _ _ (kept_holds p.cols r t g k.0 ∙ f p (inl refl)) (all_hold_from t r ps hs k.1 (λ q m. f q (inr m)))

rules_with_++ : (ds es : List Dep) (r : Row) (t : List Row) → rules_with (ds ++ es) r t ≡ (rules_with ds r t && rules_with es r t)
unfolding rules_with
rules_with_++ [] es r t = refl
rules_with_++ (d ∷ ds) es r t =
    ap (λ x. rule_with d r t && x) (rules_with_++ ds es r t) ∙ sym (and_assoc (rule_with d r t) (rules_with ds r t) (rules_with es r t))

-- a part's own rules ask the same of its looks as of the table
part_allows : (cs : Cols) (p : Part) (t : List Row) (r : Row) (h : List Held) → ProperPart cs p → Kept p.cols t h
    → rules_with p.rules r (looks_of h) ≡ rules_with p.rules r t
part_allows cs p t r h o k = same_test _ _
    (λ w. rules_with_from p.rules r t λ d m.
    rule_with_like d p.cols r (looks_of h) t (o.1 d m).0 (o.1 d m).1 (λ q e. kept_looks p.cols q t h k ∙ e) (rules_with_at d p.rules r (looks_of h) w m))
    (λ w. rules_with_from p.rules r (looks_of h) λ d m.
    rule_with_like d p.cols r t (looks_of h) (o.1 d m).0 (o.1 d m).1 (λ q e. sym (kept_looks p.cols q t h k) ∙ e) (rules_with_at d p.rules r t w m))

pub all_allow_rules : (cs : Cols) (t : List Row) (r : Row) (ps : List Part) (hs : List (List Held)) → AllProper cs ps → AllKept t ps hs
    → all_allow ps hs r ≡ rules_with (all_rules ps) r t
unfolding all_allow all_rules rules_with
all_allow_rules cs t r [] hs o k = refl
all_allow_rules cs t r (p ∷ ps) [] o k = absurd k
all_allow_rules cs t r (p ∷ ps) (h ∷ hs) o k =
    ap₂ (λ x y. x && y) (part_allows cs p t r h (o p (inl refl)) k.0) (all_allow_rules cs t r ps hs (λ q m. o q (inr m)) k.1)
    ∙ sym (rules_with_++ p.rules (all_rules ps) r t)

module _ (n : ℕ) (ds : List Dep) (ps : List Part) (design : Design n ds ps) where
  pub proper : AllProper (columns 0 n) ps
  proper p m =
      let x = at_in ps p no_part m in
      let P : Part → Type 0 = λ q. all_in q.cols (columns 0 n) ≡ true in
      let Q : Part → Type 0 = λ q. (j : ℕ) → j < length q.rules → (all_in (get_or q.rules j no_dep).left q.cols ≡ true) × (all_in (get_or q.rules j no_dep).right q.cols ≡ true) in
      let within : P p = subst P x.2 (design.within x.0 x.1) in
      let own : Q p = subst Q x.2 (λ j h. design.keeps_rules.own x.0 j x.1 h) in (
        within,
        λ d k. let y = at_in p.rules d no_dep k in
            let R : Dep → Type 0 = λ e. (all_in e.left p.cols ≡ true) × (all_in e.right p.cols ≡ true) in subst R y.2 (own y.0 y.1),
      )

  -- a row is in the table exactly if every part holds its look
  pub hold_present : (t : List Row) (hs : List (List Held)) (r : Row) → ObeysAll t ds → AllKept t ps hs → all_hold ps hs r ≡ present (columns 0 n) r t
  unfolding LosesNothing
  hold_present t hs r o k = same_test _ _
      (λ h. let z = design.loses_nothing t r o (λ i hi.
      let x = present_in (get_or ps i no_part).cols r t (all_hold_at t r ps hs k h (get_or ps i no_part) (in_at ps i no_part hi)) in
      let y = at_in t x.0 [] x.1 in (y.0, y.1, rw y.2 x.2)) design.some in
      in_present (columns 0 n) r (get_or t z.0 []) t (in_at t z.0 [] z.1) z.2)
      (λ h. all_hold_from t r ps hs k (λ p m. present_inside p.cols (columns 0 n) r t (proper p m).0 h))

  -- the parts allow a row exactly if the one table does
  pub allow_rules : (t : List Row) (hs : List (List Held)) (r : Row) → ObeysAll t ds → AllKept t ps hs → all_allow ps hs r ≡ rules_with ds r t
  allow_rules t hs r o k = all_allow_rules (columns 0 n) t r ps hs proper k ∙ same_test _ _
      (λ w. obeys_rules_with t r ds (design.keeps_rules.enough (t ++ r ∷ []) (obeys_come t r (all_rules ps) (design.keeps_rules.no_more t o) w)))
      (λ w. obeys_rules_with t r (all_rules ps) (design.keeps_rules.no_more (t ++ r ∷ []) (obeys_come t r ds o w)))
