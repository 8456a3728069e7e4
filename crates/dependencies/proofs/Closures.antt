-- The closure of a set of columns is the least set that holds it and that the rules do not lead out of. Assumes nothing.
use Rattle.std.proofs.Common.{◌≡◌, ℕ, zero, suc, Bool, true, false, List, [], ◌∷◌, ◌++◌, length, sym, refl, subst, inl, inr}
use Rattle.std.proofs.lemmas.Bool.{true≢false}
use Rattle.columns.specs.Cols.{Cols, all_in, pick}
use Rattle.dependencies.specs.Tables.{Dep}
use Rattle.dependencies.specs.Closure.{round, rounds, closure}
use Rattle.columns.specs.Members.{In, Sub}
use Rattle.columns.proofs.Members.{pick_both, in_left, in_right, in_either}
use Rattle.columns.proofs.Columns.{all_in_sub, sub_all_in}

-- the rules do not lead out of E
abbrev pub Closed : List Dep → (ℕ → Type 0) → Type 0
Closed ds E = (d : Dep) → In d ds → ((c : ℕ) → In c d.left → E c) → (c : ℕ) → In c d.right → E c

abbrev pub Within : Cols → (ℕ → Type 0) → Type 0
Within cs E = (c : ℕ) → In c cs → E c

-- what a closed E holds of at first it holds of after a round, and after all
pub round_sound : (ds : List Dep) (E : ℕ → Type 0) → Closed ds E → (cs : Cols) → Within cs E → Within (round ds cs) E
unfolding round
round_sound [] E k cs f = f
round_sound (d ∷ ds) E k cs f =
    round_sound ds E (λ x i. k x (inr i)) _
    (pick_both (all_in d.left cs) (cs ++ d.right) cs (λ v. Within v E)
    (λ e c i. elim (in_either cs d.right c i) [ inl a ↦ f c a | inr b ↦ k d (inl refl) (λ x h. f x (all_in_sub d.left cs e x h)) c b ])
    (λ e. f))

rounds_sound : (k : ℕ) (ds : List Dep) (E : ℕ → Type 0) → Closed ds E → (cs : Cols) → Within cs E → Within (rounds k ds cs) E
unfolding rounds
rounds_sound zero ds E k cs f = f
rounds_sound (suc n) ds E k cs f = rounds_sound n ds E k (round ds cs) (round_sound ds E k cs f)

pub closure_sound : (ds : List Dep) (E : ℕ → Type 0) → Closed ds E → (cs : Cols) → Within cs E → Within (closure ds cs) E
unfolding closure
closure_sound ds E k cs f = rounds_sound (length ds) ds E k cs f

-- a round keeps what there is, and adds what a rule with its left there fixes
step_grows : (b : Bool) (cs rs : Cols) → Sub cs (pick b (cs ++ rs) cs)
step_grows true cs rs x i = in_left cs rs x i
step_grows false cs rs x i = i

pub round_grows : (ds : List Dep) (cs : Cols) → Sub cs (round ds cs)
unfolding round
round_grows [] cs x i = i
round_grows (d ∷ ds) cs x i = round_grows ds _ x (step_grows (all_in d.left cs) cs d.right x i)

step_fires : (b : Bool) (cs ls rs : Cols) → all_in ls cs ≡ b → Sub ls cs → Sub rs (pick b (cs ++ rs) cs)
step_fires true cs ls rs e f x i = in_right cs rs x i
step_fires false cs ls rs e f x i = absurd (true≢false (subst (λ b. b ≡ false) (sub_all_in ls cs f) e))

pub round_fires : (ds : List Dep) (cs : Cols) (d : Dep) → In d ds → Sub d.left cs → Sub d.right (round ds cs)
unfolding round
round_fires [] cs d h f = absurd h
round_fires (e ∷ ds) cs d h f =
    elim h [
      | inl q ↦
          λ x i.
          round_grows ds _ x
          (step_fires (all_in e.left cs) cs e.left e.right refl (subst (λ v. Sub v.left cs) (sym q) f) x (subst (λ v. In x v.right) (sym q) i))
      | inr k ↦ round_fires ds _ d k (λ x i. step_grows (all_in e.left cs) cs e.right x (f x i))
    ]

rounds_grows : (k : ℕ) (ds : List Dep) (cs : Cols) → Sub cs (rounds k ds cs)
unfolding rounds
rounds_grows zero ds cs x i = i
rounds_grows (suc k) ds cs x i = rounds_grows k ds (round ds cs) x (round_grows ds cs x i)

pub closure_grows : (ds : List Dep) (cs : Cols) → Sub cs (closure ds cs)
unfolding closure
closure_grows ds cs = rounds_grows (length ds) ds cs
