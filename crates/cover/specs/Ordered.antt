-- Lists that keep the order of others.
use Rattle.std.specs.Prelude.{◌≡◌, true, List, [], ◌∷◌, ◌++◌}
use Rattle.columns.specs.Cols.{Cols, all_in}
use Rattle.dependencies.specs.Tables.{Dep, fixing}

-- some members of a list, in its order
pub data Part {A : Type 0} : List A → List A → Type 0 where
  no_more : Part [] []
  left_out : {x : A} {xs ys : List A} → Part xs ys → Part xs (x ∷ ys)
  taken : {x : A} {xs ys : List A} → Part xs ys → Part (x ∷ xs) (x ∷ ys)

-- a rule for each of some right columns of d
abbrev pub singles_of : Dep → Cols → List Dep
singles_of d [] = []
singles_of d (c ∷ cs) = fixing d.left c ∷ singles_of d cs

-- the rules in order, each as one rule for each of its right columns in order
abbrev pub singles : List Dep → List Dep
singles [] = []
singles (d ∷ ds) = singles_of d d.right ++ singles ds

-- ms are some of the rules xs in their order, each with its right side, and with a left side that lies in its own
pub data Narrowed : List Dep → List Dep → Type 0 where
  no_rule : Narrowed [] []
  dropped : {x : Dep} {xs ms : List Dep} → Narrowed xs ms → Narrowed (x ∷ xs) ms
  narrowed : {x m : Dep} {xs ms : List Dep} → m.right ≡ x.right → all_in m.left x.left ≡ true → Narrowed xs ms → Narrowed (x ∷ xs) (m ∷ ms)
