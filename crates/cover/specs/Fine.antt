-- Rules with one right column and no left column too many, and lists of them on the way to a least set.
use Rattle.std.specs.Prelude.{◌≡◌, ℕ, true, List, [], ◌∷◌, ◌++◌}
use Rattle.columns.specs.Cols.{Cols, has, all_in, Rising}
use Rattle.columns.specs.Members.{In, Sub}
use Rattle.dependencies.specs.Tables.{Dep, Implied, fixing}
use Rattle.dependencies.specs.Closure.{closure}
use Rattle.cover.specs.Ordered.{Narrowed, singles, singles_of}

-- of the columns l, some that fix the column b, and no part of which does
pub record Reduced (ds : List Dep) (l : Cols) (b : ℕ) (r : Cols) : Type 0 where
  pub inside : all_in r l ≡ true
  pub fixes : has (closure ds r) b ≡ true
  pub least : (j : Cols) → all_in j r ≡ true → has (closure ds j) b ≡ true → all_in r j ≡ true

-- a rule made of one of the rules ds: it has one of its right columns, and just as many of its left ones as that needs
pub record Fine (ds : List Dep) (m : Dep) : Type 0 where
  pub origin : Dep
  pub given : In origin ds
  pub column : ℕ
  pub of_right : In column origin.right
  pub right_is : m.right ≡ column ∷ []
  pub rises : Rising m.left
  pub reduced : Reduced ds origin.left column m.left

abbrev pub Fines : List Dep → List Dep → Type 0
Fines ds fs = (m : Dep) → In m fs → Fine ds m

-- all that follows from fs follows from gs
abbrev pub More : List Dep → List Dep → Type 0
More fs gs = (e : Dep) → Implied fs e → Implied gs e

-- if d is one of the rules ds: gs is fs with a fine rule for each right column of d but those still to do
pub record Splitting (ds : List Dep) (d : Dep) (todo : Cols) (fs gs : List Dep) : Type 0 where
  pub inside : Sub todo d.right
  pub fine : In d ds → Fines ds fs → Fines ds gs
  pub more : More fs gs
  pub got : In d ds → (c : ℕ) → In c d.right → (In c todo → ⊥) → Implied gs (fixing d.left c)
  pub ordered : In d ds → (xs : List Dep) → Narrowed xs fs → (ys : List Dep) × Narrowed ys gs × (ys ++ singles_of d todo ≡ xs ++ singles_of d d.right)

abbrev pub Splits : (ds : List Dep) (d : Dep) (fs gs : List Dep) → Type 0
Splits ds d fs gs = Splitting ds d [] fs gs

-- gs are fine rules of ds that say what the rules es say, in their order
pub record AllSplit (ds es gs : List Dep) : Type 0 where
  pub fine : Fines ds gs
  pub got : (d : Dep) → In d es → Implied gs d
  pub ordered : Narrowed (singles es) gs
