-- Lists from which, one after the other, what is redundant beside the others was left out.
use Rattle.std.specs.Prelude.{◌≡◌, Bool, true, false, List, [], ◌∷◌, ◌++◌}
use Rattle.columns.specs.Members.{In}
use Rattle.cover.specs.Ordered.{Part}

-- What "x is redundant beside xs" has to meet: so is what is one of xs, and what is redundant beside things that are so themselves.
pub record RedundancyLaws {A : Type 0} (redundant : List A → A → Type 0) : Type 0 where
  pub own : (xs : List A) (x : A) → In x xs → redundant xs x
  pub through : (us vs : List A) → ((v : A) → In v vs → redundant us v) → (x : A) → redundant vs x → redundant us x

-- Of fs, the members of kept and of todo are left, in their order: beside them all of fs is redundant, and beside the others none of kept is.
pub record Trimming {A : Type 0} (redundant : List A → A → Type 0) (fs todo kept : List A) : Type 0 where
  pub covers : (m : A) → In m fs → redundant (todo ++ kept) m
  pub ordered : Part (kept ++ todo) fs
  pub needed : (us vs : List A) (m : A) → kept ≡ us ++ m ∷ vs → redundant (todo ++ (us ++ vs)) m → ⊥

-- Of fs, kept is left, and nothing more can be left out.
abbrev pub Trimmed : {A : Type 0} (redundant : List A → A → Type 0) (fs kept : List A) → Type 0
Trimmed redundant fs kept = Trimming redundant fs [] kept

-- the answer says whether P
abbrev pub Decides : Type 0 → Bool → Type 0
Decides P true = P
Decides P false = P → ⊥
