-- What it is that a test decides a statement.
use Rattle.std.specs.Prelude.{Bool, true, false}

-- yes where it holds, and no where it does not
abbrev pub Decides : Type 0 → Bool → Type 0
Decides P true = P
Decides P false = P → ⊥
