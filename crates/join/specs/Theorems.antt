-- What is shown of a table that is laid into the parts of a design and joined again. Each is a statement, a type whose proof is owed.
use Rattle.std.specs.Prelude.{◌≡◌, ℕ, true, false, List, [], ◌∷◌, length, None}
use Rattle.columns.specs.Cols.{columns}
use Rattle.columns.specs.Members.{In}
use Rattle.dependencies.specs.Tables.{Row, Dep, ObeysAll}
use Rattle.schema.specs.Design.{Part, Design}
use Rattle.parts.specs.Day.{present, bare}
use Rattle.register.specs.Deeds.{day_told, day_end, never_full}
use Rattle.join.specs.Joined.{Joined}
use Rattle.join.specs.Laid.{inserts, first_refusal}

-- no row stands in the table twice
abbrev pub NoRowTwice : ℕ → List Row → Type 0
NoRowTwice n [] = Unit {0}
NoRowTwice n (r ∷ t) = (present (columns 0 n) r t ≡ false) × NoRowTwice n t

-- every row has n cells
abbrev pub WholeTable : ℕ → List Row → Type 0
WholeTable n t = (r : Row) → In r t → length r ≡ n

-- in the n columns, two tables have the same rows: none of the first is lost, and none of the second is made up
pub record SameTable (n : ℕ) (t rows : List Row) : Type 0 where
  pub none_lost : (r : Row) → In r t → present (columns 0 n) r rows ≡ true
  pub none_made_up : (q : Row) → In q rows → present (columns 0 n) q t ≡ true
  pub none_twice : NoRowTwice n rows

-- Take any rules, any design for them, and any table that obeys the rules and lists no row twice. Laid into bare parts of which none
-- runs out of room, it is taken whole; and whatever is joined of the parts then has exactly its rows.
unfoldable pub LaidThenJoined : Type 0
LaidThenJoined =
    (n room : ℕ) (ds : List Dep) (ps : List Part) (t rows : List Row) → Design n ds ps → ObeysAll t ds → NoRowTwice n t → WholeTable n t →
    never_full (day_told n room ps (bare ps) (inserts t)) ≡ true →
    (first_refusal 0 (day_told n room ps (bare ps) (inserts t)) ≡ None) × (Joined ps (day_end n room ps (bare ps) (inserts t)) rows → SameTable n t rows)
