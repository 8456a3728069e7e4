-- A day of whole rows that come and go: on the one table with all rules, and on the parts with their own.
use Rattle.std.specs.Prelude.{ℕ, suc, ◌+◌, ◌-◌, Bool, true, false, not, ◌&&◌, List, [], ◌∷◌, ◌++◌, ◌==◌}
use Rattle.dependencies.specs.Tables.{Row, Dep, agree}
use Rattle.columns.specs.Cols.{Cols, has, columns, pick}
use Rattle.schema.specs.Design.{Part}

pub data Deed : Type 0 where
  insert : Row → Deed
  remove : Row → Deed

unfoldable pub present : Cols → Row → List Row → Bool
present cs r [] = false
present cs r (s ∷ ss) = pick (agree cs r s) true (present cs r ss)

-- a rule holds between a row and each row of a table
unfoldable pub rule_with : Dep → Row → List Row → Bool
rule_with d r [] = true
rule_with d r (s ∷ ss) = pick (agree d.left r s) (agree d.right r s) true && rule_with d r ss

unfoldable pub rules_with : List Dep → Row → List Row → Bool
rules_with [] r t = true
rules_with (d ∷ ds) r t = rule_with d r t && rules_with ds r t

unfoldable pub without : Cols → Row → List Row → List Row
without cs r [] = []
without cs r (s ∷ ss) = pick (agree cs r s) ss (s ∷ without cs r ss)

-- the one table: a row comes in if it is not there and breaks no rule, and goes if it is there
unfoldable pub whole_takes : ℕ → List Dep → List Row → Deed → Bool
whole_takes n ds t (insert r) = not (present (columns 0 n) r t) && rules_with ds r t
whole_takes n ds t (remove r) = present (columns 0 n) r t

unfoldable pub whole_after : ℕ → List Dep → List Row → Deed → List Row
whole_after n ds t (insert r) = pick (whole_takes n ds t (insert r)) (t ++ r ∷ []) t
whole_after n ds t (remove r) = pick (whole_takes n ds t (remove r)) (without (columns 0 n) r t) t

unfoldable pub whole_day : ℕ → List Dep → List Row → List Deed → List Bool
whole_day n ds t [] = []
whole_day n ds t (d ∷ es) = whole_takes n ds t d ∷ whole_day n ds (whole_after n ds t d) es

unfoldable pub whole_end : ℕ → List Dep → List Row → List Deed → List Row
whole_end n ds t [] = t
whole_end n ds t (d ∷ es) = whole_end n ds (whole_after n ds t d) es

-- a part holds what rows look like in its columns, each once, with how many rows look so
pub record Held : Type 0 where
  pub looks : Row
  pub times : ℕ

-- a row with 0 in the columns that are not the part's
unfoldable pub masked : Cols → ℕ → Row → Row
masked p c [] = []
masked p c (x ∷ xs) = pick (has p c) x 0 ∷ masked p (suc c) xs

unfoldable pub holds : Cols → Row → List Held → Bool
holds p r [] = false
holds p r (h ∷ hs) = pick (agree p r h.looks) true (holds p r hs)

unfoldable pub looks_of : List Held → List Row
looks_of [] = []
looks_of (h ∷ hs) = h.looks ∷ looks_of hs

unfoldable pub one_more : Cols → Row → List Held → List Held
one_more p r [] = record { looks = masked p 0 r; times = 1 } ∷ []
one_more p r (h ∷ hs) = pick (agree p r h.looks) (record { looks = h.looks; times = h.times + 1 } ∷ hs) (h ∷ one_more p r hs)

unfoldable pub one_less : Cols → Row → List Held → List Held
one_less p r [] = []
one_less p r (h ∷ hs) =
    pick (agree p r h.looks) (pick (h.times == 1) hs (record { looks = h.looks; times = h.times - 1 } ∷ hs)) (h ∷ one_less p r hs)

-- each part is asked for itself
unfoldable pub all_hold : List Part → List (List Held) → Row → Bool
all_hold [] hs r = true
all_hold (p ∷ ps) [] r = false
all_hold (p ∷ ps) (h ∷ hs) r = holds p.cols r h && all_hold ps hs r

unfoldable pub all_allow : List Part → List (List Held) → Row → Bool
all_allow [] hs r = true
all_allow (p ∷ ps) [] r = true
all_allow (p ∷ ps) (h ∷ hs) r = rules_with p.rules r (looks_of h) && all_allow ps hs r

unfoldable pub all_more : List Part → List (List Held) → Row → List (List Held)
all_more [] hs r = []
all_more (p ∷ ps) [] r = []
all_more (p ∷ ps) (h ∷ hs) r = one_more p.cols r h ∷ all_more ps hs r

unfoldable pub all_less : List Part → List (List Held) → Row → List (List Held)
all_less [] hs r = []
all_less (p ∷ ps) [] r = []
all_less (p ∷ ps) (h ∷ hs) r = one_less p.cols r h ∷ all_less ps hs r

unfoldable pub parts_take : List Part → List (List Held) → Deed → Bool
parts_take ps hs (insert r) = not (all_hold ps hs r) && all_allow ps hs r
parts_take ps hs (remove r) = all_hold ps hs r

unfoldable pub parts_after : List Part → List (List Held) → Deed → List (List Held)
parts_after ps hs (insert r) = pick (parts_take ps hs (insert r)) (all_more ps hs r) hs
parts_after ps hs (remove r) = pick (parts_take ps hs (remove r)) (all_less ps hs r) hs

unfoldable pub parts_day : List Part → List (List Held) → List Deed → List Bool
parts_day ps hs [] = []
parts_day ps hs (d ∷ es) = parts_take ps hs d ∷ parts_day ps (parts_after ps hs d) es

unfoldable pub parts_end : List Part → List (List Held) → List Deed → List (List Held)
parts_end ps hs [] = hs
parts_end ps hs (d ∷ es) = parts_end ps (parts_after ps hs d) es

unfoldable pub bare : List Part → List (List Held)
bare [] = []
bare (p ∷ ps) = [] ∷ bare ps
