-- As few columns of a set as still fix others.
use Rattle.std.proofs.Common.{◌≡◌, true, List, [], ◌++◌, sym, ◌∙◌, subst, inl, inr}
use Rattle.std.proofs.lemmas.Bool.{true≢false}
use Rattle.columns.specs.Cols.{Cols}
use Rattle.dependencies.specs.Tables.{Dep}
use Rattle.columns.specs.Members.{Sub}
use Rattle.columns.proofs.Columns.{in_or_not}
use Rattle.columns.proofs.Shrink.{keep, keep_least, in_split, sub_rest}
use Rattle.dependencies.proofs.Fixing.{fixes_all_lem, fixes_monotone}

-- of the columns k, what is left when no more can be left out: it fixes p if k does
abbrev pub reduced : List Dep → Cols → Cols → Cols
reduced ds p k = keep (fixes_all_lem ds p) [] k

-- a set that fixes p and lies in a reduced one is all of it
pub reduced_least : (ds : List Dep) (p k j : Cols) → Sub j (reduced ds p k) → fixes_all_lem ds p j ≡ true → Sub (reduced ds p k) j
reduced_least ds p k j f h c i =
    elim (in_or_not j c) [
      | inl m ↦ m
      | inr m ↦
          let s = in_split (reduced ds p k) c i in
          absurd (true≢false
          (sym (fixes_monotone ds p j (s.0 ++ s.1) (sub_rest j s.0 s.1 c (subst (λ v. Sub j v) s.2 f) m) h)
          ∙ keep_least (fixes_all_lem ds p) (fixes_monotone ds p) [] k s.0 s.1 c s.2))
    ]
