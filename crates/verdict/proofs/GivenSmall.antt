-- The rules that were read name columns of the table only. Assumes nothing.
use Rattle.std.proofs.Common.{◌≡◌, ℕ, true, ◌&&◌, List, [], ◌∷◌, sym, subst, inl, inr}
use Rattle.std.proofs.lemmas.Bool.{and_parts}
use Rattle.columns.specs.Cols.{all_in, columns}
use Rattle.columns.specs.Members.{In}
use Rattle.columns.proofs.Columns.{all_in_sub, below}
use Rattle.dependencies.specs.Reads.{rules_of}
use Rattle.dependencies.specs.Rules.{deps}
use Rattle.dependencies.specs.Tables.{Dep, is_proper}
use Rattle.dependencies.specs.declared.held.RuleSet.{RuleSet}
use Rattle.dependencies.proofs.Smalls.{Small}

proper_each : (n : ℕ) (ds : List Dep) → is_proper n ds ≡ true → Small n ds
proper_each n [] h d i c = absurd i
proper_each n (e ∷ ds) h d i c =
    let w = and_parts (all_in e.left (columns 0 n) && all_in e.right (columns 0 n)) (is_proper n ds) h in
    let s = and_parts (all_in e.left (columns 0 n)) (all_in e.right (columns 0 n)) w.0 in
    elim i [
      | inl q ↦ (
        λ k. below n c (all_in_sub e.left (columns 0 n) s.0 c (subst (λ (v : Dep). In c v.left) (sym q) k)),
        λ k. below n c (all_in_sub e.right (columns 0 n) s.1 c (subst (λ (v : Dep). In c v.right) (sym q) k)),
      )
      | inr k ↦ proper_each n ds w.1 d k c
    ]

pub rules_small : (t : RuleSet) → Small t.width.columns (deps (rules_of t))
rules_small t = proper_each t.width.columns (deps (rules_of t)) t.proper
