-- Proper rules name columns below n, and a rule set has few of them. Assumes nothing.
use Rattle.std.proofs.Common.{◌≡◌, ℕ, ◌<◌, ◌≤◌, true, List, length, subst, arith, length-take}
use Rattle.bounded.proofs.Few.{few_items}
use Rattle.dependencies.specs.Reads.{rules_of}
use Rattle.dependencies.specs.declared.held.RuleSet.{RuleSet}
use Rattle.dependencies.specs.Tables.{Dep, no_dep, Proper}
use Rattle.columns.specs.Cols.{all_in, columns}
use Rattle.columns.specs.Members.{In}
use Rattle.columns.proofs.Members.{at_in}
use Rattle.columns.proofs.Columns.{all_in_sub, below}

abbrev pub Small : ℕ → List Dep → Type 0
Small n ds = (d : Dep) → In d ds → (c : ℕ) → (In c d.left → c < n) × (In c d.right → c < n)

pub proper_small : (n : ℕ) (ds : List Dep) → Proper n ds → Small n ds
unfolding Proper
proper_small n ds p d h c =
    let i = at_in ds d no_dep h in
    let q = subst (λ v. (all_in v.left (columns 0 n) ≡ true) × (all_in v.right (columns 0 n) ≡ true)) i.2 (p i.0 i.1) in
    (λ j. below n c (all_in_sub d.left (columns 0 n) q.0 c j), λ j. below n c (all_in_sub d.right (columns 0 n) q.1 c j))

pub few_rules : (t : RuleSet) → length (rules_of t) ≤ 32
few_rules t = few_items t.rules
