use Rattle.std.proofs.Common.{ℕ, ◌+◌, List, ◌++◌, get_or, drop, codes, sym, refl, ap, subst}
use Rattle.std.proofs.Output.{has_written_of_eq}
use Rattle.std.proofs.lemmas.List.{drop_all}
use Rattle.columns.specs.Cols.{Cols, set_in}
use Rattle.columns.specs.Shown.{listed}
use Rattle.columns.proofs.Printed.{LedBut, none_led, one_led, skip_led, all_led}
use Rattle.keys.specs.Shown.{key_lead, fitting}
use Rattle.keys.proofs.FittingKeys.{next_fits, next_not}
use Rattle.keys.proofs.text.KeysLineDisplay.fmt.Goals as goal
use Rattle.keys.proofs.text.KeysLineDisplay.fmt.Goals.{in-Some+in_ok-write-2, in_default}

pub loop-number-init : goal.loop-number-init
loop-number-init g c = none_led g.W.Write.write_str_gives listed (codes "; ") _ (codes " ") _ _ refl

pub loop-number-preserved : goal.loop-number-preserved
loop-number-preserved g c =
    let took = g.W.Write.write_str_gives in
    let n = c.args.self.now.width.columns in
    let xs = c.args.self.now.keys.now in
    let i = c.loop-number.number-index in
    let f0 = c.write.new.self in
    let before : List Cols = fitting n (drop i xs) in
    let left : List Cols = fitting n (drop (i + 1) xs) in
    let all : List Cols = fitting n xs in
    let lead : List ℕ = key_lead c.loop-number.lead in
    let key : Cols = set_in 0 n (get_or xs i 0) in
    elim c.match-from_bits.branch [
      | in-Some+in_ok-write-2 w ↦
          subst (λ v. LedBut took listed (codes "; ") f0 v (key_lead c.match-from_bits.lead) left (codes " ") all) (sym w.f-is)
          (subst (λ v. LedBut took listed (codes "; ") f0 w.write-in-Some.new.self (key_lead v) left (codes " ") all) (sym w.lead-is)
          (one_led took listed (codes "; ") f0 c.loop-number.f w.write-in-Some.new.self lead key left before (codes " ") all
          (next_fits n xs i c.loop-number-test.true w.in-Some.ensures.0) c.loop-number.invariant
          (λ plain.
          has_written_of_eq took c.loop-number.f _ _ w.write-in-Some.new.self (ap (λ v. lead ++ listed v) w.in-Some.ensures.1)
          (w.in_ok-write-2.ensures.writes plain refl))))
      | in_default w ↦
          subst (λ v. LedBut took listed (codes "; ") f0 v (key_lead c.match-from_bits.lead) left (codes " ") all) (sym w.f-is)
          (subst (λ v. LedBut took listed (codes "; ") f0 c.loop-number.f (key_lead v) left (codes " ") all) (sym w.lead-is)
          (skip_led took listed (codes "; ") f0 c.loop-number.f lead left before (codes " ") all
          (next_not n xs i c.loop-number-test.true w.in_default.ensures) c.loop-number.invariant))
    ]

pub returns-clause-writes : goal.returns-clause-writes
returns-clause-writes g c plain e =
    let n = c.args.self.now.width.columns in
    let xs = c.args.self.now.keys.now in
    all_led g.W.Write.write_str_gives listed (codes "; ") _ _ _ (codes "keys") (key_lead c.loop-number.lead) (fitting n (drop c.loop-number.number-index xs)) (codes " ") (fitting n xs)
    (ap (fitting n) (drop_all c.loop-number.number-index xs c.loop-number-test.false)) (λ p. c.in_ok-write.ensures.writes p refl) c.loop-number.invariant plain
