-- The parts of a plan written line by line.
use Rattle.std.proofs.Common.{◌≡◌, ℕ, List, [], ◌∷◌, ◌++◌, sym, ap, ◌∙◌, append_assoc, append-nil}
use Rattle.std.specs.declared.fmt.Formatter.{Formatter}
use Rattle.std.specs.Fmt.{IsPlainFormatter, HasWritten}
use Rattle.std.proofs.Output.{has_written_append, has_written_of_eq, writes_in_calls_nil}
use Rattle.columns.specs.Sets.{cols}
use Rattle.columns.specs.declared.set.ColumnSet.{ColumnSet}
use Rattle.dependencies.specs.Tables.{Dep}
use Rattle.dependencies.specs.Rules.{deps}
use Rattle.dependencies.specs.declared.rules.Rule.{Rule}
use Rattle.schema.specs.Design.{Part}
use Rattle.schema.specs.Made.{left_over, parts_of}
use Rattle.schema.specs.Sets.{sets_of}
use Rattle.schema.specs.Writing.{over}
use Rattle.schema.specs.Shown.{text_of_part, part_of, design_text}
use Rattle.schema.proofs.Decoding.{own_deps, over_deps}

-- the parts of the sets, which own the rules
abbrev pub parts_left : List Rule → List ColumnSet → List Part
parts_left rs ss = parts_of (deps rs) (sets_of ss)

-- the first part owns what lies in its set, and the others the rest
first_part : (rs : List Rule) (s : ColumnSet) (ss : List ColumnSet) → parts_left rs (s ∷ ss) ≡ part_of rs s ∷ parts_left (over rs s) ss
unfolding sets_of
first_part rs s ss =
    ap (λ (ds : List Dep). record { cols = cols s; rules = ds } ∷ parts_of (left_over (deps rs) (cols s)) (sets_of ss)) (sym (own_deps rs s))
    ∙ ap (λ (ds : List Dep). part_of rs s ∷ parts_of ds (sets_of ss)) (sym (over_deps rs s))

module _ {W : Type 0} (took : W → List ℕ → W → Type 0) where
  -- between f and g the lines of all parts were written that are not left
  abbrev pub LinesBut : Formatter W → Formatter W → List Part → List Part → Type 0
  LinesBut f g left all = (bs : List ℕ) × (IsPlainFormatter f → HasWritten took f bs g) × (bs ++ design_text left ≡ design_text all)

  pub none_lined : (f : Formatter W) (left all : List Part) → left ≡ all → LinesBut f f left all
  none_lined f left all e = ([], λ plain. record { wrote = writes_in_calls_nil took _; plain = plain }, ap design_text e)

  pub one_lined : (f g h : Formatter W) (rs rest : List Rule) (s : ColumnSet) (before ss : List ColumnSet) (all : List Part) → before ≡ s ∷ ss
      → rest ≡ over rs s → LinesBut f g (parts_left rs before) all → (IsPlainFormatter g → HasWritten took g (text_of_part (part_of rs s) ++ 10 ∷ []) h)
      → LinesBut f h (parts_left rest ss) all
  one_lined f g h rs rest s before ss all e o (bs, put, so) next =
      let line : List ℕ = text_of_part (part_of rs s) ++ 10 ∷ [] in (
        bs ++ line,
        λ plain. let p = put plain in has_written_append took f bs g line h p (next p.plain),
        append_assoc bs line (design_text (parts_left rest ss))
            ∙ ap (λ v. bs ++ v) (append_assoc (text_of_part (part_of rs s)) (10 ∷ []) (design_text (parts_left rest ss)))
            ∙ ap (λ v. bs ++ design_text (part_of rs s ∷ parts_left v ss)) o
            ∙ ap (λ v. bs ++ design_text v) (sym (first_part rs s ss))
            ∙ ap (λ v. bs ++ design_text (parts_left rs v)) (sym e) ∙ so,
      )

  pub all_lined : (f g : Formatter W) (rs : List Rule) (left : List ColumnSet) (all : List Part) → left ≡ [] → LinesBut f g (parts_left rs left) all
      → IsPlainFormatter f → HasWritten took f (design_text all) g
  unfolding sets_of
  all_lined f g rs left all e (bs, put, so) plain =
      has_written_of_eq took f bs (design_text all) g (sym (append-nil bs) ∙ ap (λ v. bs ++ design_text (parts_left rs v)) (sym e) ∙ so) (put plain)
