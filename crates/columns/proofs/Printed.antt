-- Things written one after the other, the first behind one text and each further one behind another.
use Rattle.std.proofs.Common.{◌≡◌, ℕ, List, [], ◌∷◌, ◌++◌, sym, ap, ◌∙◌, append_assoc, append-nil}
use Rattle.std.specs.declared.fmt.Formatter.{Formatter}
use Rattle.std.specs.Fmt.{IsPlainFormatter, HasWritten}
use Rattle.std.proofs.Output.{has_written_append, has_written_of_eq, writes_in_calls_nil}
use Rattle.columns.specs.Shown.{led}

module _ {W : Type 0} (took : W → List ℕ → W → Type 0) {A : Type 0} (text : A → List ℕ) (next : List ℕ) where
  -- between f and g those of the things all were written that are not left, of which the first has this text before it
  abbrev pub LedBut : Formatter W → Formatter W → List ℕ → List A → List ℕ → List A → Type 0
  LedBut f g l left first all = (bs : List ℕ) × (IsPlainFormatter f → HasWritten took f bs g) × (bs ++ led text l next left ≡ led text first next all)

  pub none_led : (f : Formatter W) (first : List ℕ) (left all : List A) → left ≡ all → LedBut f f first left first all
  none_led f first left all e = ([], λ plain. record { wrote = writes_in_calls_nil took _; plain = plain }, ap (λ v. led text first next v) e)

  pub one_led : (f g h : Formatter W) (l : List ℕ) (x : A) (left before : List A) (first : List ℕ) (all : List A) → before ≡ x ∷ left
      → LedBut f g l before first all → (IsPlainFormatter g → HasWritten took g (l ++ text x) h) → LedBut f h next left first all
  one_led f g h l x left before first all e (bs, put, so) more = (
    bs ++ (l ++ text x),
    λ plain. let p = put plain in has_written_append took f bs g (l ++ text x) h p (more p.plain),
    append_assoc bs (l ++ text x) (led text next next left)
        ∙ ap (λ v. bs ++ v) (append_assoc l (text x) (led text next next left))
        ∙ ap (λ v. bs ++ led text l next v) (sym e) ∙ so,
  )

  -- something that is not one of them is passed over
  pub skip_led : (f g : Formatter W) (l : List ℕ) (left before : List A) (first : List ℕ) (all : List A) → before ≡ left
      → LedBut f g l before first all → LedBut f g l left first all
  skip_led f g l left before first all e (bs, put, so) = (bs, put, ap (λ v. bs ++ led text l next v) (sym e) ∙ so)

  -- all were written behind a text of their own
  pub all_led : (f g h : Formatter W) (head l : List ℕ) (left : List A) (first : List ℕ) (all : List A) → left ≡ [] → (IsPlainFormatter f → HasWritten took f head g)
      → LedBut g h l left first all → IsPlainFormatter f → HasWritten took f (head ++ led text first next all) h
  all_led f g h head l left first all e begins (bs, put, so) plain =
      let p = begins plain in
      has_written_of_eq took f (head ++ bs) (head ++ led text first next all) h
      (ap (λ v. head ++ v) (sym (append-nil bs) ∙ ap (λ v. bs ++ led text l next v) (sym e) ∙ so))
      (has_written_append took f head g bs h p (put p.plain))
