-- The rules of a part against a new row and the rows that are held, rule by rule and row by row.
use Rattle.std.proofs.Common.{◌≡◌, ℕ, zero, suc, ◌+◌, ◌*◌, ◌<◌, ◌≤◌, Bool, true, false, not, ◌&&◌, List, [], ◌∷◌, length, get_or, drop, Some, None, Option, sym, refl, ap, ◌∙◌, ap₂, arith}
use Rattle.std.proofs.lemmas.List.{drop_more, get_or-drop, drop_all}
use Rattle.std.proofs.lemmas.Bool.{and_left, true≢false, false≢true}
use Rattle.columns.specs.Cols.{Cols, pick, set_in}
use Rattle.dependencies.specs.Tables.{Row, Dep, agree, no_dep}
use Rattle.dependencies.specs.Layout.{rules_in}
use Rattle.parts.specs.Day.{Held, looks_of, rule_with}
use Rattle.parts.specs.Answers.{clash, broken_in}

abbrev rule_at : ℕ → List ℕ → ℕ → Dep
rule_at n xs q = record { left = set_in 0 n (get_or xs (2 * q) 0); right = set_in 0 n (get_or xs (2 * q + 1) 0) }

pub rules_length : (n k : ℕ) (xs : List ℕ) → length (rules_in n k xs) ≡ k
unfolding rules_in
rules_length n zero xs = refl
rules_length n (suc k) xs = ap suc (rules_length n k (drop 2 xs))

get_or_rules : (n k : ℕ) (xs : List ℕ) (q : ℕ) → q < k → get_or (rules_in n k xs) q no_dep ≡ rule_at n xs q
unfolding rules_in
get_or_rules n zero xs q l = absurd (omega arith)
get_or_rules n (suc k) xs zero l = refl
get_or_rules n (suc k) xs (suc q) l =
    let a : get_or (drop 2 xs) (2 * q) 0 ≡ get_or xs (2 * suc q) 0 = get_or-drop 2 xs (2 * q) 0 ∙ ap (λ (i : ℕ). get_or xs i 0) (omega arith) in
    let b : get_or (drop 2 xs) (2 * q + 1) 0 ≡ get_or xs (2 * suc q + 1) 0 = get_or-drop 2 xs (2 * q + 1) 0 ∙ ap (λ (i : ℕ). get_or xs i 0) (omega arith) in
    get_or_rules n k (drop 2 xs) q (omega arith) ∙ ap₂ (λ (u v : ℕ). record { left = set_in 0 n u; right = set_in 0 n v }) a b

-- the rule of one place, as the code reads it
pub rule_here : (n k : ℕ) (xs : List ℕ) (q : ℕ) → q < k → (left right : Cols) → left ≡ set_in 0 n (get_or xs (2 + 2 * q) 0) → right ≡ set_in 0 n (get_or xs (3 + 2 * q) 0)
    → record { left = left; right = right } ≡ get_or (rules_in n k (drop 2 xs)) q no_dep
rule_here n k xs q l left right el er =
    let a : get_or (drop 2 xs) (2 * q) 0 ≡ get_or xs (2 + 2 * q) 0 = get_or-drop 2 xs (2 * q) 0 in
    let b : get_or (drop 2 xs) (2 * q + 1) 0 ≡ get_or xs (3 + 2 * q) 0 = get_or-drop 2 xs (2 * q + 1) 0 ∙ ap (λ (i : ℕ). get_or xs i 0) (omega arith) in
    sym (get_or_rules n k (drop 2 xs) q l ∙ ap₂ (λ (u v : Cols). record { left = u; right = v }) (ap (λ (m : ℕ). set_in 0 n m) a ∙ sym el) (ap (λ (m : ℕ). set_in 0 n m) b ∙ sym er))

-- the rules that are left, from place q on
module _ (ds : List Dep) (q : ℕ) (r : Row) (t : List Row) where
  rule_turn : (d : Dep) → q < length ds → d ≡ get_or ds q no_dep → broken_in q (drop q ds) r t ≡ pick (rule_with d r t) (broken_in (q + 1) (drop (q + 1) ds) r t) (Some q)
  unfolding broken_in
  rule_turn d l e =
      ap (λ (z : List Dep). broken_in q z r t)
      (drop_more ds q no_dep l ∙ ap (λ (z : Dep). z ∷ drop (q + 1) ds) (sym e))

  pub rule_next : (d : Dep) → q < length ds → d ≡ get_or ds q no_dep → (b : Option ℕ) → broken_in q (drop q ds) r t ≡ b → rule_with d r t ≡ true → broken_in (q + 1) (drop (q + 1) ds) r t ≡ b
  rule_next d l e b inv h = sym (rule_turn d l e ∙ ap (λ (z : Bool). pick z (broken_in (q + 1) (drop (q + 1) ds) r t) (Some q)) h) ∙ inv

  pub rule_stop : (d : Dep) → q < length ds → d ≡ get_or ds q no_dep → (b : Option ℕ) → broken_in q (drop q ds) r t ≡ b → rule_with d r t ≡ false → b ≡ Some q
  rule_stop d l e b inv h = sym inv ∙ rule_turn d l e ∙ ap (λ (z : Bool). pick z (broken_in (q + 1) (drop (q + 1) ds) r t) (Some q)) h

  pub rule_end : (b : Option ℕ) → length ds ≤ q → broken_in q (drop q ds) r t ≡ b → b ≡ None
  unfolding broken_in
  rule_end b l inv = sym inv ∙ ap (λ (z : List Dep). broken_in q z r t) (drop_all q ds l)

-- the rows of a part that are left against one rule
module _ (d : Dep) (r : Row) (hs : List Held) (h : Held) (left : List Held) (e : hs ≡ h ∷ left) where
  row_turn : rule_with d r (looks_of hs) ≡ (pick (agree d.left r h.looks) (agree d.right r h.looks) true && rule_with d r (looks_of left))
  unfolding rule_with looks_of
  row_turn = ap (λ (z : List Held). rule_with d r (looks_of z)) e

  apart : (a b : Bool) → pick a (not b) false ≡ false → pick a b true ≡ true
  apart true true e = refl
  apart true false e = absurd (true≢false e)
  apart false b e = refl

  together : (a b : Bool) → pick a (not b) false ≡ true → pick a b true ≡ false
  together true true e = absurd (false≢true e)
  together true false e = refl
  together false b e = absurd (false≢true e)

  pub row_next : (b : Bool) → rule_with d r (looks_of hs) ≡ b → clash d r h.looks ≡ false → rule_with d r (looks_of left) ≡ b
  row_next b inv c =
      sym (row_turn ∙ ap (λ (z : Bool). z && rule_with d r (looks_of left)) (apart (agree d.left r h.looks) (agree d.right r h.looks) c)) ∙ inv

  pub row_stop : (b : Bool) → rule_with d r (looks_of hs) ≡ b → clash d r h.looks ≡ true → b ≡ false
  row_stop b inv c = sym inv ∙ row_turn ∙ and_left _ _ (together (agree d.left r h.looks) (agree d.right r h.looks) c)

pub row_end : (d : Dep) (r : Row) (hs : List Held) (b : Bool) → hs ≡ [] → rule_with d r (looks_of hs) ≡ b → b ≡ true
unfolding rule_with looks_of
row_end d r hs b e inv = sym inv ∙ ap (λ (z : List Held). rule_with d r (looks_of z)) e
