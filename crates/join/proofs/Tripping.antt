-- What laying and joining in one go says, from what each says.
use Rattle.std.proofs.Common.{◌≡◌, ℕ, true, List, None, Option, sym, ap, ◌∙◌, subst, arith}
use Rattle.dependencies.specs.Tables.{Row}
use Rattle.dependencies.specs.Told.{Told, done, refused}
use Rattle.schema.specs.Layout.{design_in}
use Rattle.parts.specs.Answers.{opened_told, NowHolds}
use Rattle.parts.specs.Day.{Held, bare}
use Rattle.register.specs.Deeds.{day_told, day_end, never_full}
use Rattle.parts.specs.Store.{room_of, held_of}
use Rattle.join.specs.Joined.{Joined}
use Rattle.join.specs.Laid.{rows_in, inserts, first_refusal, unless_closed, rows_told, rows_held, lay_told}
use Rattle.join.specs.Tripped.{Trip, TakenWhole}
use Rattle.join.proofs.RoundTrip.{taken_same, taken_whole}

-- a table that is taken was taken row by row
rows_taken : (t : Told) (o : Option (ℕ × Told)) → unless_closed t o ≡ None → o ≡ None
rows_taken done o e = e
rows_taken (refused k p) o e = let z : ◌≡◌ {A = ℕ} 0 1 = cc in absurd (omega arith)

pub tripped : (n : ℕ) (d g g₁ xs : List ℕ) (rows : List Row) → lay_told n d g xs ≡ None → NowHolds n d g g₁ (rows_held n d g (rows_in n xs))
    → Joined (design_in n d) (held_of n d g₁) rows → Trip n d g g₁ xs rows
tripped n d g g₁ xs rows e w J =
    let J' : Joined (design_in n d) (rows_held n d g (rows_in n xs)) rows = subst (λ (z : List (List Held)). Joined (design_in n d) z rows) w.held J in
    record {
      taken = e;
      laid = w;
      joined = J';
      same = λ ds design b.
          let f : first_refusal 0 (day_told n (room_of n d g) (design_in n d) (bare (design_in n d)) (inserts (rows_in n xs))) ≡ None
          = subst (λ (z : List (List Held)). first_refusal 0 (day_told n (room_of n d g) (design_in n d) z (inserts (rows_in n xs))) ≡ None) b (rows_taken (opened_told n d) _ e) in
          taken_same n (room_of n d g) ds (design_in n d) (rows_in n xs) rows design f
          (subst (λ (z : List (List Held)). Joined (design_in n d) (day_end n (room_of n d g) (design_in n d) z (inserts (rows_in n xs))) rows) b J');
    }

pub whole_taken : (n : ℕ) (d g xs : List ℕ) → TakenWhole n d g xs
whole_taken n d g xs ds design o b obeys once whole room =
    let T : List (List Held) → Type 0 = λ z. first_refusal 0 (day_told n (room_of n d g) (design_in n d) z (inserts (rows_in n xs))) ≡ None in
    let N : List (List Held) → Type 0 = λ z. never_full (day_told n (room_of n d g) (design_in n d) z (inserts (rows_in n xs))) ≡ true in
    ap (λ (t : Told). unless_closed t (first_refusal 0 (rows_told n d g (rows_in n xs)))) o
    ∙ subst T (sym b) (taken_whole n (room_of n d g) ds (design_in n d) (rows_in n xs) (rows_in n xs) design obeys once whole (subst N b room))
