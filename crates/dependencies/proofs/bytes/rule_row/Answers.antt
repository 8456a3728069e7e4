use Rattle.std.proofs.Common.{◌≡◌, ℕ, ◌++◌, ◌/◌, min, List, length, take, drop, ap, ◌∙◌, arith}
use Rattle.std.specs.Prelude.{map}
use Rattle.std.specs.Simd.{first_chunks}
use Rattle.std.proofs.lemmas.List.{take_all, take_min, drop_min}
use Rattle.dependencies.proofs.ByteRows.{set_of, row_pairs}
use Rattle.dependencies.proofs.bytes.rule_row.Goals as goal

pub returns : goal.returns
returns c =
    let bs = c.args.bytes.now in
    let pairs : List (List ℕ) = c.as_chunks.result.0.now in
    let some : List (List ℕ) = take c.min-2.result pairs in
    let two : c.min.result ≡ min 2 (length bs) = omega (arith, c.min.ensures) in
    let many : c.min-2.result ≡ min 64 (length pairs) = omega (arith, c.min-2.ensures) in
    let back : c.split_at.result.1.now ≡ drop 2 bs = c.split_at.ensures.back ∙ ap (λ (k : ℕ). drop k bs) two ∙ drop_min 2 bs in
    let front : pairs ≡ first_chunks 2 (length (drop 2 bs) / 2) (drop 2 bs)
    = c.as_chunks.ensures.front ∙ ap (λ (ys : List ℕ). first_chunks 2 (length ys / 2) ys) back in
    c.loop-set.invariant
    ∙ ap (λ (ps : List (List ℕ)). take 2 bs ++ map set_of ps) (take_all c.loop-set.set-index some c.loop-set-test.false ∙ ap (λ (k : ℕ). take k pairs) many ∙ take_min 64 pairs)
    ∙ row_pairs bs pairs front
