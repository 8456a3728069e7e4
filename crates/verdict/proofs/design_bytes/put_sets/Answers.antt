use Rattle.std.proofs.Common.{map, take, ℕ, ◌+◌, List, set, refl, ap, ◌∙◌, arith}
use Rattle.std.proofs.lemmas.List.{take_all}
use Rattle.dependencies.specs.Lent.{put_list}
use Rattle.dependencies.proofs.ByteRows.{set_of}
use Rattle.verdict.proofs.DesignRows.{pair_more, all_pairs}
use Rattle.verdict.proofs.design_bytes.put_sets.Goals as goal

pub loop-i-init : goal.loop-i-init
unfolding put_list
loop-i-init c = refl

pub loop-i-preserved : goal.loop-i-preserved
loop-i-preserved c =
    let pairs = c.as_chunks.result.0.now in
    let i = c.loop-i.i in
    c.put.ensures
    ∙ ap (λ (v : List ℕ). set v (c.args.at + i) c.from_le_bytes.result) c.loop-i.invariant
    ∙ ap (λ (k : ℕ). set (put_list c.args.row.now c.args.at (map set_of (take i pairs))) (c.args.at + i) k) (c.from_le_bytes.ensures ∙ omega arith)
    ∙ pair_more c.args.row.now c.args.at pairs i c.loop-i-test.true

pub returns : goal.returns
returns c =
    let pairs = c.as_chunks.result.0.now in
    let write = λ (v : List ℕ). put_list c.args.row.now c.args.at v in
    c.loop-i.invariant
    ∙ ap (λ (ps : List (List ℕ)). write (map set_of ps)) (take_all c.loop-i.i pairs c.loop-i-test.false ∙ c.as_chunks.ensures.front)
    ∙ ap write (all_pairs c.args.bytes.now)
