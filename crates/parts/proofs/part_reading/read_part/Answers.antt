use Rattle.std.proofs.Common.{◌≡◌, ℕ, List, [], length, get_or, sym, ap, ◌∙◌, subst, arith}
use Rattle.dependencies.specs.Told.{Told}
use Rattle.schema.specs.Design.{Part, no_part}
use Rattle.parts.specs.Day.{Held}
use Rattle.parts.specs.Parts.{IfOpened, PartAt, NoPart}
use Rattle.parts.specs.declared.held_part.HeldPart.{HeldPart}
use Rattle.parts.proofs.PartReading.{part_there, no_part_there, past_parts}
use Rattle.parts.proofs.part_reading.read_part.Goals as goal

-- a design that can be read is read with as many columns as were asked for
opened : (told ok : Told) (m n : ℕ) (d g : List ℕ) (p : ℕ) (h : HeldPart) → told ≡ ok → m ≡ n → IfOpened ok (PartAt m d g p h) (NoPart h) → IfOpened told (PartAt n d g p h) (NoPart h)
opened told ok m n d g p h e f at = subst (λ (t : Told). IfOpened t (PartAt n d g p h) (NoPart h)) (sym e) (subst (λ (k : ℕ). IfOpened ok (PartAt k d g p h) (NoPart h)) f at)

pub returns-in-Some-nth : goal.returns-in-Some-nth
returns-in-Some-nth c =
    let n = c.in-Some.width.columns in
    let there = part_there c.walk.result c.nth.new.self c.args.p c.in-Some-nth.part c.in-Some-nth.rows c.in-Some-nth.ensures.ran in
    opened _ _ n c.args.columns c.args.design.now c.args.cells.now c.args.p _ c.in-Some.ensures.0 c.in-Some.ensures.1
    record {
      columns = c.set.ensures ∙ ap (λ (z : Part). z.cols) (sym there.0 ∙ ap (λ (ps : List Part). get_or ps c.args.p no_part) c.walk.ensures.parts);
      holds = sym there.1 ∙ ap (λ (hs : List (List Held)). get_or hs c.args.p []) c.walk.ensures.held;
    }

pub returns-in-None : goal.returns-in-None
returns-in-None c =
    let n = c.in-Some.width.columns in
    let few = no_part_there c.walk.result c.nth.new.self c.args.p c.in-None.ensures.ran in
    let all = ap length c.walk.ensures.parts in
    opened _ _ n c.args.columns c.args.design.now c.args.cells.now c.args.p _ c.in-Some.ensures.0 c.in-Some.ensures.1
    (past_parts n c.args.design.now c.args.cells.now c.args.p _ (omega arith) c.no_part-in-None.ensures)
