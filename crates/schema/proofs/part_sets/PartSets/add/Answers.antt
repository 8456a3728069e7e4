use Rattle.std.proofs.Common.{◌≡◌, Bool, false, List, [], ◌∷◌, ◌++◌, length, sym, ap, ◌∙◌, arith, length-append}
use Rattle.columns.specs.Cols.{pick}
use Rattle.columns.specs.declared.set.ColumnSet.{ColumnSet}
use Rattle.schema.specs.Sets.{is_set_held, outside, sets_in}
use Rattle.schema.proofs.Sifting.{outside_few}
use Rattle.schema.proofs.part_sets.PartSets.add.Goals as goal

pub push-requires : goal.push-requires
push-requires c = omega (arith, ap length c.drop_inside.ensures, outside_few (sets_in c.args.self.now) c.args.set)

pub returns : goal.returns
returns c =
    let x : ColumnSet = c.args.set in
    let was : List ColumnSet = sets_in c.args.self.now in
    let no· : is_set_held was x ≡ false = sym (c.if-is_held.ensures ∙ ap (λ (v : List ColumnSet). is_set_held v x) c.sets.ensures) in
    let one : sets_in record { sets = c.push.new.self } ≡ outside was x ++ x ∷ [] = c.push.ensures ∙ ap (λ (v : List ColumnSet). v ++ x ∷ []) c.drop_inside.ensures in (
      one ∙ sym (ap (λ (b : Bool). pick b was (outside was x ++ x ∷ [])) no·),
      omega (arith, ap length one, length-append (outside was x) (x ∷ []), outside_few was x),
    )
