use Rattle.std.proofs.Common.{◌≡◌, ℕ, ◌<◌, List, length, Option, Some, None, slice_get, get_or, sym, ◌∙◌}
use Rattle.std.proofs.lemmas.Option.{slice_get-get_or}
use Rattle.edi_unit.specs.declared.units.Parameter.{Parameter}
use Rattle.edi_unit.specs.declared.units.Parameter.TheVariants as slot
use Rattle.edi_unit.specs.Need.{block_at, slots}
use Rattle.edi_code.proofs.StoredLoops.{stored_some, stored_none}
use Rattle.edi_code.proofs.mapped.Mapped.offset.Goals as goal

pub returns-in-Some : goal.returns-in-Some
returns-in-Some c = record {
  exact = λ unit mapped known within.
      (stored_some unit.types (slots (block_at unit.blocks c.args.block)) 5 c.args.variable c.in-Some.stored
      (sym (c.variable.ensures.exact unit mapped known) ∙ c.in-Some.is)).0;
}

-- no variable is missing
none_inside : (ps : List Parameter) (v : ℕ) → v < length ps → slice_get ps v ≡ None → ⊥
none_inside ps v less e =
    let there : slice_get ps v ≡ Some (get_or ps v (slot.Var 0)) = slice_get-get_or ps v (slot.Var 0) less in
    let clash : None ≡ Some (get_or ps v (slot.Var 0)) = sym e ∙ there in absurd (cc)

pub returns-in-None : goal.returns-in-None
returns-in-None c = record {
  exact = λ unit mapped known within.
      absurd (none_inside (slots (block_at unit.blocks c.args.block)) c.args.variable within
      (stored_none unit.types (slots (block_at unit.blocks c.args.block)) 5 c.args.variable
      (sym (c.variable.ensures.exact unit mapped known) ∙ c.in-None.is)));
}
