use Rattle.std.proofs.Common.{◌≡◌, None, sym, ap, ◌∙◌}
use Rattle.edi_unit.specs.Need.{block_at, slots}
use Rattle.edi_scheme.specs.Pieces.{is_address}
use Rattle.edi_code.proofs.StoredLoops.{stored_some, stored_none}
use Rattle.edi_code.proofs.mapped.Mapped.is_place.Goals as goal

pub returns-in-Some : goal.returns-in-Some
returns-in-Some c = record {
  exact = λ unit mapped known.
      (stored_some unit.types (slots (block_at unit.blocks c.args.block)) 5 c.args.variable c.in-Some.stored
      (sym (c.variable.ensures.exact unit mapped known) ∙ c.in-Some.is)).1;
}

pub returns-in-None : goal.returns-in-None
returns-in-None c = record {
  exact = λ unit mapped known.
      sym (ap is_address (stored_none unit.types (slots (block_at unit.blocks c.args.block)) 5 c.args.variable
      (sym (c.variable.ensures.exact unit mapped known) ∙ c.in-None.is)));
}
