use Rattle.std.proofs.Common.{sym, ap, ◌∙◌}
use Rattle.std.specs.Prelude.{map, slice_set}
use Rattle.edi_meaning.specs.Parts.{with_part}
use Rattle.edi_meaning.specs.Store.{value, value_in}
use Rattle.edi_walk.specs.Data.{cell_of, value_of}
use Rattle.edi_walk.proofs.Entries.{cell_at, cell_put}
use Rattle.edi_walk.proofs.memory.put_cell.Goals as goal

pub returns : goal.returns
returns c =
    let cells = c.args.cells.now.items in
    let i = c.args.location.now.variable in
    record {
      exact = λ h.
          cell_put cells c.exchange-held.new.items.items c.exchange-filler.new.items.items i _ _ c.exchange-held.ensures.exact c.exchange-filler.ensures.exact
          ∙ ap (λ v. slice_set (map cell_of cells) i (value v))
          (c.in-Some.ensures.exact
          ∙ ap (λ path. with_part (value_in (cell_of c.exchange-held.result)) path (value_of c.args.value)) c.deref.ensures.value
          ∙ ap (λ x. with_part (value_in x) c.args.location.now.path.items (value_of c.args.value)) (sym (cell_at cells i _ c.exchange-held.ensures.before)));
    }
