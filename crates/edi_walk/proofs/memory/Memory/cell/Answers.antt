use Rattle.std.proofs.Common.{◌≡◌, refl, sym, subst, ap, ◌∙◌, Some}
use Rattle.std.specs.Prelude.{slice_get, slice_index_or}
use Rattle.std.proofs.lemmas.Option.{slice_get_read}
use Rattle.edi_meaning.specs.Store.{no_cell, instances}
use Rattle.edi_walk.specs.Memory.{instance_of, store_of}
use Rattle.edi_walk.proofs.Entries.{cells_there, cell_at}
use Rattle.edi_walk.proofs.memory.Memory.cell.Goals as goal

pub returns : goal.returns
returns c =
    let i = c.in_ok-instance.instance.now in
    let x = c.in_ok-cell.cell.now in
    let found = c.in_ok-cell.ensures.lookup in
    record {
      exact =
          sym (ap (λ cells. slice_index_or cells c.args.variable no_cell)
          (cells_there (instances (store_of c.args.self.now) c.args.name.now) c.args.depth (instance_of i) c.in_ok-instance.ensures.exact)
          ∙ cell_at i.cells.items c.args.variable x
          (subst (λ xs. slice_get xs c.args.variable ≡ Some x) c.deref.ensures.value (slice_get_read c.deref.result.now _ c.args.variable x refl found.3.0 found.1)));
    }
