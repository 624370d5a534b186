-- The variable of a slot, by its instance.
use Rattle.std.proofs.Common.{◌≡◌, ℕ, Some, sym, ap, ◌∙◌}
use Rattle.std.specs.Prelude.{slice_get, slice_index_or}
use Rattle.edi_calls.specs.Names.{Name}
use Rattle.edi_unit.specs.Need.{block_at, slots, slot_at, slot_type}
use Rattle.edi_unit.specs.Tree.{ProgramUnit}
use Rattle.edi_meaning.specs.Store.{Spot, Instance, Store, instances, cell, frame_at, located, no_cell, now, reached, shape}
use Rattle.edi_meaning.specs.Whole.{Designated, named}
use Rattle.edi_walk.proofs.Entries.{cells_there, frame_there}

pub named_seen : (unit : ProgramUnit) (p : Name) (size levels variable : ℕ) (store : Store) (s : Spot) (i : Instance) (t : Designated) →
    s ≡ reached (shape store) levels (now (shape store) p) → slice_get (instances store s.0) s.1 ≡ Some i →
    t.at ≡ located s variable (slice_index_or i.cells variable no_cell) → t.of ≡ slot_type (slot_at unit.blocks i.frame.block 0 variable) →
    t ≡ named unit p size levels variable store
named_seen unit p size levels variable store s i t here there at of =
    ap (λ l. record { at = l; of = t.of })
    (at ∙ ap (λ cells. located s variable (slice_index_or cells variable no_cell)) (sym (cells_there (instances store s.0) s.1 i there)))
    ∙ ap (λ n. record { at = located s variable (cell store s variable); of = n })
    (of ∙ ap (λ f. slot_type (slot_at unit.blocks f.block 0 variable)) (sym (frame_there (instances store s.0) s.1 i there)))
    ∙ ap (λ z. record {
      at = located z variable (cell store z variable);
      of = slot_type (slice_get (slots (block_at unit.blocks (frame_at (shape store) z).block)) variable);
    }) here
