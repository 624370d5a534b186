-- Slot after slot is appended.
use Rattle.std.proofs.Common.{◌≡◌, ◌+◌, ◌++◌, ◌∷◌, [], List, ℕ, take, sym, ap, ◌∙◌, arith, append_assoc, Some}
use Rattle.std.specs.Prelude.{slice_get}
use Rattle.std.proofs.lemmas.List.{take_more}
use Rattle.std.proofs.lemmas.Option.{slice_get_within, get_or_from_slice_get}
use Rattle.edi_kernel.specs.Table.{ready_slots}
use Rattle.edi_kernel.proofs.Slots.{listed_below}
use Rattle.edi_explore.specs.declared.states.States.{States}
use Rattle.edi_explore.proofs.states.States.note_order.Goals as goal

one_more : (xs : List ℕ) (i x : ℕ) → slice_get xs i ≡ Some x → take (i + 1) xs ≡ take i xs ++ x ∷ []
one_more xs i x e = take_more xs i x (slice_get_within xs i x e) ∙ ap (λ y. take i xs ++ y ∷ []) (get_or_from_slice_get xs i x x e)

pub overflow_cast-slot : goal.overflow_cast-slot
overflow_cast-slot c =
    let below = listed_below c.args.kernel.now.table.lists 0 c.loop-index.index c.unwrap-slot.result c.requires.kernel.table.sound
    (sym c.ready_slot.ensures ∙ c.unwrap-slot.ensures) in
    omega (arith, below)

pub loop-index-preserved : goal.loop-index-preserved
loop-index-preserved c = record {
  so_far =
      c.in_ok-push.ensures.items
      ∙ ap (λ (xs : List ℕ). xs ++ c.unwrap-slot.result ∷ []) c.loop-index.invariant.so_far
      ∙ append_assoc c.args.self.now.orders.items (take c.loop-index.index (ready_slots c.args.kernel.now.table)) (c.unwrap-slot.result ∷ [])
      ∙ ap (λ (xs : List ℕ). c.args.self.now.orders.items ++ xs)
      (sym (one_more (ready_slots c.args.kernel.now.table) c.loop-index.index c.unwrap-slot.result (sym c.ready_slot.ensures ∙ c.unwrap-slot.ensures)));
  rest = ap (λ (x : States). record x { orders = c.push.new.self }) c.loop-index.invariant.rest;
}
