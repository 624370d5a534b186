use Rattle.std.proofs.Common.{◌≡◌, ◌∙◌, ap}
use Rattle.edi_calls.specs.Calls.{room_for}
use Rattle.edi_memory.specs.Memory.{state_of}
use Rattle.edi_memory.proofs.Reached.{unstored, stored_so}
use Rattle.edi_memory.proofs.state.MemoryState.store.Goals as goal

pub returns-in_default : goal.returns-in_default
returns-in_default c =
    let room : c.room_for.result ≡ room_for (state_of c.args.self.now) c.args.title.items c.written.result =
    c.room_for.ensures.exact ∙ ap (λ t. room_for (state_of c.args.self.now) t c.written.result) c.deref.ensures.value in
    unstored (λ v. v.items) c.args.self.now.buffer c.args.title.items (state_of c.args.self.now) c.written.result
    c.room_for.result c.written.ensures.exact room c.in_default.is

pub returns : goal.returns
returns c =
    let room : c.room_for.result ≡ room_for (state_of c.args.self.now) c.args.title.items c.written.result =
    c.room_for.ensures.exact ∙ ap (λ t. room_for (state_of c.args.self.now) t c.written.result) c.deref.ensures.value in
    stored_so (λ v. v.items) c.args.self.now.buffer c.args.title.items (state_of c.args.self.now) _ c.written.result
    c.room_for.result c.in-Some.index c.written.ensures.exact room c.in-Some.is c.store_at.ensures
