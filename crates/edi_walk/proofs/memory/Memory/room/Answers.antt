use Rattle.std.proofs.Common.{◌-◌, refl, sym, ap, ◌∙◌}
use Rattle.std.specs.Prelude.{unwrap_or, []}
use Rattle.std.proofs.Math.Nat.{sub-zero}
use Rattle.edi_meaning.specs.Store.{frames, room}
use Rattle.edi_walk.proofs.Entries.{stands_found, words_seen}
use Rattle.edi_walk.proofs.memory.Memory.room.Goals as goal

pub returns-in-Some : goal.returns-in-Some
returns-in-Some c =
    let entry = c.index.result.now in
    record {
      exact =
          c.room.ensures.exact
          ∙ ap (λ n. c.args.size - n) (sym (words_seen entry.instances.items))
          ∙ ap (λ is. room c.args.size (frames is))
          (sym (stands_found c.args.name.now c.in-Some.place c.args.self.now.entries.items entry c.in-Some.ensures.exact c.index.ensures));
    }

pub returns-in-None : goal.returns-in-None
returns-in-None c = record {
  exact = sym (sub-zero c.args.size) ∙ ap (λ is. room c.args.size (frames is)) (sym (ap (λ x. unwrap_or x []) (c.in-None.ensures.none refl)));
}
