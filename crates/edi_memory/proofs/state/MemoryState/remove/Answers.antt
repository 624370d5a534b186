use Rattle.std.proofs.Common.{◌≡◌, Ok, Some, sym, ◌∙◌, ap, subst}
use Rattle.std.specs.Option.{option_map}
use Rattle.edi_calls.specs.State.{title_of}
use Rattle.edi_calls.specs.Calls.{word_of, remove_as}
use Rattle.edi_memory.specs.Memory.{state_of, Reaches}
use Rattle.edi_memory.proofs.Reached.{removed, byte_word}
use Rattle.edi_memory.proofs.state.MemoryState.remove.Goals as goal

pub returns-in-Some : goal.returns-in-Some
returns-in-Some c =
    let before = state_of c.args.self.now in
    let after = state_of c.remove_titled.new.self in
    let named : title_of c.args.words.now ≡ Some c.in-Some.title.items =
    sym c.in-Ok.ensures ∙ ap (option_map (λ v. v.items)) c.in-Some.is in
    let word : c.from.result ≡ word_of c.remove_titled.result = c.from.ensures ∙ byte_word c.remove_titled.result in
    let reached : Reaches (remove_as c.in-Some.title.items before) (Ok (Some (word_of c.remove_titled.result))) before after =
    subst (λ t. Reaches (remove_as t before) (Ok (Some (word_of c.remove_titled.result))) before after)
    c.deref.ensures.value c.remove_titled.ensures in
    record {
      exact = removed c.args.words.now c.in-Some.title.items before after c.from.result named
          (subst (λ w. Reaches (remove_as c.in-Some.title.items before) (Ok (Some w)) before after) (sym word) reached);
      used = tt;
    }
