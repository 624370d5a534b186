use Rattle.std.proofs.Common.{◌≡◌, length, Ok, Some, sym, ◌∙◌, subst}
use Rattle.edi_calls.specs.Calls.{call, answer_words}
use Rattle.edi_memory.specs.Memory.{state_of, Reaches}
use Rattle.edi_memory.specs.MemoryCalls.{system_of}
use Rattle.edi_calls.specs.declared.ends.CallEnd.TheVariants as end
use Rattle.edi_calls.proofs.Lasting.{leaves}
use Rattle.edi_calls.proofs.Limits.{meets_may}
use Rattle.edi_memory.proofs.Reached.{set_one, reached_count, reached_meets}
use Rattle.edi_memory.proofs.memory.MemoryCallsCalls.call.Goals as goal

pub returns-in-Some-clause-exact : goal.returns-in-Some-clause-exact
returns-in-Some-clause-exact c =
    let before = system_of c.args.self.now in
    let after = state_of c.step.new.self in
    let result = call c.args.number c.args.args.now before in
    let reached : Reaches result (Ok (Some c.in-Some.word)) before after =
    subst (λ w. Reaches result (Ok w) before after) c.in-Some.is c.in-Ok.ensures.exact in
    let count : 1 ≡ answer_words c.args.number =
    reached_count result (answer_words c.args.number) (Some c.in-Some.word) before after
    (leaves c.args.number c.args.args.now before c.requires.from c.requires.to) reached in
    let one : length c.args.answer.now ≡ 1 = c.requires.answers ∙ sym count in
    reached_meets result (Some c.in-Some.word) _ before after (set_one c.args.answer.now c.in-Some.word one) reached

pub returns-in-Some-clause-may : goal.returns-in-Some-clause-may
returns-in-Some-clause-may c =
    meets_may c.args.number c.args.args.now end.Ok _ (system_of c.args.self.now) (state_of c.step.new.self) c.requires.from c.requires.to
    (returns-in-Some-clause-exact c)
