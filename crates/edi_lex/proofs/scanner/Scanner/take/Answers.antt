use Rattle.std.proofs.Common.{◌≡◌, ◌++◌, ◌∷◌, [], Some, subst, sym, rules}
use Rattle.edi_lex.specs.declared.fault.LexFault.TheVariants.{TooLong, NoMemory}
use Rattle.edi_lex.specs.Reading.{HasRead, HasFailed, ReadsTo}
use Rattle.edi_lex.proofs.Readings.{too_long_more, full_is_too_long, reads_more, sound_more}
use Rattle.edi_lex.proofs.scanner.Scanner.take.Goals as goal

pub returns-then-eq-clause-read : goal.returns-then-eq-clause-read
unfolding HasRead
returns-then-eq-clause-read c = λ text h.
    let self = c.args.self.now in
    let is : c.args.self.now.fault ≡ Some TooLong = search rules in
    subst (λ o. ReadsTo o self.cutter self.line self.bytes (text ++ c.args.byte ∷ [])) (sym is)
    (too_long_more text (c.args.byte ∷ []) (subst (λ o. ReadsTo o self.cutter self.line self.bytes text) is h))

pub returns-then-is_full-clause-read : goal.returns-then-is_full-clause-read
unfolding HasRead
returns-then-is_full-clause-read c = λ text h.
    let self = c.args.self.now in
    full_is_too_long self.fault self.cutter c.args.byte self.line self.bytes text h (sym c.if-is_full.ensures.full)

pub invariant_of-self-2-clause-sound : goal.invariant_of-self-2-clause-sound
invariant_of-self-2-clause-sound c = λ none.
    let self = c.args.self.now in
    rw c.feeds_at.ensures.exact
    (sound_more self.fault c.fault_with-fault.result self.cutter c.fault_with-fault.new.cutter c.args.byte self.line self.bytes self.sound
    c.fault_with-fault.ensures.exact none)

pub returns-clause-read : goal.returns-clause-read
unfolding HasRead HasFailed
returns-clause-read c = λ text h.
    let self = c.args.self.now in
    let other : c.args.self.now.fault ≡ Some TooLong → ⊥ = search rules in
    let works : c.fault_with-fault.result ≡ Some NoMemory → ⊥ = search rules in
    rw c.feeds_at.ensures.exact
    (reads_more self.fault c.fault_with-fault.result self.cutter c.fault_with-fault.new.cutter c.args.byte self.line self.bytes text self.sound
    c.fault_with-fault.ensures.exact other works h)
