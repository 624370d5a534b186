use Rattle.std.proofs.Common.{◌≡◌, None, subst, arith, rules}
use Rattle.edi_lex.specs.Reading.{HasRead, ReadsTo}
use Rattle.edi_lex.proofs.Readings.{fault_ends, end_fault, end_symbols, end_sound}
use Rattle.edi_lex.proofs.scanner.Scanner.finish.Goals as goal

pub returns-in-Some-clause-exact : goal.returns-in-Some-clause-exact
unfolding HasRead
returns-in-Some-clause-exact c = λ text h.
    let self = c.args.self in
    fault_ends c.in-Some.fault self.cutter self.line self.bytes text self.counted self.lined
    (subst (λ o. ReadsTo o self.cutter self.line self.bytes text) c.in-Some.is h)

pub invariant_of-result : goal.invariant_of-result
invariant_of-result c =
    let self = c.args.self in
    let none : c.args.self.fault ≡ None = search rules in
    let sound = end_sound self.cutter c.end.new.self self.line self.bytes (self.sound none) c.in-Ok.ensures.exact in
    record { spelled = sound.spelled; orderly = sound.orderly; few = omega (arith, sound.few, self.counted) }

pub returns-in-Ok-clause-exact : goal.returns-in-Ok-clause-exact
unfolding HasRead
returns-in-Ok-clause-exact c = λ text h.
    let self = c.args.self in
    let none : c.args.self.fault ≡ None = search rules in
    end_symbols self.cutter c.end.new.self self.line self.bytes text self.counted self.lined (self.sound none)
    (subst (λ o. ReadsTo o self.cutter self.line self.bytes text) none h) c.in-Ok.ensures.exact

pub returns-in-Err-clause-exact : goal.returns-in-Err-clause-exact
unfolding HasRead
returns-in-Err-clause-exact c = λ text h.
    let self = c.args.self in
    let none : c.args.self.fault ≡ None = search rules in
    end_fault c.in-Err.fault self.cutter c.end.new.self self.line self.bytes text self.counted self.lined (self.sound none)
    (subst (λ o. ReadsTo o self.cutter self.line self.bytes text) none h) c.in-Err.ensures.exact
