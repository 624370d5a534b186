-- What is known of an accepted text, which is run by the code of its unit.
use Rattle.std.proofs.Common.{◌≡◌, ℕ, List, Result, Ok, Err, Option, Some, None, refl, sym, ap, ◌∙◌}
use Rattle.edi_lex.specs.declared.symbol.Mark.{Mark}
use Rattle.edi_lex.specs.declared.fault.LexFault.{LexFault}
use Rattle.edi_lex.specs.Symbols.{symbols_of}
use Rattle.edi_sights.specs.named.Naming.{names_of}
use Rattle.edi_unit.specs.Tree.{ProgramUnit}
use Rattle.edi_target.specs.Check.{CodeParts}
use Rattle.edi_scheme.specs.Laws.{parts_of}
use Rattle.edi_texts.specs.Texts.{AreAccepted}
use Rattle.edi_texts.proofs.Once.{one_unit}
use Rattle.edi_timed.specs.on.Timelines.{IsOf, Timable, text, code}
use Rattle.edi_dump.specs.Frames.{Program}
use Rattle.edi_dumped.specs.Dumps.{HasProgram, IsRunBy}
use Rattle.edi_dumped.specs.Given.{IsKnown, program_given}

-- a text that is known is accepted
pub accepted : (k : Result (List Mark × ℕ) LexFault) (program : Program) → HasProgram k program → AreAccepted k program.unit
accepted (Err fault) program h = absurd h
accepted (Ok symbols) program h = h.0

-- an accepted text is known
known_by : (k : Result (List Mark × ℕ) LexFault) (unit : ProgramUnit) → AreAccepted k unit → (program : Program) × HasProgram k program × (program.unit ≡ unit)
known_by (Err fault) unit h = absurd h
known_by (Ok symbols) unit h = (record { unit = unit; names = names_of h.tree }, (h, refl), refl)

-- each program that is run by a code is known
pub run_by : (program : Timable) (parts : CodeParts) → IsOf program parts → (known : Option Program) × IsRunBy program parts known
run_by (text bytes) parts is =
    let k = known_by (symbols_of bytes) is.0 is.1 in
    (Some k.0, (k.0, k.1, is.3 ∙ ap parts_of (sym k.2), refl))
run_by (code own) parts is = (None, (is, refl))

-- what is known of the program that a run is given
pub run_by_given : (given : Option (List ℕ)) (parts : CodeParts) (known : Option Program) → IsKnown given known → IsOf (program_given given parts) parts →
    IsRunBy (program_given given parts) parts known
run_by_given None parts known k is = (is, k)
run_by_given (Some bytes) parts known k is =
    let same : is.0 ≡ k.0.unit = one_unit (symbols_of bytes) is.0 k.0.unit is.1 (accepted (symbols_of bytes) k.0 k.1) in
    (k.0, k.1, is.3 ∙ ap parts_of same, k.2)
