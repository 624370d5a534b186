-- The unit of every accepted text can be coded, and the code of every unit that can be coded does what the unit means.
use Rattle.std.proofs.Common.{◌≡◌, ◌≤◌, ◌+◌, ◌*◌, ℕ, List, Result, Ok, Err, length, refl, sym, subst, arith}
use Rattle.std.specs.Prelude.{IfOk}
use Rattle.edi_calls.specs.State.{fresh}
use Rattle.edi_lex.specs.declared.symbol.Mark.{Mark}
use Rattle.edi_lex.specs.declared.fault.LexFault.{LexFault}
use Rattle.edi_lex.specs.Symbols.{symbols_of}
use Rattle.edi_unit.specs.Tree.{ProgramUnit}
use Rattle.edi_target.specs.Check.{CodeParts}
use Rattle.edi_scheme.specs.Code.{code_of}
use Rattle.edi_scheme.specs.Laws.{parts_of}
use Rattle.edi_scheme.proofs.Checked.{code_is_sound}
use Rattle.edi_compile.proofs.codable.Fielded.{records_have_fields}
use Rattle.edi_compile.proofs.codable.Following.{code_is_short, code_is_short_for_text, lines_are_small, units_fit}
use Rattle.edi_follows.specs.Theorem.{CanBeCoded}
use Rattle.edi_follows.proofs.Whole.{same_outcomes, same_moments, code_private}
use Rattle.edi_texts.specs.Texts.{AreAccepted, IsUnit}
use Rattle.edi_texts.specs.Laws.{IsSoundUnit}
use Rattle.edi_texts.specs.Length.{extent_of, symbol_count}
use Rattle.edi_texts.specs.Run.{IsCodeFor}
use Rattle.edi_texts.proofs.Bounded.{accepted_texts_are_sound, symbols_bounded}
use Rattle.edi_texts.proofs.Executions.{code_for}
use Rattle.edi_compile.proofs.Calls.{calls_to_meaning, calls_to_code}
use Rattle.edi_compile.specs.Compiled.{IsShort}
use Rattle.edi_compile.specs.Meant.{DoesAsMeant, IsPrivateCode, SoundUnitsCanBeCoded, TextsArePrivate, TextsCanBeCoded, TextsDoAsMeant}

-- ---- a unit

pub does_as_meant : (unit : ProgramUnit) → CanBeCoded unit → DoesAsMeant unit (parts_of unit)
does_as_meant unit can = record {
  sound = code_is_sound unit can.fits can.parts can.short;
  same = λ system bound choices outcome. let both = same_outcomes unit can system bound choices outcome in (both.1, both.0);
  through = λ system bound choices moment. let both = same_moments unit can system bound choices moment in (both.1, both.0);
  calls = λ system bound choices before next. (
    λ h. calls_to_meaning unit can system bound choices before next h,
    λ h. calls_to_code unit can system bound choices before next h,
  );
  is_private = code_private unit can;
}

pub private_is : (unit : ProgramUnit) (code : CodeParts) → CanBeCoded unit → code ≡ parts_of unit → IsPrivateCode code
private_is unit code can is = subst IsPrivateCode (sym is) (code_private unit can)

-- where there is such a code
pub if_meant : {E : Type 0} (unit : ProgramUnit) (result : Result CodeParts E) → CanBeCoded unit → IfOk result (λ code. code ≡ parts_of unit)
    → IfOk result (DoesAsMeant unit)
if_meant unit (Ok code) can is = subst (DoesAsMeant unit) (sym is) (does_as_meant unit can)
if_meant unit (Err e) can is = tt

-- code that is made of the unit of a text, and is short, may be made of the text
pub made_for : (text : List ℕ) (unit : ProgramUnit) → IsUnit text unit → CanBeCoded unit → IsShort (symbol_count text) (length (code_of unit))
    → IsCodeFor text (parts_of unit)
made_for text unit is can short =
    let does = does_as_meant unit can in
    code_for text unit (parts_of unit) is does.sound short (λ system. does.same (fresh system)) (λ system. does.through (fresh system))
    (λ system. does.calls (fresh system))

pub sound_units_can_be_coded : SoundUnitsCanBeCoded
sound_units_can_be_coded tree unit sound resolved = record {
  fits = units_fit tree unit sound resolved;
  parts = records_have_fields tree unit resolved;
  lines = lines_are_small tree unit sound.is_bounded resolved;
  short = omega (arith, code_is_short tree unit sound.is_bounded resolved);
}

-- ---- a text

pub texts_can_be_coded : TextsCanBeCoded
texts_can_be_coded text unit is =
    let known : IsSoundUnit unit = accepted_texts_are_sound text unit is in sound_units_can_be_coded known.tree unit known.sound known.resolved

short_by : (text : List ℕ) (known : Result (List Mark × ℕ) LexFault) (unit : ProgramUnit) → symbols_of text ≡ known → AreAccepted known unit
    → IsShort (extent_of known) (length (code_of unit))
short_by text (Err fault) unit e u = absurd u
short_by text (Ok known) unit e u =
    let bounded = ∣ record { marks = known.0; last = known.1; spells = u.tree_is.spells; is_bounded = symbols_bounded text known e } ∣₁ in
    omega (arith, code_is_short_for_text u.tree unit known.0 bounded u.tree_is.spells u.resolved)

texts_are_short : (text : List ℕ) (unit : ProgramUnit) → IsUnit text unit → IsShort (symbol_count text) (length (code_of unit))
texts_are_short text unit is = short_by text (symbols_of text) unit refl is

pub texts_do_as_meant : TextsDoAsMeant
texts_do_as_meant text unit is = made_for text unit is (texts_can_be_coded text unit is) (texts_are_short text unit is)

pub texts_are_private : TextsArePrivate
texts_are_private text unit is = code_private unit (texts_can_be_coded text unit is)
