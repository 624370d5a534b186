-- From what is known of the symbols of a text to the text.
use Rattle.std.proofs.Common.{◌≡◌, ℕ, List, Result, Ok, Err, refl, sym, ap, subst, length}
use Rattle.std.specs.Prelude.{IfOk}
use Rattle.edi_lex.specs.declared.symbol.Mark.{Mark}
use Rattle.edi_lex.specs.declared.symbol.Symbols.{Symbols}
use Rattle.edi_lex.specs.declared.fault.LexFault.{LexFault}
use Rattle.edi_lex.specs.Order.{extent}
use Rattle.edi_lex.specs.Symbols.{ScanGives, symbols_of}
use Rattle.edi_unit.specs.Tree.{ProgramUnit}
use Rattle.edi_unit.specs.View.{unit_of}
use Rattle.edi_unit.specs.declared.units.Unit.{Unit}
use Rattle.edi_target.specs.Check.{CodeParts}
use Rattle.edi_scheme.specs.Code.{code_of}
use Rattle.edi_texts.specs.declared.refusal.Refusal.{Refusal}
use Rattle.edi_texts.specs.Texts.{AreAccepted, HaveUnit, IsUnit}
use Rattle.edi_texts.specs.Length.{extent_of, symbol_count}
use Rattle.edi_texts.specs.Answers.{GivesBy, TextAnswers}
use Rattle.edi_texts.proofs.Once.{exactly}
use Rattle.edi_texts.proofs.Joined.{by_symbols}
use Rattle.edi_compile.specs.Compiled.{IsCodeOf, IsCompiledFrom, IsFront, IsFrontOf, IsShort}
use Rattle.edi_compile.specs.Meant.{IsPrivateCode}
use Rattle.edi_compile.proofs.Meant.{made_for, private_is}

-- the symbols that were scanned are those of the text
pub scanned_symbols : (text : List ℕ) (scanned : Result Symbols LexFault) (found : Symbols) → scanned ≡ Ok found
    → ScanGives scanned (symbols_of text) → symbols_of text ≡ Ok (found.marks, found.last)
scanned_symbols text scanned found is gives =
    let P : Result Symbols LexFault → Type 0 = λ s. ScanGives s (symbols_of text) in
    subst P is gives

unit_is : (text : List ℕ) (known : List Mark × ℕ) (unit : ProgramUnit) → symbols_of text ≡ Ok known → HaveUnit known unit → IsUnit text unit
unit_is text known unit same u =
    let P : Result (List Mark × ℕ) LexFault → Type 0 = λ k. AreAccepted k unit in
    subst P (sym same) u

short_is : (text : List ℕ) (known : List Mark × ℕ) (words : ℕ) → symbols_of text ≡ Ok known → IsShort (extent known.0) words → IsShort (symbol_count text) words
short_is text known words same s =
    let P : ℕ → Type 0 = λ n. IsShort n words in
    subst P (sym (ap extent_of same)) s

-- a unit
front_is : (text : List ℕ) (known : List Mark × ℕ) (unit : ProgramUnit) → symbols_of text ≡ Ok known → IsFront known unit → IsFrontOf text unit
front_is text known unit same f = record {
  unit_is = unit_is text known unit same f.unit_is;
  can = f.can;
  short = short_is text known (length (code_of unit)) same f.short;
}

pub front_answers : (text : List ℕ) (known : List Mark × ℕ) (result : Result Unit Refusal) → symbols_of text ≡ Ok known
    → GivesBy (λ unit. IsFront known (unit_of unit)) (Ok known) result → TextAnswers (λ unit. IsFrontOf text (unit_of unit)) text result
front_answers text known result same g =
    let Is : Unit → Type 0 = λ unit. IsFrontOf text (unit_of unit) in
    exactly Is text result (λ unit f. (unit_of unit, f.unit_is))
    (by_symbols (λ unit. IsFront known (unit_of unit)) Is (Ok known) (symbols_of text) result same (λ unit f. front_is text known (unit_of unit) same f) g)

-- a code: it is that of the unit of the text, and does what the text does
made_is : (text : List ℕ) (known : List Mark × ℕ) (code : CodeParts) → symbols_of text ≡ Ok known → IsCompiledFrom known code → IsCodeOf text code
made_is text known code same f =
    let is = unit_is text known f.unit same f.unit_is in
    record {
      unit = f.unit;
      unit_is = is;
      code_is = f.code_is;
      code_for = made_for text f.unit is f.can (subst (λ (c : CodeParts). IsShort (symbol_count text) (length c.words)) f.code_is
          (short_is text known (length code.words) same f.short));
    }

pub code_answers : (text : List ℕ) (known : List Mark × ℕ) (result : Result CodeParts Refusal) → symbols_of text ≡ Ok known
    → GivesBy (IsCompiledFrom known) (Ok known) result → TextAnswers (IsCodeOf text) text result
code_answers text known result same g =
    exactly (IsCodeOf text) text result (λ code f. (f.unit, f.unit_is))
    (by_symbols (IsCompiledFrom known) (IsCodeOf text) (Ok known) (symbols_of text) result same (λ code f. made_is text known code same f) g)

-- and its processes are private
pub code_private : (known : List Mark × ℕ) (result : Result CodeParts Refusal) → GivesBy (IsCompiledFrom known) (Ok known) result → IfOk result IsPrivateCode
code_private known (Ok code) g = private_is g.unit code g.can g.code_is
code_private known (Err refusal) g = tt
