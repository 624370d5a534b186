-- Words of contracts. What a call answers that reads a text.
use Rattle.std.specs.Prelude.{◌≡◌, ◌⊎◌, ℕ, List, Result, Ok, Err, IfErr, ⊤}
use Rattle.edi_lex.specs.declared.symbol.Mark.{Mark}
use Rattle.edi_lex.specs.declared.fault.LexFault.{LexFault}
use Rattle.edi_lex.specs.Symbols.{symbols_of}
use Rattle.edi_unit.specs.Tree.{ProgramUnit}
use Rattle.edi_texts.specs.declared.kind.RefusalKind.{RefusalKind}
use Rattle.edi_texts.specs.declared.refusal.Pass.{Pass}
use Rattle.edi_texts.specs.declared.refusal.Refusal.{Refusal}
use Rattle.edi_texts.specs.declared.refusal.Refusal.TheVariants.{At, NoMemory}
use Rattle.edi_texts.specs.Texts.{AreRefused, IsFault, IsUnit}

-- by what is known of the symbols: what it gives is such, or the fault is their first; memory may be wanting at any text
abbrev pub GivesBy : {A : Type 0} → (A → Type 0) → Result (List Mark × ℕ) LexFault → Result A Refusal → Type 0
GivesBy Is known (Ok a) = Is a
GivesBy Is known (Err (At pass kind line)) = AreRefused known pass kind line
GivesBy Is known (Err NoMemory) = ⊤

-- what it gives is such, or the fault is the first of the text; memory may be wanting at any text
abbrev pub Gives : {A : Type 0} → (A → Type 0) → List ℕ → Result A Refusal → Type 0
Gives Is text result = GivesBy Is (symbols_of text) result

-- So it answers, and exactly so: a first fault is always told, and a text that has a unit is never refused, unless memory is
-- wanting.
pub record TextAnswers {A : Type 0} (Is : A → Type 0) (text : List ℕ) (result : Result A Refusal) : Type 0 where
  pub gives : Gives Is text result
  pub refused : (pass : Pass) (kind : RefusalKind) (line : ℕ) → IsFault text pass kind line → (result ≡ Err (At pass kind line)) ⊎ (result ≡ Err NoMemory)
  pub accepted : (unit : ProgramUnit) → IsUnit text unit → IfErr result (λ r. r ≡ NoMemory)
