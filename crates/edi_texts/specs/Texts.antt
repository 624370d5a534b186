-- Definition. What a text is: a text with a first fault, or one that is accepted and has a unit. The faults come in this order: the text
-- is too long; its first lexical fault; its syntax fault; the first construct of its tree that breaks a static rule.
use Rattle.std.specs.Prelude.{◌≡◌, ◌⊎◌, ℕ, List, Result, Ok, Err}
use Rattle.edi_lex.specs.declared.symbol.Mark.{Mark}
use Rattle.edi_lex.specs.declared.fault.LexFault.{LexFault}
use Rattle.edi_lex.specs.Symbols.{symbols_of}
use Rattle.edi_tree.specs.Tree.{Program}
use Rattle.edi_grammar.specs.derivation.Faults.{IsTheTree}
use Rattle.edi_syntax.specs.Refusal.{IsSyntaxFault}
use Rattle.edi_syntax.specs.declared.fault.SyntaxFault.{SyntaxFault}
use Rattle.edi_static.specs.declared.faults.StaticKind.{StaticKind}
use Rattle.edi_static.specs.Programs.{FirstStatic, Resolved}
use Rattle.edi_unit.specs.Tree.{ProgramUnit}
use Rattle.edi_texts.specs.declared.kind.RefusalKind.{RefusalKind}
use Rattle.edi_texts.specs.declared.refusal.Pass.{Pass}
use Rattle.edi_texts.specs.declared.refusal.Refusal.TheVariants.{At}
use Rattle.edi_texts.specs.Refusals.{lexical_refusal, syntax_refusal, static_refusal}

-- The symbols have a syntax fault that is told so. The second part of what is known of them is the line of the end of the text.
pub record HaveSyntaxFault (known : List Mark × ℕ) (pass : Pass) (kind : RefusalKind) (line : ℕ) : Type 0 where
  pub fault : SyntaxFault
  pub is : IsSyntaxFault known.0 known.1 fault
  pub refusal : syntax_refusal fault ≡ At pass kind line

-- The symbols are those of a tree whose first construct that breaks a static rule is told so.
pub record HaveStaticFault (known : List Mark × ℕ) (pass : Pass) (kind : RefusalKind) (line : ℕ) : Type 0 where
  pub tree : Program
  pub tree_is : IsTheTree known.0 tree
  pub why : StaticKind
  pub at : ℕ
  pub first : FirstStatic tree why at
  pub refusal : static_refusal why at ≡ At pass kind line

-- The symbols are those of a tree that is resolved to this unit.
pub record HaveUnit (known : List Mark × ℕ) (unit : ProgramUnit) : Type 0 where
  pub tree : Program
  pub tree_is : IsTheTree known.0 tree
  pub resolved : Resolved tree unit

-- by what is known of the symbols: they have a lexical fault, or there they are
abbrev pub AreRefused : Result (List Mark × ℕ) LexFault → Pass → RefusalKind → (line : ℕ) → Type 0
AreRefused (Err fault) pass kind line = lexical_refusal fault ≡ At pass kind line
AreRefused (Ok known) pass kind line = HaveSyntaxFault known pass kind line ⊎ HaveStaticFault known pass kind line

abbrev pub AreAccepted : Result (List Mark × ℕ) LexFault → ProgramUnit → Type 0
AreAccepted (Err fault) unit = ⊥
AreAccepted (Ok known) unit = HaveUnit known unit

-- FIRST FAULT: the text has this first fault, of this pass, on this line
abbrev pub IsFault : List ℕ → Pass → RefusalKind → (line : ℕ) → Type 0
IsFault text pass kind line = AreRefused (symbols_of text) pass kind line

-- the text is refused so, by whatever pass
abbrev pub IsRefused : List ℕ → RefusalKind → (line : ℕ) → Type 0
IsRefused text kind line = (pass : Pass) × IsFault text pass kind line

-- the text is accepted, and this is its unit
abbrev pub IsUnit : List ℕ → ProgramUnit → Type 0
IsUnit text unit = AreAccepted (symbols_of text) unit
