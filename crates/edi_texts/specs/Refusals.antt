-- Definition. How the faults of the three passes are told: by the pass, the kind and the line.
use Rattle.std.specs.Prelude.{ℕ}
use Rattle.edi_lex.specs.declared.fault.LexFault.{LexFault}
use Rattle.edi_lex.specs.declared.fault.LexFault.TheVariants as lex
use Rattle.edi_syntax.specs.declared.fault.SyntaxFault.{SyntaxFault}
use Rattle.edi_syntax.specs.declared.fault.SyntaxFault.TheVariants as syntax
use Rattle.edi_static.specs.declared.faults.StaticKind.{StaticKind}
use Rattle.edi_static.specs.declared.faults.StaticKind.TheVariants as static
use Rattle.edi_static.specs.declared.faults.StaticFault.{StaticFault}
use Rattle.edi_static.specs.declared.faults.StaticFault.TheVariants as broken
use Rattle.edi_texts.specs.declared.kind.RefusalKind.{RefusalKind}
use Rattle.edi_texts.specs.declared.kind.RefusalKind.TheVariants as kind
use Rattle.edi_texts.specs.declared.refusal.Pass.TheVariants.{Lexical, Syntactic, Semantic}
use Rattle.edi_texts.specs.declared.refusal.Refusal.{Refusal}
use Rattle.edi_texts.specs.declared.refusal.Refusal.TheVariants.{At, NoMemory}

-- a lexical fault; a text that is too long has line 0
abbrev pub lexical_refusal : LexFault → Refusal
lexical_refusal lex.TooLong = At Lexical kind.TextTooLong 0
lexical_refusal (lex.BadCharacter line) = At Lexical kind.InvalidCharacter line
lexical_refusal (lex.BadNumeral line) = At Lexical kind.InvalidNumeral line
lexical_refusal lex.NoMemory = NoMemory

-- a syntax fault
abbrev pub syntax_refusal : SyntaxFault → Refusal
syntax_refusal (syntax.Syntax line index) = At Syntactic kind.InvalidSyntax line
syntax_refusal (syntax.TooDeep line index) = At Syntactic kind.NestingTooDeep line
syntax_refusal (syntax.NotInProfile line index) = At Syntactic kind.NotInProfile line
syntax_refusal syntax.NoMemory = NoMemory

-- the kind of a broken static rule
abbrev pub kind_of : StaticKind → RefusalKind
kind_of static.Undeclared = kind.UndeclaredName
kind_of static.Ambiguous = kind.AmbiguousName
kind_of static.Kind = kind.InvalidNameKind
kind_of static.Types = kind.IncompatibleTypes
kind_of static.Range = kind.InvalidRange
kind_of static.Call = kind.InvalidCall
kind_of static.Constructor = kind.InvalidConstructor
kind_of static.Split = kind.InvalidSplitProcedure
kind_of static.Heading = kind.InvalidProgramHeading
kind_of static.NotInProfile = kind.NotInProfile

-- a construct on this line that breaks a static rule
abbrev pub static_refusal : StaticKind → (line : ℕ) → Refusal
static_refusal why line = At Semantic (kind_of why) line

abbrev pub static_refusal_of : StaticFault → Refusal
static_refusal_of (broken.At why line) = static_refusal why line
static_refusal_of broken.NoMemory = NoMemory
