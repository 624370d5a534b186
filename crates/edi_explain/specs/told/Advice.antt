-- Definition. THE ADVICE: for each kind of fault what it is and what to do, in a few lines that stand in the code.
use Rattle.std.specs.Prelude.{ℕ, List}
use Rattle.edi_texts.specs.declared.kind.RefusalKind.{RefusalKind}
use Rattle.edi_texts.specs.declared.kind.RefusalKind.TheVariants as kind
use Rattle.edi_explain.specs.declared.told.advice.TheConstants as say

abbrev pub advice_of : RefusalKind → List ℕ
advice_of kind.InvalidCharacter = say.INVALID_CHARACTER.now
advice_of kind.InvalidNumeral = say.INVALID_NUMERAL.now
advice_of kind.TextTooLong = say.TEXT_TOO_LONG.now
advice_of kind.InvalidSyntax = say.INVALID_SYNTAX.now
advice_of kind.NestingTooDeep = say.NESTING_TOO_DEEP.now
advice_of kind.NotInProfile = say.NOT_IN_PROFILE.now
advice_of kind.UndeclaredName = say.UNDECLARED_NAME.now
advice_of kind.AmbiguousName = say.AMBIGUOUS_NAME.now
advice_of kind.InvalidNameKind = say.INVALID_NAME_KIND.now
advice_of kind.IncompatibleTypes = say.INCOMPATIBLE_TYPES.now
advice_of kind.InvalidRange = say.INVALID_RANGE.now
advice_of kind.InvalidCall = say.INVALID_CALL.now
advice_of kind.InvalidConstructor = say.INVALID_CONSTRUCTOR.now
advice_of kind.InvalidSplitProcedure = say.INVALID_SPLIT_PROCEDURE.now
advice_of kind.InvalidProgramHeading = say.INVALID_PROGRAM_HEADING.now
