-- Definition. The texts that tell the kinds of faults.
use Rattle.std.specs.Prelude.{ℕ, List, codes}
use Rattle.edi_texts.specs.declared.kind.RefusalKind.{RefusalKind}
use Rattle.edi_texts.specs.declared.kind.RefusalKind.TheVariants as kind

abbrev pub kind_text : RefusalKind → List ℕ
kind_text kind.InvalidCharacter = codes "invalid character"
kind_text kind.InvalidNumeral = codes "invalid numeral"
kind_text kind.TextTooLong = codes "text too long"
kind_text kind.InvalidSyntax = codes "invalid syntax"
kind_text kind.NestingTooDeep = codes "nesting too deep"
kind_text kind.NotInProfile = codes "not in profile"
kind_text kind.UndeclaredName = codes "undeclared name"
kind_text kind.AmbiguousName = codes "ambiguous name"
kind_text kind.InvalidNameKind = codes "invalid name kind"
kind_text kind.IncompatibleTypes = codes "incompatible types"
kind_text kind.InvalidRange = codes "invalid range"
kind_text kind.InvalidCall = codes "invalid call"
kind_text kind.InvalidConstructor = codes "invalid constructor"
kind_text kind.InvalidSplitProcedure = codes "invalid split procedure"
kind_text kind.InvalidProgramHeading = codes "invalid program heading"
