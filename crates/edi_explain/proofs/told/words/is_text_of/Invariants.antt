use Rattle.std.proofs.Common.{◌≡◌, drop}
use Rattle.std.specs.List.{list_any}
use Rattle.std.specs.Str.{bytes_eq}
use Rattle.edi_explain.specs.told.Tables.{texts_of}
use Rattle.edi_explain.proofs.told.words.is_text_of.Given as goal

abbrev pub invariant-loop-text : goal.invariant-loop-text
invariant-loop-text l =
    list_any (bytes_eq l.letters) (texts_of (drop l.text-index l.texts)) ≡ list_any (bytes_eq l.letters) (texts_of l.texts)
