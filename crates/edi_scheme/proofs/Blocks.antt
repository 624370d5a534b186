-- The code of a unit that fits stands in its words.
use Rattle.std.proofs.Common.{[], length, sym, arith}
use Rattle.std.proofs.lemmas.List.{append-nil}
use Rattle.edi_target.specs.Fetch.{fetch}
use Rattle.edi_scheme.specs.Pieces.{Code, words_of_code}
use Rattle.edi_scheme.specs.Code.{blocks_code, code_of}
use Rattle.edi_scheme.specs.Laws.{CodeStands, CodeIsLong}
use Rattle.edi_scheme.proofs.Laid.{Laid, laid_words}
use Rattle.edi_scheme.proofs.Lengths.{blocks_are_long}
use Rattle.edi_scheme.proofs.Standing.{are_blocks}
use Rattle.edi_scheme.proofs.Fine.{blocks_allowed}

pub code_stands : CodeStands
code_stands unit fits parts n inside =
    let code : Code = blocks_code unit.types unit.blocks (length unit.blocks) in
    let allowed = blocks_allowed unit.types fits.table parts fits.shapes unit.blocks fits.headings fits.fits_blocks (length unit.blocks) (omega arith) in
    let laid : Laid (fetch (code_of unit)) code 0 = laid_words (code_of unit) code 0 [] allowed (sym (append-nil (words_of_code code))) in
    are_blocks (fetch (code_of unit)) unit.types unit.blocks (length unit.blocks) n inside laid

pub code_is_long : CodeIsLong
code_is_long unit = (blocks_are_long unit.types unit.blocks (length unit.blocks)).is
