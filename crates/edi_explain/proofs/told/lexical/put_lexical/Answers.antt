use Rattle.std.proofs.Common.{Err, subst}
use Rattle.edi_lex.specs.Symbols.{ScanGives, symbols_of}
use Rattle.edi_lex.specs.declared.fault.LexFault.TheVariants as lex
use Rattle.edi_explain.proofs.told.Whole.{stray_scanned}
use Rattle.edi_explain.proofs.told.lexical.put_lexical.Goals as goal

pub put_character-requires : goal.put_character-requires
put_character-requires c = record {
  has = stray_scanned c.args.text.now (lex.BadCharacter c.in-BadCharacter.line) (λ e. cc)
      (subst (λ f. ScanGives (Err f) (symbols_of c.args.text.now)) c.in-BadCharacter.is c.requires.told);
}

pub stray_of-requires : goal.stray_of-requires
stray_of-requires c = record {
  has = stray_scanned c.args.text.now (lex.BadNumeral c.in-BadNumeral.line) (λ e. cc)
      (subst (λ f. ScanGives (Err f) (symbols_of c.args.text.now)) c.in-BadNumeral.is c.requires.told);
}
