use Rattle.std.proofs.Common.{Some, refl}
use Rattle.std.proofs.lemmas.Option.{IfSome_then}
use Rattle.edi_dump.specs.Views.{program_of}
use Rattle.edi_dumped.proofs.run.dump_text.Goals as goal

pub returns : goal.returns
returns c = record {
  tells = IfSome_then c.dump_known.result c.dump_known.ensures.tells
      (λ told tells. (Some (program_of c.in-Some.known), (program_of c.in-Some.known, c.in-Some.ensures.known, refl), tells));
}
