-- The processes are those of the machine, and the text is theirs.
use Rattle.std.proofs.Common.{◌∙◌, ap, map}
use Rattle.std.specs.Option.{option_map}
use Rattle.edi_timeline.specs.Told.{meant}
use Rattle.edi_waits.specs.Left.{told_end}
use Rattle.edi_dump.specs.Text.{dump_text}
use Rattle.edi_dump.specs.Views.{program_of}
use Rattle.edi_dump.proofs.Ends.{tells}
use Rattle.edi_dump.proofs.dump.dump_of.Goals as goal

pub returns : goal.returns
returns c =
    let known = option_map (λ k. program_of k.now) c.args.known in
    let store = c.args.kernel.now.store in
    let words = c.args.code.now.words in
    record {
      tells = λ s bound old new named.
          tells known c.args.code.now s bound old store (map told_end c.in_ok-processes.processes.items) _ c.args.ending
          (c.in_ok-processes.ensures.exact c.args.code.now s bound old new c.args.ending named)
          (c.in_ok-text.ensures.exact ∙ ap (λ ps. dump_text known words store (meant c.args.ending) (map told_end ps)) c.as_slice.ensures.value);
    }
