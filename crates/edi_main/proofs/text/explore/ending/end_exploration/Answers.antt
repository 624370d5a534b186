-- The lines were shown, and the records were kept, or were not.
use Rattle.std.proofs.Common.{option_map}
use Rattle.edi_runs.specs.explore.Told.{findings_of}
use Rattle.edi_main.proofs.text.ExploreMeans.{ends_whole, kept_failed, kept_silent}
use Rattle.edi_main.proofs.text.explore.ending.end_exploration.Goals as goal

pub returns-in_default : goal.returns-in_default
returns-in_default g c =
    let f = findings_of c.args.explored.now.exploration in
    let end = c.keep_endings-end in
    let is = c.kept_status.ensures.exact in
    record {
      ends =
          ends_whole (option_map (λ name. name.now) c.args.record_file) f c.deref.result.now c.args.explored.now.lines.items c.show_bytes-shown.result
          (g.T.Sink.taken c.args.terminal.now) (g.T.Sink.taken c.show_bytes-shown.new.terminal) (g.F.Files.contents c.args.files.now)
          (g.F.Files.contents end.new.files) end.result c.kept_status.result c.show_bytes-shown.ensures.shows c.in_default.not-OutputFault
          c.deref.ensures.value is end.ensures.keeps end.ensures.some;
      later_files = end.ensures.later;
      later_terminal = c.show_bytes-shown.ensures.later;
      cause_files = λ e. end.ensures.cause (kept_failed f end.result c.kept_status.result is e);
      cause_terminal = λ e. absurd (kept_silent f end.result c.kept_status.result is e);
      late = c.kept_status.ensures.late;
    }
