-- Helper. The shell to which a command leads that takes no further line, makes no code and runs none.
use Rattle.std.specs.Prelude.{true, false, codes}
use Rattle.edi_session.specs.declared.line.Line.{Line}
use Rattle.edi_session.specs.declared.line.Line.TheVariants as line
use Rattle.edi_session.specs.Files.{copies_to, deletes, file_in, protects, renames, with_file, with_text}
use Rattle.edi_session.specs.Shell.{Shell, on_fresh_line, printed_by, says, shown_by, state_in}
use Rattle.edi_session.specs.Texts.{catalogue_text}

-- nothing is done by the others
abbrev pub done_by : Line → Shell → Shell
done_by line.Bad s = says (codes "bad command") s
done_by line.Catalogue s = shown_by (catalogue_text (state_in s)) s
done_by (line.Show f) s = with_file (file_in s f) f (with_text f (λ bytes s. on_fresh_line (shown_by bytes s))) s
done_by (line.Print f) s = with_file (file_in s f) f (with_text f printed_by) s
done_by (line.Copy f g) s = with_file (file_in s f) f (copies_to g) s
done_by (line.Rename f g) s = renames f g s
done_by (line.Delete f) s = deletes f s
done_by (line.Protect f) s = protects true f s
done_by (line.Release f) s = protects false f s
done_by _ s = s
