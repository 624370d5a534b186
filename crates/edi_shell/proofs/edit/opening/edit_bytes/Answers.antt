use Rattle.std.proofs.Common.{ap, inr, refl, sym}
use Rattle.edi_edit.specs.Lines.{lines_of}
use Rattle.edi_session.specs.Session.{BeginsEditing, says_no_memory}
use Rattle.edi_session.specs.Shell.{editing}
use Rattle.edi_shell.proofs.edit.Coming.{begun, begun_at, leads_comes}
use Rattle.edi_shell.proofs.edit.opening.edit_bytes.Goals as goal

pub returns-in_default-clause-exact : goal.returns-in_default-clause-exact
returns-in_default-clause-exact g c = λ bound choices s count mode a t.
    leads_comes bound choices g.C.ShellCalls.at g.C.ShellCalls.stands g.C.ShellCalls.ready g.C.ShellCalls.failed
    (BeginsEditing c.args.f.now (lines_of c.args.bytes.now) s) s (says_no_memory s) c.args.taken.now c.show.result c.show.new.self (inr refl) mode refl count
    refl c.show.ensures.left (c.show.ensures.exact s a t)

pub returns-in_default-new-clause-exact : goal.returns-in_default-new-clause-exact
returns-in_default-new-clause-exact g c = λ bound choices s count mode a t.
    leads_comes bound choices g.C.ShellCalls.at g.C.ShellCalls.stands g.C.ShellCalls.ready g.C.ShellCalls.failed
    (BeginsEditing c.args.f.now (lines_of c.args.bytes.now) s) s (says_no_memory s) c.args.taken.now c.show-in_default-new.result
    c.show-in_default-new.new.self (inr refl) mode refl count refl c.show-in_default-new.ensures.left (c.show-in_default-new.ensures.exact s a t)

pub returns-clause-exact : goal.returns-clause-exact
returns-clause-exact g c = λ bound choices s count mode a t.
    begun bound choices g.C.ShellCalls.at g.C.ShellCalls.stands c.args.f.now (lines_of c.args.bytes.now) s c.edit_lines.new.taken c.edit_lines.result
    c.edit_lines.new.calls
    (c.edit_lines.ensures.exact bound choices (begun_at c.args.f.now (lines_of c.args.bytes.now) s) count
    (ap (λ e. editing c.args.f.now e) (sym c.in-Ok-new.ensures.exact)) a t)
