use Rattle.std.proofs.Common.{◌≡◌, true, false}
use Rattle.edi_system.proofs.Lasting.{told_printer, valid_ready}
use Rattle.edi_system.proofs.system.System.print_out.Goals as goal

pub returns-in-Failed-clause-prints : goal.returns-in-Failed-clause-prints
returns-in-Failed-clause-prints g c = record {
  taken = c.put.result.taken;
  part = record { within = c.put.ensures.within; all = λ e. absurd (let no : false ≡ true = e in cc) };
  told = c.put.ensures.appends;
}

pub returns-in-Ok-clause-prints : goal.returns-in-Ok-clause-prints
returns-in-Ok-clause-prints g c = record {
  taken = c.put.result.taken;
  part = record { within = c.put.ensures.within; all = λ e. c.put.ensures.whole c.in-Ok.is };
  told = c.put.ensures.appends;
}

pub returns-in-Ok-clause-told : goal.returns-in-Ok-clause-told
returns-in-Ok-clause-told g c = told_printer _ _ _ _ _ _ (valid_ready _ _ _ c.requires.ready) c.put.ensures.appends

pub returns-in-Failed-clause-told : goal.returns-in-Failed-clause-told
returns-in-Failed-clause-told g c = told_printer _ _ _ _ _ _ (valid_ready _ _ _ c.requires.ready) c.put.ensures.appends
