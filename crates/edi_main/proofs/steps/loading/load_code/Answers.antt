use Rattle.std.proofs.Common.{sym, subst, Err}
use Rattle.edi_main.specs.steps.Loaded.{LoadStep}
use Rattle.edi_main.proofs.steps.LoadedFiles.{load_stops}
use Rattle.edi_main.proofs.steps.loading.load_code.Goals as goal

pub returns-in-Err : goal.returns-in-Err
returns-in-Err c = record {
  loads = subst (λ s. LoadStep c.args.bytes.now (Err s)) (sym c.load_status.ensures.exact)
      (load_stops c.args.bytes.now c.in-Err.fault c.in-Err.ensures.first);
}
