-- A process that has branches.
use Rattle.std.proofs.Common.{◌++◌, List, ℕ, sym, ap, ◌∙◌}
use Rattle.edi_dump.proofs.Processes.{steps_are}
use Rattle.edi_dump.proofs.names.put_process.Goals as goal

pub returns : goal.returns
returns c = record {
  exact =
      c.in_ok-put_steps.ensures.exact
      ∙ ap (λ (xs : List ℕ). c.args.out.now.items ++ xs) (sym (steps_are c.args.process.now (sym c.is_empty.ensures ∙ c.if-is_empty.false)));
}
