use Rattle.std.proofs.Common.{◌++◌, ◌∙◌, ap, append_assoc}
use Rattle.std.specs.Prelude.{codes, decimal}
use Rattle.edi_runs.proofs.explore.waiting.put_waiting.Goals as goal

pub returns : goal.returns
returns c = record {
  exact =
      c.in_ok-put_number.ensures.exact
      ∙ ap (λ n. c.extend_from_slice.new.self.items ++ decimal n) c.from.ensures
      ∙ ap (λ l. l ++ decimal c.args.line) c.in_ok-extend_from_slice.ensures.items
      ∙ append_assoc c.args.out.now.items (codes " waits at line ") (decimal c.args.line);
}
