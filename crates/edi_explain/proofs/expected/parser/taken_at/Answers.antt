use Rattle.std.proofs.Common.{◌∙◌, ℕ, List, Bor, ap, drop}
use Rattle.edi_explain.specs.expected.Numbered.{first_taken, rule_rows}
use Rattle.edi_explain.specs.told.Tables.{pairs_of}
use Rattle.edi_explain.proofs.expected.Rows.{drop_each}
use Rattle.edi_explain.proofs.expected.parser.taken_at.Goals as goal

pub returns : goal.returns
returns c = record {
  exact = c.first_taken.ensures.exact ∙ ap (λ l. first_taken (pairs_of l) c.args.kind) c.rules_from.ensures.exact
      ∙ ap (λ l. first_taken l c.args.kind) (drop_each (λ (b : Bor (List ℕ) × Bor (List ℕ)). (b.0.now, b.1.now)) c.start_in-start.result _)
      ∙ ap (λ n. first_taken (drop n rule_rows) c.args.kind) c.start_in-start.ensures.exact;
}
