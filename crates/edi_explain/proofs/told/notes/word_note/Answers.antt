use Rattle.std.proofs.Common.{None, ◌∙◌, ap, sym}
use Rattle.std.specs.Prelude.{if◌then◌else◌}
use Rattle.edi_explain.specs.declared.told.foreign.TheConstants as foreign
use Rattle.edi_explain.specs.told.Notes as spec
use Rattle.edi_explain.proofs.told.notes.word_note.Goals as goal

pub returns : goal.returns
returns c = record {
  exact = c.note_beside.ensures.exact
      ∙ ap (λ b. if b then None else spec.note_beside foreign.WORDS c.args.word.now) (sym c.if-is_introduced.false ∙ c.is_introduced.ensures.exact);
}
