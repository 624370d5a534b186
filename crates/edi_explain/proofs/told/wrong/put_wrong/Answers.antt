use Rattle.std.proofs.Common.{◌∙◌, take, ap, sym}
use Rattle.edi_explain.specs.expected.Opened.{opened}
use Rattle.edi_explain.specs.told.Explained.{innermost}
use Rattle.edi_explain.specs.told.Names.{before_of as before_at}
use Rattle.edi_explain.specs.told.Source.{line_bytes as bytes_of}
use Rattle.edi_explain.specs.told.Tables.{may_of}
use Rattle.std.specs.Prelude.{slice_get}
use Rattle.edi_explain.proofs.told.Parts.{put_parts}
use Rattle.edi_explain.proofs.told.wrong.put_wrong.Goals as goal

pub returns : goal.returns
returns c =
    put_parts c.args.text.now c.args.symbols.now.marks c.args.symbols.now.last c.args.index (may_of c.args.expected) c.put_note.result _ _ _ _ _ _ _ _ _ _ _ _
    c.as_slice-marks.ensures.all
    (c.mark_at-here.ensures.exact ∙ ap (λ m. slice_get m c.args.index) c.as_slice-marks.ensures.all)
    (c.before_of-before.ensures.exact ∙ ap (λ m. before_at m c.args.index) c.as_slice-marks.ensures.all)
    (c.deref.ensures.value ∙ c.in_ok-held.ensures.exact ∙ ap opened c.marks_to.ensures.exact
    ∙ ap (λ m. opened (take c.args.index m)) c.as_slice-marks.ensures.all)
    (c.line_bytes.ensures.exact ∙ ap (λ n. bytes_of c.args.text.now n) c.line_of.ensures.exact) c.seen_at-seen.ensures.exact
    (c.innermost.ensures.exact ∙ ap innermost (c.deref-2.ensures.value ∙ sym c.deref.ensures.value)) c.in_ok-put_place.ensures
    c.in_ok-put_instead.ensures c.in_ok-put_all_held.ensures c.put_note.ensures
