use Rattle.std.proofs.Common.{◌≡◌, suc, ◌∙◌, ap, arith}
use Rattle.std.specs.Prelude.{Some}
use Rattle.edi_edit.specs.Lines.{line_numbered}
use Rattle.edi_edit.specs.Editing.{Editing}
use Rattle.edi_edit.specs.Steps.{plain}
use Rattle.edi_edit.proofs.Single.{line_at_is}
use Rattle.edi_edit.proofs.Text.line.Goals as goal

pub returns : goal.returns
returns c =
    let found = c.in_ok-line.ensures.lookup in
    let at : c.args.at ≡ suc c.in_ok-index.index = omega (arith, c.in_ok-index.ensures) in
    record {
      exact =
          ap (λ bytes. Some bytes) c.as_slice.ensures.value
          ∙ line_at_is _ _ _ _ at found.3.0 found.1
          ∙ ap (λ lines. line_numbered (plain lines) c.args.at) c.deref.ensures.value
          ∙ ap (λ (e : Editing). line_numbered e.lines c.args.at) c.self.view_is;
    }
