use Rattle.std.proofs.Common.{◌≡◌, subst}
use Rattle.std.specs.Prelude.{IfOk}
use Rattle.edi_timeline.specs.Text.{text_of}
use Rattle.edi_timeline.specs.Timelines.{Told}
use Rattle.edi_timeline.proofs.timeline.Timeline.text.Goals as goal

pub returns : goal.returns
returns c = record {
  exact =
      subst (λ (t : Told). IfOk c.text_in.result (λ bytes. bytes.items ≡ text_of t.count t.ending t.stints)) c.self.view_is c.text_in.ensures.exact;
}
