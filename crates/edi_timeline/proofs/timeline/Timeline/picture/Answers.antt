use Rattle.std.proofs.Common.{◌≡◌, subst}
use Rattle.std.specs.Prelude.{IfOk}
use Rattle.edi_timeline.specs.Picture.{picture_of}
use Rattle.edi_timeline.specs.Timelines.{Told}
use Rattle.edi_timeline.proofs.timeline.Timeline.picture.Goals as goal

pub returns : goal.returns
returns c = record {
  exact =
      subst (λ (t : Told). IfOk c.picture_in.result (λ bytes. bytes.items ≡ picture_of t.count t.ending t.stints)) c.self.view_is c.picture_in.ensures.exact;
}
