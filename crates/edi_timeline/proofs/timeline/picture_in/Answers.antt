use Rattle.std.proofs.Common.{◌≡◌, List, option_map, subst}
use Rattle.std.specs.Prelude.{IfOk}
use Rattle.edi_timeline.specs.declared.rows.Row.{Row}
use Rattle.edi_timeline.specs.Told.{meant, stints_in}
use Rattle.edi_timeline.specs.Picture.{picture_of}
use Rattle.edi_timeline.proofs.timeline.picture_in.Goals as goal

pub returns : goal.returns
returns c = record {
  exact =
      subst (λ (rs : List Row). IfOk c.picture_of.result (λ bytes. bytes.items
      ≡ picture_of c.args.kept.now.count (option_map meant c.args.kept.now.ended) (stints_in c.args.kept.now.ending rs 0 rs)))
      c.deref.ensures.value c.picture_of.ensures.exact;
}
