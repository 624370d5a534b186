use Rattle.std.proofs.Common.{Some, option_map, ap, sym, ◌∙◌}
use Rattle.std.specs.FinMap as map
use Rattle.edi_host.proofs.FileMaps.{get-contents_in}
use Rattle.edi_host.proofs.steady.files.SteadyFiles.get.Goals as goal

pub returns-in_err-get : goal.returns-in_err-get
returns-in_err-get c = record {
  found = ap (option_map (λ bytes. bytes.now)) c.from_residual.ensures
      ∙ ap (option_map (λ v. v.items)) c.in_err-get.ensures.value
      ∙ sym (get-contents_in c.self.inside.files c.args.name.now)
      ∙ ap (λ contents. map.get contents c.args.name.now) c.self.view_is;
}

pub returns : goal.returns
returns c = record {
  found = ap Some c.as_slice.ensures.value
      ∙ ap (option_map (λ v. v.items)) c.in_ok-get.ensures.value
      ∙ sym (get-contents_in c.self.inside.files c.args.name.now)
      ∙ ap (λ contents. map.get contents c.args.name.now) c.self.view_is;
}
