use Rattle.std.proofs.Common.{◌≡◌, ◌∙◌, Some, None, ap, unwrap_or}
use Rattle.edi_image.specs.Titles.{title_from}
use Rattle.edi_main.proofs.disk.TitleTexts.{own_title}
use Rattle.edi_main.proofs.disk.titles.title_of.Goals as goal

pub unreachable-requires : goal.unreachable-requires
unreachable-requires c =
    let wrong : None ≡ Some c.args.characters.now =
    c.in-None.ensures.exact ∙ ap title_from c.as_bytes.ensures.value ∙ own_title c.args.characters.now c.requires.title in
    cc

pub returns : goal.returns
returns c =
    let is : Some c.in-Some.title ≡ Some c.args.characters.now =
    c.in-Some.ensures.exact ∙ ap title_from c.as_bytes.ensures.value ∙ own_title c.args.characters.now c.requires.title in
    record { exact = ap (λ o. unwrap_or o c.args.characters.now) is }
