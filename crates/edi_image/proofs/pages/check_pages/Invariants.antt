use Rattle.std.proofs.Common.{◌≡◌, ◌++◌, true, take, drop}
use Rattle.std.specs.List.{list_all}
use Rattle.edi_image.specs.Rules.{first_broken, page_rules}
use Rattle.edi_image.specs.Entries.{is_data}
use Rattle.edi_image.proofs.pages.check_pages.Given as goal

abbrev pub invariant-loop-page : goal.invariant-loop-page
invariant-loop-page l = record {
  rules : first_broken l.initial.used.items (page_rules l.first l.count l.slot l.pages)
      ≡ first_broken l.used.items (page_rules l.first l.count l.slot (drop l.page-index l.pages));
  used : l.used.items ≡ l.initial.used.items ++ take l.page-index l.pages;
  range : list_all (is_data l.first l.count) (take l.page-index l.pages) ≡ true;
}
