use Rattle.std.proofs.Common.{◌≡◌, drop}
use Rattle.std.specs.Prelude.{map}
use Rattle.edi_unit.specs.View.{links, link_of}
use Rattle.edi_unit.specs.Need as spec
use Rattle.edi_unit.proofs.typing.links_type.Given as goal

abbrev pub invariant-loop-link : goal.invariant-loop-link
invariant-loop-link l = spec.links_type l.of (links (map link_of (drop l.link-index l.link-items))) ≡ spec.links_type l.left (links (map link_of l.link-items))
