-- What is kept at an index within an array, whatever is read past its end.
use Rattle.std.proofs.Common.{◌≡◌, ℕ, ◌<◌, List, length, get_or}
use Rattle.std.specs.Prelude.{Option, None}
use Rattle.std.proofs.lemmas.List.{get_or_default}
use Rattle.edi_ring.specs.declared.Row.{Row}
use Rattle.edi_ring.specs.Links.{no_row}

pub link_there : (links : List (Option ℕ)) (node : ℕ) (d : Option ℕ) → node < length links → get_or links node d ≡ get_or links node None
link_there links node d lt = get_or_default links node d None lt

pub row_there : (rows : List Row) (list : ℕ) (d : Row) → list < length rows → get_or rows list d ≡ get_or rows list no_row
row_there rows list d lt = get_or_default rows list d no_row lt
