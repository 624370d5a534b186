-- A further number behind a path.
use Rattle.std.proofs.Common.{◌≡◌, ℕ, List, [], ◌∷◌, ◌++◌, refl}
use Rattle.edi_unit.specs.Types.{Shape}
use Rattle.edi_unit.specs.Tree.{Block}
use Rattle.edi_scheme.specs.Sites.{Site, into, led}

pub led_behind : (types : List Shape) (blocks : List Block) (b : ℕ) (x : Site) (path : List ℕ) (n : ℕ) →
    led types blocks b x (path ++ n ∷ []) ≡ into types blocks b (led types blocks b x path) n
led_behind types blocks b x [] n = refl
led_behind types blocks b x (m ∷ path) n = led_behind types blocks b (into types blocks b x m) path n
