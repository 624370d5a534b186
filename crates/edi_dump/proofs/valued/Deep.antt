-- A value in which parts stand in parts: one step into it.
use Rattle.std.proofs.Common.{◌≡◌, ℕ, zero, suc, ◌-◌, ◌<◌, List, ap, sym, arith}
use Rattle.edi_unit.specs.Types.{Shape, shape_at}
use Rattle.edi_dump.specs.values.Words.{piece_within, shape_piece}

pub within : (types : List Shape) (constants : List (List (List ℕ))) (deep left t : ℕ) (words : List ℕ) → 0 < deep
    → piece_within types constants deep left t words ≡ shape_piece types constants (piece_within types constants (deep - 1)) left t (shape_at types t) words
within types constants zero left t words some = absurd (omega (arith, some))
within types constants (suc d) left t words some =
    let one : suc d - 1 ≡ d = omega arith in
    ap (λ k. shape_piece types constants (piece_within types constants k) left t (shape_at types t) words) (sym one)
