use Rattle.std.proofs.Common.{◌≡◌, ◌≤◌, ◌-◌, ℕ, List, Ok, length}
use Rattle.edi_lex.specs.Symbols.{symbols_from}
use Rattle.edi_lex.specs.declared.symbol.Mark.{Mark}
use Rattle.edi_explain.proofs.places.Skips.{Goes}
use Rattle.edi_explain.proofs.places.cuts.place_of.Given as goal

abbrev pub invariant-loop-at : goal.invariant-loop-at
invariant-loop-at l = record {
  small : l.at ≤ length l.bytes;
  goes : (found : List Mark × ℕ) → symbols_from l.bytes 0 1 ≡ Ok found → Goes l.bytes l.index l.at l.left;
}

abbrev pub decreases-loop-at : goal.decreases-loop-at
decreases-loop-at l = length l.bytes - l.at
