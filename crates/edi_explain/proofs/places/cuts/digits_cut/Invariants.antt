use Rattle.std.proofs.Common.{◌≡◌, ◌≤◌, ◌∷◌, drop}
use Rattle.edi_lex.specs.Spelling.{number_from}
use Rattle.edi_explain.proofs.places.cuts.digits_cut.Given as goal

-- the value so far, followed by the digits from here on, is the number
abbrev pub invariant-loop-digit : goal.invariant-loop-digit
invariant-loop-digit l = record {
  small : l.value ≤ 32767;
  goes_on : number_from l.value (drop l.digit-index l.digits) ≡ number_from 0 (l.first ∷ l.digits);
}
