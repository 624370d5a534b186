use Rattle.std.proofs.Common.{rules, ◌≡◌, [], ◌∷◌, suc, arith, length, drop, ◌<◌, ◌∙◌, ap, sym}
use Rattle.std.proofs.lemmas.List.{at_drop_all}
use Rattle.edi_lex.specs.Spelling.{number_from}
use Rattle.edi_lex.proofs.Numbers.{number_of-above}
use Rattle.edi_explain.proofs.places.Numerals.{too_great_cut, fits_cut}
use Rattle.edi_explain.proofs.places.cuts.digits_cut.Goals as goal

pub returns-then-value-gt32767 : goal.returns-then-value-gt32767
returns-then-value-gt32767 c =
    let within : suc c.loop-digit.digit-index < length (c.args.first ∷ c.args.digits.now) = omega (arith, c.loop-digit-test.true) in record {
      exact = too_great_cut (c.args.first ∷ c.args.digits.now) (length c.args.digits.now)
          (number_of-above (c.args.first ∷ c.args.digits.now) (suc c.loop-digit.digit-index) c.loop-digit.value within c.loop-digit.invariant.goes_on (omega arith));
      within = tt;
    }

pub returns : goal.returns
returns c =
    let none : drop c.loop-digit.digit-index c.args.digits.now ≡ [] = at_drop_all (λ l. l) c.args.digits.now c.loop-digit.digit-index (search rules) in
    let value : c.loop-digit.value ≡ number_from 0 (c.args.first ∷ c.args.digits.now) =
    ap (λ l. number_from c.loop-digit.value l) (sym none) ∙ c.loop-digit.invariant.goes_on in record {
      exact = fits_cut (c.args.first ∷ c.args.digits.now) c.loop-digit.value _ _ value c.loop-digit.invariant.small (search rules);
      within = (search rules);
    }
