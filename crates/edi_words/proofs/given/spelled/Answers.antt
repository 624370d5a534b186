use Rattle.std.proofs.Common.{rules, ◌≡◌, ◌∙◌, ◌<◌, ◌≤◌, ap, sym, arith, true, length}
use Rattle.std.specs.Result.{result_ok}
use Rattle.edi_words.specs.Words.{are_digits}
use Rattle.edi_words.proofs.Numbers.{spelled_is, spelled_some}
use Rattle.edi_words.proofs.given.spelled.Goals as goal

pub returns : goal.returns
returns c =
    let least : 0 < length c.args.word.now = grind arith in
    let most : length c.args.word.now ≤ 10 = omega arith in
    let digits : are_digits c.args.word.now ≡ true = search rules in
    c.ok.ensures.value ∙ ap result_ok (spelled_is c.args.word.now c.parse.result c.parse.ensures.value.0 least most digits)
    ∙ sym (spelled_some c.args.word.now least most digits)
