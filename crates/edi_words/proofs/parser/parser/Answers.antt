use Rattle.std.proofs.Common.{◌≡◌, ◌∙◌, ap, ap₂, true}
use Rattle.std.proofs.lemmas.Result.{IfOk-weaker}
use Rattle.clap.specs.Simple.{app_of, app_of_fields, with_rule, on_top}
use Rattle.edi_words.specs.Inside.{bare}
use Rattle.edi_words.proofs.parser.parser.Goals as goal

pub returns : goal.returns
returns c =
    let bare_is : app_of c.no_binary_name.result ≡ bare =
    ap app_of_fields c.no_binary_name.ensures
    ∙ ap (on_top (λ s. record s { no_binary_name = true })) (ap app_of_fields c.disable_help_flag.ensures
    ∙ ap (on_top (λ s. record s { disable_help_flag = true })) c.new.ensures.app) in
    let one = c.in_ok-arg.ensures.shape c.option_of.ensures.local ∙ ap₂ with_rule bare_is c.option_of.ensures.rule in
    let two = c.in_ok-arg-2.ensures.shape c.option_of-2.ensures.local ∙ ap₂ with_rule one c.option_of-2.ensures.rule in
    let three = c.in_ok-arg-3.ensures.shape c.option_of-3.ensures.local ∙ ap₂ with_rule two c.option_of-3.ensures.rule in
    let four = c.in_ok-arg-4.ensures.shape c.option_of-4.ensures.local ∙ ap₂ with_rule three c.option_of-4.ensures.rule in
    let five = c.in_ok-arg-5.ensures.shape c.option_of-5.ensures.local ∙ ap₂ with_rule four c.option_of-5.ensures.rule in
    let six = c.in_ok-arg-6.ensures.shape c.option_of-6.ensures.local ∙ ap₂ with_rule five c.option_of-6.ensures.rule in
    let seven = c.in_ok-arg-7.ensures.shape c.option_of-7.ensures.local ∙ ap₂ with_rule six c.option_of-7.ensures.rule in
    let eight = c.in_ok-arg-8.ensures.shape c.option_of-8.ensures.local ∙ ap₂ with_rule seven c.option_of-8.ensures.rule in
    let nine = c.in_ok-arg-9.ensures.shape c.option_of-9.ensures.local ∙ ap₂ with_rule eight c.option_of-9.ensures.rule in
    IfOk-weaker c.arg-10.result _ _ (λ r h. h.shape c.operands_of.ensures.local ∙ ap₂ with_rule nine c.operands_of.ensures.rule) c.arg-10.ensures
