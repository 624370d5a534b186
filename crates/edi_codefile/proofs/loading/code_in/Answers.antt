use Rattle.std.proofs.Common.{◌≡◌, length, drop, ap, subst, ◌∙◌, arith}
use Rattle.std.specs.Prelude.{IfErr}
use Rattle.edi_target.specs.Check.{IsFault}
use Rattle.edi_target.specs.File.{number_at, words_of_bytes}
use Rattle.edi_codefile.proofs.Files.{read_fault, few_calls, few_words, sound_answer}
use Rattle.edi_codefile.proofs.loading.code_in.Goals as goal

pub version_fault-requires-clause-size : goal.version_fault-requires-clause-size
version_fault-requires-clause-size c =
    let words : c.deref.result.now ≡ words_of_bytes (drop 32 c.args.bytes.now) = c.deref.ensures.value ∙ c.in-Ok.ensures
    ∙ ap words_of_bytes c.split_at.ensures.back in
    omega (arith, ap length words, few_words c.args.bytes.now c.requires.header c.requires.size)

pub check-requires-clause-size : goal.check-requires-clause-size
check-requires-clause-size c =
    let words : c.in-Ok.words.items ≡ words_of_bytes (drop 32 c.args.bytes.now) = c.in-Ok.ensures ∙ ap words_of_bytes c.split_at.ensures.back in
    omega (arith, c.in-Ok.words.ok.0, ap length words, few_words c.args.bytes.now c.requires.header c.requires.size)

pub check-requires-clause-number : goal.check-requires-clause-number
check-requires-clause-number c =
    omega (arith, ap length c.call_numbers.ensures, few_calls c.args.bytes.now c.requires.room c.requires.header)

pub returns-clause-sound : goal.returns-clause-sound
returns-clause-sound c =
    sound_answer c.check.result c.in-Ok.words.items c.number_at.result c.call_numbers.result.now _
    (read_fault c.args.bytes.now c.in-Ok.words.items c.deref.result.now c.call_numbers.result.now c.number_at.result c.requires.room c.requires.header
    c.requires.size (c.in-Ok.ensures ∙ ap words_of_bytes c.split_at.ensures.back) c.deref.ensures.value c.call_numbers.ensures c.number_at.ensures
    c.in_default-version_fault.ensures.none) c.check.ensures.ok c.check.ensures.sound

pub returns-clause-first : goal.returns-clause-first
returns-clause-first c =
    subst (λ x. IfErr c.check.result (λ f. IsFault f x))
    (read_fault c.args.bytes.now c.in-Ok.words.items c.deref.result.now c.call_numbers.result.now c.number_at.result c.requires.room c.requires.header
    c.requires.size (c.in-Ok.ensures ∙ ap words_of_bytes c.split_at.ensures.back) c.deref.ensures.value c.call_numbers.ensures c.number_at.ensures
    c.in_default-version_fault.ensures.none) c.check.ensures.err
