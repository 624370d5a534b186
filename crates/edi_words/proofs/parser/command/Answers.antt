use Rattle.std.proofs.Common.{rules, ◌≡◌, ◌∙◌, ap, true, map, is_some}
use Rattle.std.specs.String.{string_bytes}
use Rattle.clap.specs.Simple.{is_simple, matches_of}
use Rattle.clap.specs.Takes.{takes}
use Rattle.edi_words.specs.Words.{command_in, parts_of}
use Rattle.edi_words.specs.Inside.{given_in}
use Rattle.edi_words.proofs.Parts.{takes_words, command_is}
use Rattle.edi_words.proofs.Walking.{is_simple_app}
use Rattle.edi_words.proofs.parser.command.Goals as goal

pub unreachable-requires : goal.unreachable-requires
unreachable-requires c =
    let ws = map string_bytes c.args.words.now in
    let passed : is_some (parts_of ws) ≡ true = search rules in
    c.in_default.not-OutOfMemory (c.kind.ensures
    ∙ c.in-Err.ensures.passes (ap (λ a. takes a ws) c.in_ok-parser.ensures ∙ takes_words ws passed))

pub returns-in-Ok : goal.returns-in-Ok
returns-in-Ok c =
    let ws = map string_bytes c.args.words.now in
    let passed : is_some (parts_of ws) ≡ true = search rules in
    let found = c.in-Ok.ensures.matches (ap is_simple c.in_ok-parser.ensures ∙ is_simple_app) in
    record {
      exact = c.command_in.ensures.exact ∙ ap command_in (c.given.ensures ∙ ap given_in (found.0 ∙ ap (λ a. matches_of a ws) c.in_ok-parser.ensures))
          ∙ command_is ws passed;
      range = c.command_in.ensures.range;
    }
