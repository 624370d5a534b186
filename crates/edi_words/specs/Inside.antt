-- Helper. The one simple command as which `clap` reads the words, and what is read of its matches.
use Rattle.std.specs.Prelude.{Bool, true, false, not, ◌&&◌, List, [], ◌∷◌, Some, unwrap_or, codes, if◌then◌else◌}
use Rattle.clap.specs.Walk.{Row, Rule, Text, all_of}
use Rattle.clap.specs.Simple.{App, new_rule, new_app, on_top, with_rule}
use Rattle.clap.specs.declared.builder.action.ArgAction.TheVariants.{Append}
use Rattle.edi_words.specs.Words.{Given, is_plain, is_option_name}
use Rattle.edi_words.specs.View.{texts}
use Rattle.edi_words.specs.declared.given.Given as code

-- ---- the test of the words

-- The words are operands and options with their values, where a value is wanted first, or not.
abbrev pub goes : Bool → List Text → Bool
goes wanted [] = not wanted
goes wanted (word ∷ words) =
    if is_plain word then goes false words else (not wanted && (is_option_name word && goes true words))

-- ---- the command

-- the operands
abbrev pub word_rule : Rule
word_rule = record (new_rule (codes "words")) { action = Some Append }

-- an option, which takes one value each time
abbrev pub option_rule : Text → Rule
option_rule name = record (new_rule name) { long = Some name; action = Some Append }

abbrev pub bare : App
bare = on_top (λ s. record s { disable_help_flag = true; no_binary_name = true }) (new_app (codes "edison"))

abbrev pub app : App
app = with_rule (with_rule (with_rule (with_rule (with_rule (with_rule (with_rule (with_rule (with_rule (with_rule bare
    (option_rule (codes "turns"))) (option_rule (codes "choices"))) (option_rule (codes "seed"))) (option_rule (codes "record")))
    (option_rule (codes "from"))) (option_rule (codes "states"))) (option_rule (codes "shown"))) (option_rule (codes "timeline"))) (option_rule (codes "dump"))) word_rule

-- ---- the matches

-- the values of an argument
abbrev pub values_in : List Row → Text → List Text
values_in rows id = unwrap_or (all_of id rows) []

abbrev pub given_in : List Row → Given
given_in rows = record {
  operands = values_in rows (codes "words");
  turns = values_in rows (codes "turns");
  choices = values_in rows (codes "choices");
  seeds = values_in rows (codes "seed");
  record_files = values_in rows (codes "record");
  old_disks = values_in rows (codes "from");
  states = values_in rows (codes "states");
  shown = values_in rows (codes "shown");
  timelines = values_in rows (codes "timeline");
  dumps = values_in rows (codes "dump");
}

-- the same behind the references of the code
abbrev pub given_view : code.Given → Given
given_view g = record {
  operands = texts g.operands.now;
  turns = texts g.turns.now;
  choices = texts g.choices.now;
  seeds = texts g.seeds.now;
  record_files = texts g.record_files.now;
  old_disks = texts g.old_disks.now;
  states = texts g.states.now;
  shown = texts g.shown.now;
  timelines = texts g.timelines.now;
  dumps = texts g.dumps.now;
}
