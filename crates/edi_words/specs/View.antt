-- Words of contracts. What the command of the code says, in the words of `Words`.
use Rattle.std.specs.Prelude.{◌≡◌, ◌≤◌, true, List, map, option_map, ⊤}
use Rattle.std.specs.Borrow.{Bor}
use Rattle.edi_calls.specs.State.{is_title}
use Rattle.edi_words.specs.Words as words
use Rattle.edi_words.specs.Words.{Text}
use Rattle.edi_words.specs.declared.commands.ChoicesFrom.{ChoicesFrom}
use Rattle.edi_words.specs.declared.commands.ChoicesFrom.TheVariants as source
use Rattle.edi_words.specs.declared.commands.Options.{Options}
use Rattle.edi_words.specs.declared.commands.Account.{Account}
use Rattle.edi_words.specs.declared.commands.Account.TheVariants as account
use Rattle.edi_words.specs.declared.commands.ExploreOptions.{ExploreOptions}
use Rattle.edi_words.specs.declared.commands.Command.{Command}
use Rattle.edi_words.specs.declared.commands.Command.TheVariants as command

-- the texts behind references
abbrev pub texts : List (Bor Text) → List Text
texts = map (λ text. text.now)

abbrev pub choices_from : ChoicesFrom → words.ChoicesFrom
choices_from source.Nowhere = words.nowhere
choices_from (source.File name) = words.file name.now
choices_from (source.Seed n) = words.seed n

abbrev pub options_of : Options → words.Options
options_of o = record {
  turns = o.turns;
  choices = choices_from o.choices;
  record_file = option_map (λ name. name.now) o.record_file;
}

abbrev pub account_of : Account → words.Account
account_of (account.Timeline out) = words.timeline out.now
account_of (account.Dump out) = words.dump out.now

abbrev pub exploring_of : ExploreOptions → words.ExploreOptions
exploring_of o = record {
  states = o.states;
  turns = o.turns;
  record_file = option_map (λ name. name.now) o.record_file;
  shown = o.shown;
}

abbrev pub view : Command → words.Command
view (command.Run file options) = words.run file.now (options_of options)
view (command.Replay file choices turns) = words.replay file.now choices.now turns
view (command.Exec file options) = words.exec file.now (options_of options)
view (command.Boot options) = words.boot (options_of options)
view (command.Compile file out) = words.compile file.now out.now
view (command.NewDisk blocks old) = words.newdisk blocks (option_map (λ name. name.now) old)
view (command.Put file title) = words.put file.now title.now
view (command.Get title file) = words.get title.now file.now
view (command.List file) = words.list file.now
view (command.Demo n options) = words.demo n (options_of options)
view (command.Check file) = words.check file.now
view (command.Explain file) = words.explain file.now
view (command.Walk file choices turns) = words.walk file.now choices.now turns
view (command.Watch file stops out options) = words.watch file.now stops.now out.now (options_of options)
view (command.Explore file options) = words.explore file.now (exploring_of options)
view (command.RunWith file account options) = words.run_with file.now (account_of account) (options_of options)
view (command.ExecWith file account options) = words.exec_with file.now (account_of account) (options_of options)
view (command.DemoWith n account options) = words.demo_with n (account_of account) (options_of options)

-- Titles are titles, and numbers are in their ranges.
abbrev pub IsInRange : Command → Type 0
IsInRange (command.NewDisk blocks old) = (64 ≤ blocks) × (blocks ≤ 4096)
IsInRange (command.Put file title) = is_title title.now ≡ true
IsInRange (command.Get title file) = is_title title.now ≡ true
IsInRange (command.Demo n options) = (1 ≤ n) × (n ≤ 1000)
IsInRange (command.DemoWith n account options) = (1 ≤ n) × (n ≤ 1000)
IsInRange _ = ⊤
