-- Definition. The words after the program's name, and the command that they are: a function of the words, with none where they
-- are refused. A word, a name of a file and a title are bytes.
use Rattle.std.specs.Prelude.{ℕ, ◌==◌, Bool, false, not, ◌&&◌, nat_le, List, [], ◌∷◌, length, Option, Some, None, if◌then◌else◌, codes}
use Rattle.std.specs.List.{list_all, list_any}
use Rattle.std.specs.Option.{option_map, option_and_then}
use Rattle.std.specs.Str.{bytes_eq}
use Rattle.edi_calls.specs.State.{is_title}
use Rattle.edi_trace.specs.Lines.{is_digit, number_of}

abbrev pub Text : Type 0
Text = List ℕ

-- ---- commands

-- where the choices of a run come from: there are none, they stand in the file of this name, or a seed generates them
pub data ChoicesFrom : Type 0 where
  nowhere : ChoicesFrom
  file : (name : List ℕ) → ChoicesFrom
  seed : ℕ → ChoicesFrom

-- how a run is to go: the bound on its turns, its choices, and the file that is to keep the choices that it drew
pub record Options : Type 0 where
  pub turns : ℕ
  pub choices : ChoicesFrom
  pub record_file : Option (List ℕ)

-- what is kept of a run beside its record: a timeline of its stints, or a dump, which tells who stands where at its end; and under which name
pub data Account : Type 0 where
  timeline : (out : List ℕ) → Account
  dump : (out : List ℕ) → Account

-- how an exploration is to go: how many states are kept, how many turns a stint may have, and the name of the files that are to keep the choices
-- of its endings; and how many endings are told, if those with other output are others
pub record ExploreOptions : Type 0 where
  pub states : ℕ
  pub turns : ℕ
  pub record_file : Option (List ℕ)
  pub shown : Option ℕ

pub data Command : Type 0 where
  run : (file : List ℕ) → Options → Command
  replay : (file choices : List ℕ) → (turns : ℕ) → Command
  exec : (file : List ℕ) → Options → Command
  boot : Options → Command
  compile : (file out : List ℕ) → Command
  newdisk : (blocks : ℕ) → (old : Option (List ℕ)) → Command
  put : (file title : List ℕ) → Command
  get : (title file : List ℕ) → Command
  list : (file : List ℕ) → Command
  demo : (n : ℕ) → Options → Command
  check : (file : List ℕ) → Command
  explain : (file : List ℕ) → Command
  walk : (file choices : List ℕ) → (turns : ℕ) → Command
  watch : (file stops out : List ℕ) → Options → Command
  explore : (file : List ℕ) → ExploreOptions → Command
  -- a run with an account (`--timeline OUT` or `--dump OUT`): `run FILE` and `replay FILE CHOICES`, `exec CODEFILE`, and `demo N`
  run_with : (file : List ℕ) → Account → Options → Command
  exec_with : (file : List ℕ) → Account → Options → Command
  demo_with : (n : ℕ) → Account → Options → Command

-- ---- operands and options

-- an operand, or an option with its value; the first operand is the name of the command
pub data Part : Type 0 where
  operand : List ℕ → Part
  option : (name value : List ℕ) → Part

-- a word that is not empty and does not begin with `-`
abbrev pub is_plain : Text → Bool
is_plain [] = false
is_plain (b ∷ more) = not (b == 45)

abbrev pub option_names : List Text
option_names =
    codes "--turns" ∷ codes "--choices" ∷ codes "--seed" ∷ codes "--record" ∷ codes "--from" ∷ codes "--states" ∷ codes "--shown"
    ∷ codes "--timeline" ∷ codes "--dump" ∷ []

abbrev pub is_option_name : Text → Bool
is_option_name word = list_any (bytes_eq word) option_names

abbrev pub before_parts : Part → Option (List Part) → Option (List Part)
before_parts part None = None
before_parts part (Some parts) = Some (part ∷ parts)

-- A word is an operand, or one of the option names, which the word behind it follows as its value. Every other word
-- is refused: an empty one, one that begins with `-` and is no option name, and an option name without a value.
abbrev pub parts_of : List Text → Option (List Part)
parts_of [] = Some []
parts_of (word ∷ []) = if is_plain word then Some (operand word ∷ []) else None
parts_of (word ∷ value ∷ words) =
    if is_plain word then before_parts (operand word) (parts_of (value ∷ words))
    else (if is_option_name word && is_plain value then before_parts (option word value) (parts_of words)
    else None)

abbrev pub operands_of : List Part → List Text
operands_of [] = []
operands_of (operand word ∷ parts) = word ∷ operands_of parts
operands_of (option name value ∷ parts) = operands_of parts

-- the values of the option of this name
abbrev pub values_of : Text → List Part → List Text
values_of wanted [] = []
values_of wanted (operand word ∷ parts) = values_of wanted parts
values_of wanted (option name value ∷ parts) =
    if bytes_eq name wanted then value ∷ values_of wanted parts else values_of wanted parts

-- the operands and the values of each option, in the order of the words
pub record Given : Type 0 where
  pub operands : List (List ℕ)
  pub turns : List (List ℕ)
  pub choices : List (List ℕ)
  pub seeds : List (List ℕ)
  pub record_files : List (List ℕ)
  pub old_disks : List (List ℕ)
  pub states : List (List ℕ)
  pub shown : List (List ℕ)
  pub timelines : List (List ℕ)
  pub dumps : List (List ℕ)

abbrev pub given_of : List Part → Given
given_of parts = record {
  operands = operands_of parts;
  turns = values_of (codes "--turns") parts;
  choices = values_of (codes "--choices") parts;
  seeds = values_of (codes "--seed") parts;
  record_files = values_of (codes "--record") parts;
  old_disks = values_of (codes "--from") parts;
  states = values_of (codes "--states") parts;
  shown = values_of (codes "--shown") parts;
  timelines = values_of (codes "--timeline") parts;
  dumps = values_of (codes "--dump") parts;
}

abbrev pub at_most : ℕ → List Text → Bool
at_most n values = nat_le (length values) n

-- The options but for `--states`, `--shown`, `--timeline` and `--dump` are only those that a command takes: `--turns` at most so many times, `--choices`,
-- `--seed` and `--record` each at most so many times, and `--from` at most so many times. No command takes one twice.
abbrev pub takes : (turns others from : ℕ) → Given → Bool
takes turns others from g =
    at_most turns g.turns && at_most others g.choices && at_most others g.seeds && at_most others g.record_files
    && at_most from g.old_disks

-- neither `--states` nor `--shown` is given
abbrev pub has_no_exploring : Given → Bool
has_no_exploring g = at_most 0 g.states && at_most 0 g.shown

-- The options are those of an exploration: `--states`, `--shown`, `--turns` and `--record`, each at most once.
abbrev pub takes_exploring : Given → Bool
takes_exploring g = at_most 1 g.states && at_most 1 g.shown && at_most 0 g.choices && at_most 0 g.seeds && takes 1 1 0 g

-- ---- numbers

abbrev pub are_digits : Text → Bool
are_digits = list_all is_digit

-- the number that 1 to 10 digits spell
abbrev pub spelled : Text → Option ℕ
spelled word = if nat_le 1 (length word) && nat_le (length word) 10 && are_digits word then Some (number_of word) else None

abbrev pub in_range : (least most n : ℕ) → Option ℕ
in_range least most n = if nat_le least n && nat_le n most then Some n else None

-- the number of 1 to 10 digits in this range
abbrev pub number_in : (least most : ℕ) → Text → Option ℕ
number_in least most word = option_and_then (in_range least most) (spelled word)

-- ---- the values of options, of which each is given at most once

-- the bound, which is a million turns where none is given
abbrev pub turns_by : List Text → Option ℕ
turns_by [] = Some 1000000
turns_by (value ∷ more) = number_in 1 1000000000 value

-- how many states are kept, which is a million where no number is given
abbrev pub states_by : List Text → Option ℕ
states_by [] = Some 1000000
states_by (value ∷ more) = number_in 1 100000000 value

-- how many endings are told where output is looked at, which is not where no number is given
abbrev pub shown_by : List Text → Option (Option ℕ)
shown_by [] = Some None
shown_by (value ∷ more) = option_map Some (number_in 1 1000 value)

-- `--choices` and `--seed` exclude each other
abbrev pub choices_by : (files seeds : List Text) → Option ChoicesFrom
choices_by [] [] = Some nowhere
choices_by (name ∷ more) [] = Some (file name)
choices_by [] (value ∷ more) = option_map seed (number_in 0 65535 value)
choices_by (name ∷ names) (value ∷ values) = None

abbrev pub first_of : List Text → Option Text
first_of [] = None
first_of (value ∷ more) = Some value

abbrev pub turns_in : Given → Option ℕ
turns_in g = turns_by g.turns

abbrev pub options_with : Given → ℕ → ChoicesFrom → Options
options_with g turns choices = record { turns = turns; choices = choices; record_file = first_of g.record_files }

abbrev pub options_with_turns : Given → ℕ → Option Options
options_with_turns g turns = option_map (options_with g turns) (choices_by g.choices g.seeds)

abbrev pub options_in : Given → Option Options
options_in g = option_and_then (options_with_turns g) (turns_in g)

abbrev pub exploring_with : Given → (states turns : ℕ) → (shown : Option ℕ) → ExploreOptions
exploring_with g states turns shown = record { states = states; turns = turns; record_file = first_of g.record_files; shown = shown }

abbrev pub exploring_with_turns : Given → (states turns : ℕ) → Option ExploreOptions
exploring_with_turns g states turns = option_map (exploring_with g states turns) (shown_by g.shown)

abbrev pub exploring_with_states : Given → ℕ → Option ExploreOptions
exploring_with_states g states = option_and_then (exploring_with_turns g states) (turns_in g)

-- the options of an exploration
abbrev pub exploring_in : Given → Option ExploreOptions
exploring_in g = option_and_then (exploring_with_states g) (states_by g.states)

-- ---- the table of commands: their operands and options

-- the operands where there are so many
abbrev pub no_operand : List Text → Option (Unit {0})
no_operand [] = Some tt
no_operand _ = None

abbrev pub one_operand : List Text → Option Text
one_operand (a ∷ []) = Some a
one_operand _ = None

abbrev pub two_operands : List Text → Option (Text × Text)
two_operands (a ∷ b ∷ []) = Some (a, b)
two_operands _ = None

abbrev pub three_operands : List Text → Option (Text × Text × Text)
three_operands (a ∷ b ∷ c ∷ []) = Some (a, b, c)
three_operands _ = None

-- what the options must be for such a command, and then its operands
abbrev pub if_takes : {A : Type 0} → (turns others from : ℕ) → Given → Option A → Option A
if_takes turns others from g found = if takes turns others from g then found else None

-- the options of a run beside its operands
abbrev pub with_options : {A : Type 0} → Given → A → Option (A × Options)
with_options g operands = option_map (λ o. (operands, o)) (options_in g)

abbrev pub with_turns : {A : Type 0} → Given → A → Option (A × ℕ)
with_turns g operands = option_map (λ turns. (operands, turns)) (turns_in g)

-- `run FILE` and `exec CODEFILE`: a file and the options of a run
abbrev pub file_run : List Text → Given → Option (Text × Options)
file_run operands g = if_takes 1 1 0 g (option_and_then (with_options g) (one_operand operands))

-- `boot`: the options of a run
abbrev pub bare_run : List Text → Given → Option Options
bare_run operands g = if_takes 1 1 0 g (option_and_then (λ none. options_in g) (no_operand operands))

-- `replay FILE CHOICES` and `walk FILE CHOICES`: two files and a bound
abbrev pub guided_run : List Text → Given → Option ((Text × Text) × ℕ)
guided_run operands g = if_takes 1 0 0 g (option_and_then (with_turns g) (two_operands operands))

-- `list CODEFILE`, `check FILE` and `explain FILE`: a file
abbrev pub only_file : List Text → Given → Option Text
only_file operands g = if_takes 0 0 0 g (one_operand operands)

-- `compile FILE OUT`: two files
abbrev pub only_files : List Text → Given → Option (Text × Text)
only_files operands g = if_takes 0 0 0 g (two_operands operands)

-- `newdisk BLOCKS`: a number of blocks from 64 to 4096, and perhaps an old image
abbrev pub new_disk : List Text → Given → Option (ℕ × Option Text)
new_disk operands g =
    if_takes 0 0 1 g (option_map (λ n. (n, first_of g.old_disks)) (option_and_then (number_in 64 4096) (one_operand operands)))

-- a file and a title
abbrev pub with_title : (file title : Text) → Option (Text × Text)
with_title name title = if is_title title then Some (name, title) else None

-- `put FILE TITLE`
abbrev pub put_file : List Text → Given → Option (Text × Text)
put_file operands g = if_takes 0 0 0 g (option_and_then (λ p. with_title p.0 p.1) (two_operands operands))

-- `get TITLE FILE`
abbrev pub get_file : List Text → Given → Option (Text × Text)
get_file operands g = if_takes 0 0 0 g (option_and_then (λ p. with_title p.1 p.0) (two_operands operands))

-- `demo N`: a number from 1 to 1000, and the options of a run
abbrev pub sized_run : List Text → Given → Option (ℕ × Options)
sized_run operands g =
    if_takes 1 1 0 g (option_and_then (with_options g) (option_and_then (number_in 1 1000) (one_operand operands)))

-- `watch FILE STOPS OUT`: three files and the options of a run
abbrev pub watched_run : List Text → Given → Option ((Text × Text × Text) × Options)
watched_run operands g = if_takes 1 1 0 g (option_and_then (with_options g) (three_operands operands))

-- `explore FILE`: a file and the options of an exploration
abbrev pub explored_file : List Text → Given → Option (Text × ExploreOptions)
explored_file operands g =
    if takes_exploring g then option_and_then (λ file. option_map (λ o. (file, o)) (exploring_in g)) (one_operand operands) else None

-- the command of this name, of the disk, the tools and the debugger
abbrev pub named_more : Text → List Text → Given → Option Command
named_more name operands g =
    if bytes_eq name (codes "put") then option_map (λ p. put p.0 p.1) (put_file operands g)
    else (if bytes_eq name (codes "get") then option_map (λ p. get p.1 p.0) (get_file operands g)
    else (if bytes_eq name (codes "list") then option_map list (only_file operands g)
    else (if bytes_eq name (codes "demo") then option_map (λ p. demo p.0 p.1) (sized_run operands g)
    else (if bytes_eq name (codes "check") then option_map check (only_file operands g)
    else (if bytes_eq name (codes "explain") then option_map explain (only_file operands g)
    else (if bytes_eq name (codes "walk") then option_map (λ p. walk p.0.0 p.0.1 p.1) (guided_run operands g)
    else (if bytes_eq name (codes "watch") then option_map (λ p. watch p.0.0 p.0.1 p.0.2 p.1) (watched_run operands g)
    else None)))))))

-- the command of this name, without `--states` and `--shown`
abbrev pub named_plain : Text → List Text → Given → Option Command
named_plain name operands g =
    if bytes_eq name (codes "run") then option_map (λ p. run p.0 p.1) (file_run operands g)
    else (if bytes_eq name (codes "replay") then option_map (λ p. replay p.0.0 p.0.1 p.1) (guided_run operands g)
    else (if bytes_eq name (codes "exec") then option_map (λ p. exec p.0 p.1) (file_run operands g)
    else (if bytes_eq name (codes "boot") then option_map boot (bare_run operands g)
    else (if bytes_eq name (codes "compile") then option_map (λ p. compile p.0 p.1) (only_files operands g)
    else (if bytes_eq name (codes "newdisk") then option_map (λ p. newdisk p.0 p.1) (new_disk operands g)
    else named_more name operands g)))))

-- the command of this name; `--states` and `--shown` are options of `explore` alone
abbrev pub named : Text → List Text → Given → Option Command
named name operands g =
    if bytes_eq name (codes "explore") then option_map (λ p. explore p.0 p.1) (explored_file operands g)
    else (if has_no_exploring g then named_plain name operands g else None)

-- The command with this account. Only runs of one program have one; a replay is then a run with the choices of its file.
abbrev pub accounted : Account → Command → Option Command
accounted account (run file_ o) = Some (run_with file_ account o)
accounted account (replay file_ choices turns) = Some (run_with file_ account (record { turns = turns; choices = file choices; record_file = None }))
accounted account (exec file_ o) = Some (exec_with file_ account o)
accounted account (demo n o) = Some (demo_with n account o)
accounted account c = None

abbrev pub named_with : Account → (name : Text) → List Text → Given → Option Command
named_with account name operands g = option_and_then (accounted account) (named name operands g)

-- neither `--timeline` nor `--dump` is given
abbrev pub has_no_account : Given → Bool
has_no_account g = at_most 0 g.timelines && at_most 0 g.dumps

-- the account, where just one is asked for
abbrev pub account_by : (timelines dumps : List Text) → Option Account
account_by [] dumps = option_map dump (one_operand dumps)
account_by (out ∷ more) [] = option_map timeline (one_operand (out ∷ more))
account_by (out ∷ more) (other ∷ others) = None

-- The first operand names the command, the others are its own. `--timeline` and `--dump` exclude each other, and are given at most once.
abbrev pub command_by : List Text → Given → Option Command
command_by [] g = None
command_by (name ∷ operands) g =
    if has_no_account g then named name operands g
    else option_and_then (λ account. named_with account name operands g) (account_by g.timelines g.dumps)

abbrev pub command_in : Given → Option Command
command_in g = command_by g.operands g

-- THE COMMAND that the words are, or none
abbrev pub command_of : List Text → Option Command
command_of words = option_and_then (λ parts. command_in (given_of parts)) (parts_of words)
