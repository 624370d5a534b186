-- Computed rows. Words and the commands that they are.
use Rattle.std.specs.Prelude.{◌≡◌, List, [], ◌∷◌, Some, None, codes, refl}
use Rattle.edi_words.specs.Words.{Options, Text, nowhere, seed, command_of, run, newdisk}

abbrev pub plain_options : Options
plain_options = record { turns = 1000000; choices = nowhere; record_file = None }

pub a_text_is_run : command_of (codes "run" ∷ codes "a" ∷ []) ≡ Some (run (codes "a") plain_options)
a_text_is_run = refl

pub options_stand_anywhere : command_of (codes "--seed" ∷ codes "7" ∷ codes "run" ∷ codes "--record" ∷ codes "r" ∷ codes "a" ∷ [])
    ≡ Some (run (codes "a") (record { turns = 1000000; choices = seed 7; record_file = Some (codes "r") }))
options_stand_anywhere = refl

pub a_command_wants_its_operand : command_of (codes "run" ∷ []) ≡ None
a_command_wants_its_operand = refl

pub no_turns_are_no_bound : command_of (codes "run" ∷ codes "a" ∷ codes "--turns" ∷ codes "0" ∷ []) ≡ None
no_turns_are_no_bound = refl

pub seed_and_choices_exclude_each_other :
    command_of (codes "run" ∷ codes "a" ∷ codes "--seed" ∷ codes "1" ∷ codes "--choices" ∷ codes "b" ∷ []) ≡ None
seed_and_choices_exclude_each_other = refl

pub no_option_has_an_equals_sign : command_of (codes "run" ∷ codes "a" ∷ codes "--turns=5" ∷ []) ≡ None
no_option_has_an_equals_sign = refl

pub sixty_three_blocks_are_too_few : command_of (codes "newdisk" ∷ codes "63" ∷ []) ≡ None
sixty_three_blocks_are_too_few = refl

pub a_disk_from_an_old_one : command_of (codes "newdisk" ∷ codes "64" ∷ codes "--from" ∷ codes "old" ∷ [])
    ≡ Some (newdisk 64 (Some (codes "old")))
a_disk_from_an_old_one = refl

pub options_come_once : command_of (codes "replay" ∷ codes "a" ∷ codes "b" ∷ codes "--turns" ∷ codes "5" ∷ codes "--turns" ∷ codes "5" ∷ []) ≡ None
options_come_once = refl

pub blanks_belong_to_no_title : command_of (codes "put" ∷ codes "a" ∷ codes "t " ∷ []) ≡ None
blanks_belong_to_no_title = refl

-- THE WORDS ARE REFUSED
abbrev pub IsRefused : List Text → Type 0
IsRefused words = command_of words ≡ None

pub no_words_are_no_command : IsRefused []
no_words_are_no_command = refl

pub an_empty_word_is_refused : IsRefused (codes "run" ∷ [] ∷ [])
an_empty_word_is_refused = refl

pub a_dash_alone_is_refused : IsRefused (codes "run" ∷ codes "-" ∷ [])
a_dash_alone_is_refused = refl

pub no_help_is_shown : IsRefused (codes "--help" ∷ [])
no_help_is_shown = refl

pub an_option_wants_its_value : IsRefused (codes "run" ∷ codes "a" ∷ codes "--turns" ∷ [])
an_option_wants_its_value = refl

pub a_value_begins_with_no_dash : IsRefused (codes "run" ∷ codes "a" ∷ codes "--record" ∷ codes "-r" ∷ [])
a_value_begins_with_no_dash = refl

pub two_commands_are_one_too_many : IsRefused (codes "run" ∷ codes "boot" ∷ codes "a" ∷ [])
two_commands_are_one_too_many = refl

pub newdisk_takes_no_turns : IsRefused (codes "newdisk" ∷ codes "64" ∷ codes "--turns" ∷ codes "5" ∷ [])
newdisk_takes_no_turns = refl

pub a_thousand_millions_and_one : IsRefused (codes "run" ∷ codes "a" ∷ codes "--turns" ∷ codes "1000000001" ∷ [])
a_thousand_millions_and_one = refl

pub eleven_digits_are_too_many : IsRefused (codes "run" ∷ codes "a" ∷ codes "--turns" ∷ codes "00000000005" ∷ [])
eleven_digits_are_too_many = refl

pub ten_digits_may_begin_with_zeros : command_of (codes "run" ∷ codes "--turns" ∷ codes "0000000005" ∷ codes "a" ∷ [])
    ≡ Some (run (codes "a") (record plain_options { turns = 5 }))
ten_digits_may_begin_with_zeros = refl
