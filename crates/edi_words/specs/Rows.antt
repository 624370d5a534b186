-- Computed rows. Words of the command `explore`, and the options that are its own. And the words of a run with a timeline or a dump.
use Rattle.std.specs.Prelude.{◌≡◌, [], ◌∷◌, Some, None, codes, refl}
use Rattle.edi_words.specs.Words.{command_of, demo_with, dump, exec_with, explore, file, nowhere, run, run_with, seed, timeline}

pub what_is_not_given : command_of (codes "explore" ∷ codes "p" ∷ []) ≡ Some (explore (codes "p") (record {
  states = 1000000;
  turns = 1000000;
  record_file = None;
  shown = None;
}))
what_is_not_given = refl

pub what_is_given : command_of (codes "explore" ∷ codes "p" ∷ codes "--record" ∷ codes "r" ∷ codes "--states" ∷ codes "100" ∷ codes "--turns" ∷ codes "7" ∷ [])
    ≡ Some (explore (codes "p") (record { states = 100; turns = 7; record_file = Some (codes "r"); shown = None }))
what_is_given = refl

pub most_states : command_of (codes "explore" ∷ codes "p" ∷ codes "--states" ∷ codes "100000000" ∷ [])
    ≡ Some (explore (codes "p") (record { states = 100000000; turns = 1000000; record_file = None; shown = None }))
most_states = refl

pub too_many_states : command_of (codes "explore" ∷ codes "p" ∷ codes "--states" ∷ codes "100000001" ∷ []) ≡ None
too_many_states = refl

pub no_states : command_of (codes "explore" ∷ codes "p" ∷ codes "--states" ∷ codes "0" ∷ []) ≡ None
no_states = refl

-- output is looked at where a number of endings is given
pub output_is_looked_at : command_of (codes "explore" ∷ codes "p" ∷ codes "--shown" ∷ codes "20" ∷ [])
    ≡ Some (explore (codes "p") (record { states = 1000000; turns = 1000000; record_file = None; shown = Some 20 }))
output_is_looked_at = refl

pub most_shown : command_of (codes "explore" ∷ codes "p" ∷ codes "--shown" ∷ codes "1000" ∷ [])
    ≡ Some (explore (codes "p") (record { states = 1000000; turns = 1000000; record_file = None; shown = Some 1000 }))
most_shown = refl

pub too_many_shown : command_of (codes "explore" ∷ codes "p" ∷ codes "--shown" ∷ codes "1001" ∷ []) ≡ None
too_many_shown = refl

pub none_shown : command_of (codes "explore" ∷ codes "p" ∷ codes "--shown" ∷ codes "0" ∷ []) ≡ None
none_shown = refl

pub shown_without_number : command_of (codes "explore" ∷ codes "p" ∷ codes "--shown" ∷ []) ≡ None
shown_without_number = refl

pub shown_twice : command_of (codes "explore" ∷ codes "p" ∷ codes "--shown" ∷ codes "2" ∷ codes "--shown" ∷ codes "2" ∷ []) ≡ None
shown_twice = refl

-- it takes no choices, no seed and no old image
pub without_choices : command_of (codes "explore" ∷ codes "p" ∷ codes "--choices" ∷ codes "c" ∷ []) ≡ None
without_choices = refl

pub without_seed : command_of (codes "explore" ∷ codes "p" ∷ codes "--seed" ∷ codes "5" ∷ []) ≡ None
without_seed = refl

pub without_old_disk : command_of (codes "explore" ∷ codes "p" ∷ codes "--from" ∷ codes "d" ∷ []) ≡ None
without_old_disk = refl

-- and no other command takes its options
pub of_explore_alone : command_of (codes "run" ∷ codes "p" ∷ codes "--states" ∷ codes "5" ∷ []) ≡ None
of_explore_alone = refl

pub shown_of_explore_alone : command_of (codes "run" ∷ codes "p" ∷ codes "--shown" ∷ codes "5" ∷ []) ≡ None
shown_of_explore_alone = refl

pub shown_of_no_walk : command_of (codes "walk" ∷ codes "p" ∷ codes "c" ∷ codes "--shown" ∷ codes "5" ∷ []) ≡ None
shown_of_no_walk = refl

-- as it takes the others
pub others_are_taken : command_of (codes "run" ∷ codes "p" ∷ codes "--turns" ∷ codes "5" ∷ [])
    ≡ Some (run (codes "p") (record { turns = 5; choices = nowhere; record_file = None }))
others_are_taken = refl

-- ---- a timeline

-- the place of the option among the words does not matter
pub timed_run : command_of (codes "--timeline" ∷ codes "t" ∷ codes "run" ∷ codes "p" ∷ codes "--record" ∷ codes "r" ∷ [])
    ≡ Some (run_with (codes "p") (timeline (codes "t")) (record { turns = 1000000; choices = nowhere; record_file = Some (codes "r") }))
timed_run = refl

pub timed_replay : command_of (codes "replay" ∷ codes "p" ∷ codes "c" ∷ codes "--timeline" ∷ codes "t" ∷ codes "--turns" ∷ codes "9" ∷ [])
    ≡ Some (run_with (codes "p") (timeline (codes "t")) (record { turns = 9; choices = file (codes "c"); record_file = None }))
timed_replay = refl

pub timed_code : command_of (codes "exec" ∷ codes "p" ∷ codes "--timeline" ∷ codes "t" ∷ [])
    ≡ Some (exec_with (codes "p") (timeline (codes "t")) (record { turns = 1000000; choices = nowhere; record_file = None }))
timed_code = refl

pub timed_demo : command_of (codes "demo" ∷ codes "5" ∷ codes "--timeline" ∷ codes "t" ∷ codes "--seed" ∷ codes "3" ∷ [])
    ≡ Some (demo_with 5 (timeline (codes "t")) (record { turns = 1000000; choices = seed 3; record_file = None }))
timed_demo = refl

-- its number is in the same range
pub too_large : command_of (codes "demo" ∷ codes "1001" ∷ codes "--timeline" ∷ codes "t" ∷ []) ≡ None
too_large = refl

-- it is given once, with a name
pub two_timelines : command_of (codes "run" ∷ codes "p" ∷ codes "--timeline" ∷ codes "t" ∷ codes "--timeline" ∷ codes "t" ∷ []) ≡ None
two_timelines = refl

pub no_timeline : command_of (codes "run" ∷ codes "p" ∷ codes "--timeline" ∷ []) ≡ None
no_timeline = refl

-- a replay takes no record with it either
pub no_record : command_of (codes "replay" ∷ codes "p" ∷ codes "c" ∷ codes "--timeline" ∷ codes "t" ∷ codes "--record" ∷ codes "r" ∷ []) ≡ None
no_record = refl

-- no other command takes it
pub not_explore : command_of (codes "explore" ∷ codes "p" ∷ codes "--timeline" ∷ codes "t" ∷ []) ≡ None
not_explore = refl

pub not_watch : command_of (codes "watch" ∷ codes "p" ∷ codes "s" ∷ codes "l" ∷ codes "--timeline" ∷ codes "t" ∷ []) ≡ None
not_watch = refl

pub not_walk : command_of (codes "walk" ∷ codes "p" ∷ codes "c" ∷ codes "--timeline" ∷ codes "t" ∷ []) ≡ None
not_walk = refl

pub not_boot : command_of (codes "boot" ∷ codes "--timeline" ∷ codes "t" ∷ []) ≡ None
not_boot = refl

-- ---- a dump

-- it comes where a timeline does
pub dumped_run : command_of (codes "run" ∷ codes "--dump" ∷ codes "d" ∷ codes "p" ∷ [])
    ≡ Some (run_with (codes "p") (dump (codes "d")) (record { turns = 1000000; choices = nowhere; record_file = None }))
dumped_run = refl

pub dumped_replay : command_of (codes "replay" ∷ codes "p" ∷ codes "c" ∷ codes "--dump" ∷ codes "d" ∷ [])
    ≡ Some (run_with (codes "p") (dump (codes "d")) (record { turns = 1000000; choices = file (codes "c"); record_file = None }))
dumped_replay = refl

pub dumped_code : command_of (codes "exec" ∷ codes "p" ∷ codes "--dump" ∷ codes "d" ∷ codes "--record" ∷ codes "r" ∷ [])
    ≡ Some (exec_with (codes "p") (dump (codes "d")) (record { turns = 1000000; choices = nowhere; record_file = Some (codes "r") }))
dumped_code = refl

pub dumped_demo : command_of (codes "demo" ∷ codes "5" ∷ codes "--dump" ∷ codes "d" ∷ [])
    ≡ Some (demo_with 5 (dump (codes "d")) (record { turns = 1000000; choices = nowhere; record_file = None }))
dumped_demo = refl

-- it is given once, with a name, and not beside a timeline
pub two_dumps : command_of (codes "run" ∷ codes "p" ∷ codes "--dump" ∷ codes "d" ∷ codes "--dump" ∷ codes "d" ∷ []) ≡ None
two_dumps = refl

pub no_dump : command_of (codes "run" ∷ codes "p" ∷ codes "--dump" ∷ []) ≡ None
no_dump = refl

pub not_both : command_of (codes "run" ∷ codes "p" ∷ codes "--dump" ∷ codes "d" ∷ codes "--timeline" ∷ codes "t" ∷ []) ≡ None
not_both = refl

-- no other command takes it
pub no_dump_of_explore : command_of (codes "explore" ∷ codes "p" ∷ codes "--dump" ∷ codes "d" ∷ []) ≡ None
no_dump_of_explore = refl

pub no_dump_of_watch : command_of (codes "watch" ∷ codes "p" ∷ codes "s" ∷ codes "l" ∷ codes "--dump" ∷ codes "d" ∷ []) ≡ None
no_dump_of_watch = refl

pub no_dump_of_boot : command_of (codes "boot" ∷ codes "--dump" ∷ codes "d" ∷ []) ≡ None
no_dump_of_boot = refl
