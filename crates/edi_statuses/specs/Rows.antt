-- Computed rows. How calls end: words that are refused, steps that stop, in their order, and code that is run.
use Rattle.std.specs.Prelude.{◌≡◌, ℕ, List, [], ◌∷◌, Some, None, codes, refl}
use Rattle.std.proofs.Common.{inl, inr, arith}
use Rattle.std.specs.FinMap as map
use Rattle.std.specs.Fmt.{digits}
use Rattle.edi_host.specs.Contents.{Contents}
use Rattle.edi_calls.specs.Choice.{listed}
use Rattle.edi_calls.specs.Outcome as outcome
use Rattle.edi_calls.specs.Outcome.{outcome_of}
use Rattle.edi_calls.specs.State.{fresh}
use Rattle.edi_image.specs.declared.faults.MountFault.TheVariants as mount
use Rattle.edi_image.specs.Image.{image_rules}
use Rattle.edi_store.specs.Memory.{zero_words}
use Rattle.edi_target.specs.Check.{CodeParts, words_fault}
use Rattle.edi_target.specs.Decode.{decode}
use Rattle.edi_target.specs.Fetch.{fetch}
use Rattle.edi_target.specs.File.{code_bytes, code_fault_of}
use Rattle.edi_target.specs.Mach.{MachineRun, unfinished, finished, Machine, machine_at, run_from_start}
use Rattle.edi_words.specs.Words.{command_of}
use Rattle.edi_statuses.specs.declared.status.Status.{Status}
use Rattle.edi_statuses.specs.declared.status.Status.TheVariants as status
use Rattle.edi_statuses.specs.Lines.{closing}
use Rattle.edi_statuses.specs.Counts.{Counts}
use Rattle.edi_statuses.specs.Outside.{Outside, Lent, idle, kernel_of, lent, outside_with, system_on}
use Rattle.edi_statuses.specs.Commands.{IsNothing}
use Rattle.edi_statuses.specs.Means.{EndsWith}

-- these files, these blocks, an empty input, and what was shown
abbrev pub outside : Contents → (blocks : List (List ℕ)) → (shown : List ℕ) → Outside
outside files blocks shown = outside_with (Some files) (Some blocks) (Some []) (Some shown) (Some [])

abbrev pub no_faults : Counts
no_faults = record { files = 0; drive = 0; input = 0; terminal = 0; printer = 0 }

-- nothing is run on the lent kernel
abbrev pub left_alone : List ℕ → (used : ℕ) → Lent
left_alone words used = idle (kernel_of words used)

-- the words end so over these files and blocks, which stay as they are, and nothing is run
abbrev pub EndsSo : Status → (words : List (List ℕ)) → Contents → (blocks : List (List ℕ)) → (shown : List ℕ) → Type 0
EndsSo s words files blocks shown =
    (store : List ℕ) (used : ℕ)
    → EndsWith s (command_of words) (outside files blocks []) (outside files blocks shown) no_faults no_faults shown (left_alone store used)

nothing_done : (files : Contents) (blocks : List (List ℕ)) (shown store : List ℕ) (used : ℕ)
    → IsNothing (outside files blocks []) (outside files blocks shown) [] (left_alone store used)
nothing_done files blocks shown store used =
    record { shown_ = refl; same = record { files = refl; blocks = refl; input = refl; printed = refl }; kernel_same = refl }

pub a_command_wants_its_operand : EndsSo status.Words (codes "run" ∷ []) map.empty [] (codes "bad words\n")
a_command_wants_its_operand store used = ([], nothing_done map.empty [] (codes "bad words\n") store used, refl)

-- no file has the name
pub no_file_is_there : (files : Contents) → map.get files (codes "a") ≡ None
    → EndsSo status.Absent (codes "exec" ∷ codes "a" ∷ []) files [] (codes "absent\n")
no_file_is_there files none store used = ([], inl (inl (refl, none), nothing_done files [] (codes "absent\n") store used), refl)

pub a_demonstration_wants_its_choices : (files : Contents) → map.get files (codes "b") ≡ None
    → EndsSo status.Absent (codes "demo" ∷ codes "3" ∷ codes "--choices" ∷ codes "b" ∷ []) files [] (codes "absent\n")
a_demonstration_wants_its_choices files none store used =
    ([], inl (inl (refl, none), nothing_done files [] (codes "absent\n") store used), refl)

pub an_exploration_wants_its_text : (files : Contents) → map.get files (codes "a") ≡ None
    → EndsSo status.Absent (codes "explore" ∷ codes "a" ∷ codes "--states" ∷ codes "5" ∷ []) files [] (codes "absent\n")
an_exploration_wants_its_text files none store used =
    ([], inl (inl (refl, none), nothing_done files [] (codes "absent\n") store used), refl)

pub the_line_of_a_status : closing status.Turns (codes "a") ≡ codes "\nturn limit\n"
the_line_of_a_status = refl

pub behind_a_line : closing status.Standstill (codes "a\n") ≡ codes "standstill\n"
behind_a_line = refl

pub the_line_of_findings : closing (status.Found 12) (codes "a\n") ≡ codes "found 12\n"
unfolding digits
the_line_of_findings = refl

-- ---- the order of the steps

-- the code that shows `a`: ENTRY, CONST, CALLP, RETURN
abbrev pub shows_a : CodeParts
shows_a = record {
  words = 33 ∷ 9 ∷ 0 ∷ 3 ∷ 0 ∷ 0 ∷ 1 ∷ 97 ∷ 35 ∷ 0 ∷ 5 ∷ 1 ∷ 37 ∷ 0 ∷ 0 ∷ [];
  entry = 0;
  calls = 2 ∷ [];
}

-- the choices are read before the code is loaded, and the code before the drive is mounted
pub choices_come_before_code : (files : Contents) → map.get files (codes "c") ≡ Some (codes "?") → map.get files (codes "b") ≡ Some (codes "0\n300\n")
    → EndsSo (status.BadChoices 2) (codes "exec" ∷ codes "c" ∷ codes "--choices" ∷ codes "b" ∷ []) files ([] ∷ []) (codes "choices line 2\n")
unfolding digits
choices_come_before_code files code_file choices store used = (
  [],
  inl (
    inr (codes "?", code_file, inl (inr (codes "0\n300\n", choices, refl))),
    nothing_done files ([] ∷ []) (codes "choices line 2\n") store used,
  ),
  refl,
)

pub the_drive_comes_last : (files : Contents) → map.get files (codes "c") ≡ Some (code_bytes shows_a)
    → EndsSo (status.BadImage mount.Short) (codes "exec" ∷ codes "c" ∷ []) files ([] ∷ []) (codes "bad image short\n")
unfolding decode code_bytes code_fault_of words_fault image_rules
the_drive_comes_last files code_file store used = (
  [],
  inl (
    inr (code_bytes shows_a, code_file, inr (listed [], refl, inr (shows_a, (refl, refl), inl (mount.Short, refl, refl, tt)))),
    nothing_done files ([] ∷ []) (codes "bad image short\n") store used,
  ),
  refl,
)

pub code_is_listed : (files : Contents) → map.get files (codes "c") ≡ Some (code_bytes shows_a)
    → EndsSo status.Ok (codes "list" ∷ codes "c" ∷ []) files []
    (codes "      0 ENTRY 9 0 3 0 0\n      6 CONST 97\n      8 CALLP 0 5 1\n     12 RETURN 0 0\n")
unfolding decode code_bytes code_fault_of words_fault digits
code_is_listed files code_file store used = (
  codes "      0 ENTRY 9 0 3 0 0\n      6 CONST 97\n      8 CALLP 0 5 1\n     12 RETURN 0 0\n",
  inr (
    shows_a,
    inr (code_bytes shows_a, code_file, (refl, refl)),
    (
      refl,
      record { shown_ = refl; same = record { files = refl; blocks = refl; input = refl; printed = refl }; kernel_same = refl },
    ),
  ),
  refl,
)

-- ---- code that is run

abbrev pub machine_in : MachineRun → Machine
machine_in unfinished = machine_at [] [] 0 (system_on (record { blocks = []; input = []; shown = []; printed = [] }))
machine_in (finished ending m drawn) = m

-- the machine at which the code ends, without a disk
abbrev pub end_of : CodeParts → (bound : ℕ) → Machine
end_of code bound =
    machine_in (run_from_start (fetch code.words) code.entry code.calls
    (fresh (system_on (record { blocks = []; input = []; shown = []; printed = [] }))) bound (listed []) 200)

-- the words run the code in the file `c`, which ends so with so many turns and choices; these files are left
abbrev pub RunsSo : CodeParts → (words : List (List ℕ)) → (bound : ℕ) → Status → (shown : List ℕ) → (turns : ℕ) → (Contents → Contents) → Type 0
RunsSo code words bound s shown turns left =
    (files : Contents) → map.get files (codes "c") ≡ Some (code_bytes code) → (store : List ℕ) (used : ℕ)
    → EndsWith s (command_of words) (outside files [] []) (outside (left files) [] shown) no_faults no_faults shown
    (lent store used (end_of code bound).memory turns)

pub code_shows_a : RunsSo shows_a (codes "exec" ∷ codes "c" ∷ []) 1000000 status.Ok (codes "a") 2 (λ files. files)
unfolding decode zero_words code_bytes code_fault_of words_fault
code_shows_a files code_file store used = (
  codes "a",
  inr (
    (shows_a, listed []),
    inr (code_bytes shows_a, code_file, inr (listed [], refl, inr (shows_a, (refl, refl), inr (tt, refl, refl)))),
    record {
      ending = outcome.done;
      drawn = 0;
      within = omega arith;
      used = omega arith;
      status_is = refl;
      ran = record {
        outcome_ = outcome_of (end_of shows_a 1000000).system outcome.done 2 0;
        outcome_is = (outcome.done, end_of shows_a 1000000, 0, (200, refl), refl);
        ending_is = refl;
        never_bad = tt;
        draws = refl;
        leaves = record { input = refl; shown_ = refl; printed = refl; disk = record { valid = refl; files = refl }; count = refl };
        kernel_is = record { parts = shows_a; parts_are = refl; machine = end_of shows_a 1000000; ends = (200, refl); turns = refl; store = refl };
      };
      keeps = refl;
    },
  ),
  refl,
)

-- the same with one turn, and a record of no choices
pub a_bound_is_used_up : RunsSo shows_a (codes "exec" ∷ codes "c" ∷ codes "--turns" ∷ codes "1" ∷ codes "--record" ∷ codes "r" ∷ []) 1 status.Turns
    (codes "a\nturn limit\n") 1 (λ files. map.insert files (codes "r") [])
unfolding decode zero_words code_bytes code_fault_of words_fault
a_bound_is_used_up files code_file store used = (
  codes "a",
  inr (
    (shows_a, listed []),
    inr (code_bytes shows_a, code_file, inr (listed [], refl, inr (shows_a, (refl, refl), inr (tt, refl, refl)))),
    record {
      ending = outcome.turns;
      drawn = 0;
      within = omega arith;
      used = omega arith;
      status_is = refl;
      ran = record {
        outcome_ = outcome_of (end_of shows_a 1).system outcome.turns 1 0;
        outcome_is = (outcome.turns, end_of shows_a 1, 0, (200, refl), refl);
        ending_is = refl;
        never_bad = tt;
        draws = refl;
        leaves = record { input = refl; shown_ = refl; printed = refl; disk = record { valid = refl; files = refl }; count = refl };
        kernel_is = record { parts = shows_a; parts_are = refl; machine = end_of shows_a 1; ends = (200, refl); turns = refl; store = tt };
      };
      keeps = refl;
    },
  ),
  refl,
)
