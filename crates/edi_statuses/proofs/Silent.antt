-- Calls in which nothing was shown before the line of the status: words that are refused, want of memory, and a command that
-- touches the files alone.
use Rattle.std.proofs.Common.{◌≡◌, ℕ, ◌++◌, Bool, false, List, [], Option, Some, None, refl, sym, subst, inl}
use Rattle.edi_told.specs.Told.{WhereTold}
use Rattle.edi_told.specs.Faults.{CountRose}
use Rattle.edi_host.specs.Contents.{Contents}
use Rattle.edi_words.specs.Words as words
use Rattle.edi_words.specs.Words.{Command}
use Rattle.edi_statuses.specs.declared.status.Status.{Status}
use Rattle.edi_statuses.specs.declared.status.Status.TheVariants as status
use Rattle.edi_statuses.specs.Outside.{Outside, seen, KernelLeft}
pub use Rattle.edi_statuses.specs.Outside.{idle}
use Rattle.edi_statuses.specs.Counts.{Counts, HasCause}
use Rattle.edi_statuses.specs.Commands.{IsNothing}
use Rattle.edi_statuses.specs.Means.{Means}
use Rattle.edi_statuses.specs.Decided.{Came}
use Rattle.edi_statuses.specs.OnFiles.{IsOfFiles, MeansOnFiles, RestIsSame}
use Rattle.edi_statuses.proofs.EachLeft.{each_same}
use Rattle.edi_statuses.proofs.Told.{itself, same_told, shows_nothing}

pub nothing_shown : (shown : Option (List ℕ)) → WhereTold shown shown (λ old new. new ≡ old ++ [])
nothing_shown shown = shows_nothing shown shown refl

nothing : (o : Outside) (kernel : KernelLeft) → IsNothing o o [] (idle kernel)
nothing o kernel = record {
  shown_ = refl;
  same = record { files = itself o.files; blocks = itself o.blocks; input = itself o.input; printed = itself o.printed };
  kernel_same = refl;
}

-- nothing was done
pub nothing_seen : (o : Outside) (kernel : KernelLeft) → IsNothing (seen o o) o [] (idle kernel)
nothing_seen o kernel = record {
  shown_ = refl;
  same = record {
    files = same_told o.files o.files refl;
    blocks = same_told o.blocks o.blocks refl;
    input = same_told o.input o.input refl;
    printed = same_told o.printed o.printed refl;
  };
  kernel_same = refl;
}

-- words that are refused
pub refused : (s : Status) (due : Bool) (c : Option Command) (o : Outside) (kernel : KernelLeft) → s ≡ status.Words → due ≡ false → c ≡ None
    → Came s due c o o (idle kernel)
refused s due c o kernel is silent none = record {
  shown = [];
  means = subst (λ x. Means s x o o [] (idle kernel)) (sym none) (subst (λ t. Means t None o o [] (idle kernel)) (sym is) (nothing o kernel));
  shows = nothing_shown o.shown;
  due_is = silent;
  each = each_same c o o refl refl refl;
}

-- want of memory before a command has begun
wants_any : (c : Option Command) (o : Outside) (kernel : KernelLeft) → Means status.NoMemory c o o [] (idle kernel)
wants_any None o kernel = nothing o kernel
wants_any (Some (words.run file options)) o kernel = inl (nothing_seen o kernel)
wants_any (Some (words.replay file choices turns)) o kernel = nothing_seen o kernel
wants_any (Some (words.exec file options)) o kernel = inl (nothing_seen o kernel)
wants_any (Some (words.compile file out)) o kernel = nothing_seen o kernel
wants_any (Some (words.boot options)) o kernel = inl (nothing_seen o kernel)
wants_any (Some (words.newdisk blocks old)) o kernel = nothing_seen o kernel
wants_any (Some (words.put file title)) o kernel = nothing_seen o kernel
wants_any (Some (words.get title file)) o kernel = nothing_seen o kernel
wants_any (Some (words.list file)) o kernel = nothing_seen o kernel
wants_any (Some (words.demo n options)) o kernel = inl (nothing_seen o kernel)
wants_any (Some (words.check file)) o kernel = nothing_seen o kernel
wants_any (Some (words.explain file)) o kernel = nothing_seen o kernel
wants_any (Some (words.walk file choices turns)) o kernel = inl (nothing_seen o kernel)
wants_any (Some (words.watch file points_file out options)) o kernel = inl (nothing_seen o kernel)
wants_any (Some (words.explore file options)) o kernel = inl (nothing_seen o kernel)
wants_any (Some (words.run_with file account options)) o kernel = inl (nothing_seen o kernel)
wants_any (Some (words.exec_with file account options)) o kernel = inl (nothing_seen o kernel)
wants_any (Some (words.demo_with n account options)) o kernel = inl (nothing_seen o kernel)

pub wants : (s : Status) (due : Bool) (c : Option Command) (o : Outside) (kernel : KernelLeft) → s ≡ status.NoMemory → due ≡ false
    → Came s due c o o (idle kernel)
wants s due c o kernel is silent = record {
  shown = [];
  means = subst (λ t. Means t c o o [] (idle kernel)) (sym is) (wants_any c o kernel);
  shows = nothing_shown o.shown;
  due_is = silent;
  each = each_same c o o refl refl refl;
}

-- ---- a command that touches the files alone

-- another outside has other files
abbrev pub with_files : Option Contents → Outside → Outside
with_files files o = record { files = files; blocks = o.blocks; input = o.input; shown = o.shown; printed = o.printed }

pub on_files : (c : Command) (s : Status) (due : Bool) (before : Outside) (new : Option Contents) (kernel : KernelLeft) → due ≡ false
    → MeansOnFiles c s before.files new → Came s due (Some c) before (with_files new before) (idle kernel)
on_files c s due before new kernel silent means =
    let rest : RestIsSame before (with_files new before) (idle kernel) = record { blocks = refl; input = refl; printed = refl; kernel_same = refl } in
    record {
      shown = [];
      means = means before (with_files new before) (idle kernel) refl refl rest;
      shows = nothing_shown before.shown;
      due_is = silent;
      each = each_same (Some c) before (with_files new before) refl refl refl;
    }

pub file_cause : (s : Status) (before after : Counts) → IsOfFiles s → (s ≡ status.FileFault → CountRose before.files after.files)
    → HasCause s before after
file_cause status.FileFault before after kind rose = rose refl
file_cause status.DriveFault before after kind rose = absurd kind
file_cause status.InputFault before after kind rose = absurd kind
file_cause status.OutputFault before after kind rose = absurd kind
file_cause status.Ok before after kind rose = tt
file_cause status.Words before after kind rose = tt
file_cause status.NoMemory before after kind rose = tt
file_cause (status.Refused kind_ line) before after kind rose = tt
file_cause (status.Stopped cause line) before after kind rose = tt
file_cause status.Turns before after kind rose = tt
file_cause (status.BadImage broken) before after kind rose = tt
file_cause (status.BadCode broken) before after kind rose = tt
file_cause (status.BadState address) before after kind rose = tt
file_cause status.Absent before after kind rose = tt
file_cause (status.BadChoices line) before after kind rose = tt
file_cause status.SessionLimit before after kind rose = tt
file_cause status.DiskFull before after kind rose = tt
file_cause status.FileLarge before after kind rose = tt
file_cause status.Standstill before after kind rose = tt
file_cause (status.BadPoints line) before after kind rose = tt
file_cause (status.Found others) before after kind rose = tt
file_cause status.NotAll before after kind rose = tt
file_cause status.InputLimit before after kind rose = tt
file_cause status.NoEnding before after kind rose = tt
