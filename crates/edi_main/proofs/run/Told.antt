-- Choices that were read, and what is told at their files.
use Rattle.std.proofs.Common.{◌≡◌, Option, refl, inl, inr, true}
use Rattle.std.specs.Prelude.{⊤}
use Rattle.edi_told.specs.Told.{WhereTold}
use Rattle.edi_host.specs.Contents.{Contents}
use Rattle.edi_calls.specs.Choice.{Choices}
use Rattle.edi_words.specs.Words.{ChoicesFrom, nowhere, file, seed}
use Rattle.edi_statuses.specs.EachObject.{is_in_file}
use Rattle.edi_statuses.specs.Outside.{Outside, still_told}
use Rattle.edi_statuses.specs.Steps.{AfterStep, goes, stops, ReadsChoices, ChoicesAreThere}
use Rattle.edi_statuses.proofs.Told.{till_the_last}
use Rattle.edi_main.specs.steps.OnFiles.{files_only}

pub reads_till_the_last : (from : ChoicesFrom) (choices : Choices) (old mid new : Option Contents) → WhereTold mid new (λ a b. ⊤)
    → ReadsChoices (files_only (still_told old mid)) from (goes choices) → ReadsChoices (files_only (still_told old new)) from (goes choices)
reads_till_the_last nowhere choices old mid new k h = h
reads_till_the_last (seed n) choices old mid new k h = h
reads_till_the_last (file name) choices old mid new k (inl h) = absurd h
reads_till_the_last (file name) choices old mid new k (inr h) = inr (h.0, till_the_last _ old mid new k h.1, h.2)

pub there_on_files : (o : Outside) (from : ChoicesFrom) → ChoicesAreThere (files_only o.files) from → ChoicesAreThere o from
there_on_files o nowhere h = h
there_on_files o (file name) h = h
there_on_files o (seed n) h = h

-- choices that are there are in a file
pub in_file : (o : Outside) (from : ChoicesFrom) → ChoicesAreThere o from → is_in_file from ≡ true
in_file o nowhere h = absurd h
in_file o (file name) h = refl
in_file o (seed n) h = absurd h

-- of all objects the files alone are looked at
pub on_files : (o : Outside) (from : ChoicesFrom) (r : AfterStep Choices) → ReadsChoices (files_only o.files) from r → ReadsChoices o from r
on_files o nowhere r k = k
on_files o (seed n) r k = k
on_files o (file name) (goes choices) (inl k) = absurd k
on_files o (file name) (stops s) (inl k) = inl k
on_files o (file name) r (inr k) = inr k
