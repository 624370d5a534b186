-- The files of the endings that are kept.
use Rattle.std.proofs.Common.{◌≡◌, ℕ, ◌≤◌, List, length, map, Option, Some, sym, ap, subst, ◌∙◌, arith}
use Rattle.std.specs.Prelude.{take}
use Rattle.std.proofs.lemmas.List.{length-map, take-map, take_all}
use Rattle.edi_told.specs.Told.{WhereTold}
use Rattle.edi_host.specs.declared.files.KeepEnd.{KeepEnd}
use Rattle.edi_host.specs.Contents.{Contents}
use Rattle.edi_explore.specs.declared.ends.Found.{Found}
use Rattle.edi_runs.specs.explore.Keeping.{KeepsInTurn}
use Rattle.edi_runs.specs.explore.Records.{most_records, records_from, records_of}
use Rattle.edi_runs.specs.explore.Told.{reached_of}

-- Where so much is kept of the rest, this is kept of all.
abbrev pub Continues : (all rest : List (List ℕ × List ℕ)) → (old now : Contents) → Type 0
Continues all rest old now = (end : KeepEnd) (new : Contents) → KeepsInTurn end rest now new → KeepsInTurn end all old new

first_records : (name : List ℕ) (all first : List Found) → first ≡ take 1000 all →
    records_from name 1 (map reached_of first) ≡ records_of (Some name) (map reached_of all)
unfolding most_records
first_records name all first e =
    ap (λ fs. records_from name 1 (map reached_of fs)) e ∙ ap (records_from name 1) (sym (take-map reached_of 1000 all))

all_records : (name : List ℕ) (all : List Found) → length all ≤ 1000 → records_from name 1 (map reached_of all) ≡ records_of (Some name) (map reached_of all)
unfolding most_records
all_records name all few =
    ap (records_from name 1) (sym (take_all 1000 (map reached_of all) (omega (arith, few, length-map all reached_of))))

module _ (start after : Option Contents) (end : KeepEnd) (name : List ℕ) (all : List Found) where
  pub first_kept : (first : List Found) → first ≡ take 1000 all → WhereTold start after (KeepsInTurn end (records_from name 1 (map reached_of first))) →
      WhereTold start after (KeepsInTurn end (records_of (Some name) (map reached_of all)))
  first_kept first e told = subst (λ rs. WhereTold start after (KeepsInTurn end rs)) (first_records name all first e) told

  pub all_kept : length all ≤ 1000 → WhereTold start after (KeepsInTurn end (records_from name 1 (map reached_of all))) →
      WhereTold start after (KeepsInTurn end (records_of (Some name) (map reached_of all)))
  all_kept few told = subst (λ rs. WhereTold start after (KeepsInTurn end rs)) (all_records name all few) told
