-- An image of version 1 as it is checked.
use Rattle.std.proofs.Common.{◌≡◌, ℕ, zero, suc, ◌+◌, ◌*◌, ◌<◌, ◌%◌, Bool, true, false, List, [], ◌∷◌, ◌++◌, length, take, replicate, refl, ap, sym, ◌∙◌}
use Rattle.std.proofs.Common.{append_assoc, arith}
use Rattle.std.specs.Prelude.{◌==◌, map, Option, None}
use Rattle.std.specs.List.{list_all}
use Rattle.std.proofs.lemmas.Bool.{eqb-true}
use Rattle.std.proofs.lemmas.List.{replicate_more}
use Rattle.edi_image.specs.declared.entries.Said.TheVariants as said
use Rattle.edi_image.specs.Rules.{first_broken}
use Rattle.edi_image.specs.migrate.OldEntries.{old_entry_says}
use Rattle.edi_image.specs.Image.{header_rules, slot_rules}
use Rattle.edi_image.specs.migrate.OldImage.{old_entries_from, old_entries_of, old_fault_of}
use Rattle.edi_image.specs.migrate.OldFiles.{is_old_stored, old_said_at}
use Rattle.edi_image.specs.Stored.{StoredFile, stored_of}
use Rattle.edi_image.proofs.ImageRules.{drop-nil, no_blocks}
use Rattle.edi_image.proofs.Versions.{no_files, none_said}
use Rattle.edi_image.proofs.migrate.OldRules.{old_tells}

pub old_rules_of : (blocks : List (List ℕ)) → 0 < length blocks
    → old_fault_of blocks ≡ first_broken [] (header_rules 1 blocks ++ slot_rules 5 blocks 0 [] (old_entries_of blocks))
old_rules_of [] h = absurd (omega arith)
old_rules_of (block ∷ blocks) h = refl

-- ---- no disk

nothing_said : (slot : ℕ) → old_said_at [] slot ≡ said.Free
nothing_said slot = ap (λ b. old_entry_says 0 (take 32 b)) (drop-nil (32 * (slot % 16)))

pub no_old_disk : (blocks : List (List ℕ)) → length blocks ≡ 0
    → (old_fault_of blocks ≡ None) × (replicate 64 None ≡ map (stored_of blocks) (old_entries_of blocks))
unfolding old_entries_of
no_old_disk blocks e = let none = no_blocks blocks e in
    (ap old_fault_of none, no_files old_entries_of 64 (none_said (old_said_at []) (old_entries_from []) (old_tells []) nothing_said 0 64) blocks none)

pub is_none : (n : ℕ) (empty : Bool) → empty ≡ (n == 0) → empty ≡ true → n ≡ 0
is_none n empty e h = eqb-true n 0 (sym e ∙ h)

pub is_some : (n : ℕ) (empty : Bool) → empty ≡ (n == 0) → empty ≡ false → 0 < n
is_some zero empty e h = absurd (let no : true ≡ false = sym e ∙ h in cc)
is_some (suc n) empty e h = omega arith

-- ---- free slots

pub free_stored : (count n : ℕ) → list_all (is_old_stored count) (replicate n None) ≡ true
free_stored count zero = refl
free_stored count (suc n) = free_stored count n

-- one more free slot
pub free_more : (start before after : List (Option StoredFile)) (n : ℕ) → before ≡ start ++ replicate n None → after ≡ before ++ None ∷ []
    → after ≡ start ++ replicate (n + 1) None
free_more start before after n b a =
    a ∙ ap (λ fs. fs ++ None ∷ []) b ∙ append_assoc start (replicate n None) (None ∷ [])
    ∙ ap (λ fs. start ++ fs) (replicate_more n None)
