-- The rules of an image from those of its parts.
use Rattle.std.proofs.Common.{◌≡◌, ℕ, zero, suc, ◌*◌, ◌%◌, ◌<◌, List, [], ◌∷◌, ◌++◌, length, take, drop, refl, ap, sym, subst, arith}
use Rattle.std.specs.Prelude.{map, replicate, Option, None, Result, Ok, Err, MatchResult}
use Rattle.edi_image.specs.declared.faults.MountFault.{MountFault}
use Rattle.edi_image.specs.declared.faults.MountFault.TheVariants as fault
use Rattle.edi_image.specs.declared.entries.Said.TheVariants as said
use Rattle.edi_image.specs.Rules.{first_broken}
use Rattle.edi_image.specs.Entries.{entry_says}
use Rattle.edi_image.specs.Image.{header_rules, slot_rules, image_rules, said_at, entries_from, entries_of, mount_fault_of}
use Rattle.edi_image.specs.Stored.{stored_of}
use Rattle.edi_image.specs.Finds.{Finds, IsFirst}
use Rattle.edi_image.proofs.SlotRules.{tells}
use Rattle.edi_image.proofs.Versions.{rules_go_on, rules_fail, no_files, none_said}

pub rules_of : (blocks : List (List ℕ)) → 0 < length blocks
    → mount_fault_of blocks ≡ first_broken [] (header_rules 2 blocks ++ slot_rules 33 blocks 0 [] (entries_of blocks))
unfolding image_rules
rules_of [] h = absurd (omega arith)
rules_of (block ∷ blocks) h = refl

pub image_goes_on : (blocks : List (List ℕ)) → 0 < length blocks → first_broken [] (header_rules 2 blocks) ≡ None
    → first_broken [] (slot_rules 33 blocks 0 [] (entries_of blocks)) ≡ mount_fault_of blocks
image_goes_on blocks h none = rules_go_on 2 33 blocks (entries_of blocks) (mount_fault_of blocks) (rules_of blocks h) none

pub image_fails : (e : MountFault) (blocks : List (List ℕ)) → 0 < length blocks → IsFirst e (first_broken [] (header_rules 2 blocks))
    → IsFirst e (mount_fault_of blocks)
image_fails e blocks h broken = rules_fail 2 33 blocks (entries_of blocks) (mount_fault_of blocks) (rules_of blocks h) e broken

pub drop-nil : (n : ℕ) → drop {A = ℕ} n [] ≡ []
drop-nil zero = refl
drop-nil (suc n) = refl

nothing_said : (slot : ℕ) → said_at [] slot ≡ said.Free
nothing_said slot = ap (λ b. entry_says 0 (take 64 b)) (drop-nil (64 * (slot % 8)))

pub no_blocks : (blocks : List (List ℕ)) → length blocks ≡ 0 → blocks ≡ []
no_blocks [] e = refl
no_blocks (b ∷ blocks) e = absurd (omega arith)

pub no_disk : (blocks : List (List ℕ)) → length blocks ≡ 0
    → (mount_fault_of blocks ≡ None) × (replicate 256 None ≡ map (stored_of blocks) (entries_of blocks))
unfolding entries_of
no_disk blocks e = let none = no_blocks blocks e in
    (ap mount_fault_of none, no_files entries_of 256 (none_said (said_at []) (entries_from []) (tells []) nothing_said 0 256) blocks none)

pub made_finds : {X : Type 0} (r : Result X MountFault) (P Q : X → Type 0) (broken : Option MountFault)
    → MatchResult r P (λ e. e ≡ fault.NoMemory) → broken ≡ None → ((x : X) → P x → Q x) → Finds r broken Q
made_finds (Ok x) P Q broken m none so = (none, so x m)
made_finds (Err e) P Q broken m none so = subst (λ f. IsFirst f broken) (sym m) tt
