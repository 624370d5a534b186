-- The first broken rule of an image is a rule that is broken, and never a fault of the drive or want of memory.
use Rattle.std.proofs.Common.{ℕ, ◌+◌, ◌-◌, Bool, true, false, List, [], ◌∷◌, ◌++◌, length, Option, Some, None, sym, subst, arith}
use Rattle.std.specs.Prelude.{if◌then◌else◌, min, ⊤}
use Rattle.edi_image.specs.declared.entries.Said.{Said}
use Rattle.edi_image.specs.declared.entries.Said.TheVariants as said
use Rattle.edi_image.specs.declared.faults.MountFault.{MountFault}
use Rattle.edi_image.specs.declared.faults.MountFault.TheVariants as fault
use Rattle.edi_image.specs.Entries.{block_at}
use Rattle.edi_image.specs.Image.{mount_fault_of, header_rules, entries_of, entry_rules, map_rules, maps_rules, numbers_in, slot_rules, titles_in}
use Rattle.edi_image.specs.migrate.OldImage.{old_fault_of, old_entries_of}
use Rattle.edi_image.specs.Rules.{Rule, needs, uses, first_broken, is_in, page_rules}
use Rattle.edi_image.proofs.ImageRules.{rules_of}
use Rattle.edi_calls.specs.State.{pages_of}
use Rattle.edi_statuses.specs.Steps.{IsBrokenRule}

-- what is found is a rule
abbrev pub IsRule : Option MountFault → Type 0
IsRule None = ⊤
IsRule (Some broken) = IsBrokenRule broken

abbrev AreRules : List Rule → Type 0
AreRules [] = ⊤
AreRules (needs test broken ∷ rules) = IsBrokenRule broken × AreRules rules
AreRules (uses block ∷ rules) = AreRules rules

by_test : (b : Bool) (x y : Option MountFault) → IsRule x → IsRule y → IsRule (if b then x else y)
by_test true x y p q = p
by_test false x y p q = q

first_is_rule : (used : List ℕ) (rules : List Rule) → AreRules rules → IsRule (first_broken used rules)
first_is_rule used [] h = tt
first_is_rule used (needs test broken ∷ rules) h = by_test test (first_broken used rules) (Some broken) (first_is_rule used rules h.1) h.0
first_is_rule used (uses block ∷ rules) h =
    by_test (is_in block used) (Some (fault.Shared block)) (first_broken (used ++ block ∷ []) rules) tt (first_is_rule (used ++ block ∷ []) rules h)

both : (xs ys : List Rule) → AreRules xs → AreRules ys → AreRules (xs ++ ys)
both [] ys h k = k
both (needs test broken ∷ xs) ys h k = (h.0, both xs ys h.1 k)
both (uses block ∷ xs) ys h k = both xs ys h k

pages_are : (first count slot : ℕ) (pages : List ℕ) → AreRules (page_rules first count slot pages)
pages_are first count slot [] = tt
pages_are first count slot (page ∷ pages) = (tt, pages_are first count slot pages)

map_is : (first : ℕ) (blocks : List (List ℕ)) (slot pages map : ℕ) → AreRules (map_rules first blocks slot pages map)
map_is first blocks slot pages map = (tt, pages_are first (length blocks) slot (numbers_in (block_at blocks map) pages))

maps_are : (first : ℕ) (blocks : List (List ℕ)) (slot pages : ℕ) (maps : List ℕ) → AreRules (maps_rules first blocks slot pages maps)
maps_are first blocks slot pages [] = tt
maps_are first blocks slot pages (map ∷ maps) =
    both (map_rules first blocks slot (min pages 255) map) (maps_rules first blocks slot (pages - 255) maps)
    (map_is first blocks slot (min pages 255) map) (maps_are first blocks slot (pages - 255) maps)

entry_is : (first : ℕ) (blocks : List (List ℕ)) (slot : ℕ) (titles : List (List ℕ)) (s : Said) → AreRules (entry_rules first blocks slot titles s)
entry_is first blocks slot titles said.Free = tt
entry_is first blocks slot titles said.Wrong = (tt, tt)
entry_is first blocks slot titles (said.File r) = (tt, maps_are first blocks slot (pages_of r.length) r.maps)

slots_are : (first : ℕ) (blocks : List (List ℕ)) (slot : ℕ) (titles : List (List ℕ)) (entries : List Said)
    → AreRules (slot_rules first blocks slot titles entries)
slots_are first blocks slot titles [] = tt
slots_are first blocks slot titles (s ∷ entries) =
    both (entry_rules first blocks slot titles s) (slot_rules first blocks (slot + 1) (titles ++ titles_in s) entries)
    (entry_is first blocks slot titles s) (slots_are first blocks (slot + 1) (titles ++ titles_in s) entries)

image_is : (version first : ℕ) (blocks : List (List ℕ)) (entries : List Said)
    → IsRule (first_broken [] (header_rules version blocks ++ slot_rules first blocks 0 [] entries))
image_is version first blocks entries =
    first_is_rule [] (header_rules version blocks ++ slot_rules first blocks 0 [] entries)
    (both (header_rules version blocks) (slot_rules first blocks 0 [] entries) (tt, (tt, tt)) (slots_are first blocks 0 [] entries))

pub mount_is_rule : (blocks : List (List ℕ)) → IsRule (mount_fault_of blocks)
mount_is_rule [] = tt
mount_is_rule (block ∷ blocks) =
    subst IsRule (sym (rules_of (block ∷ blocks) (omega arith))) (image_is 2 33 (block ∷ blocks) (entries_of (block ∷ blocks)))

pub old_is_rule : (blocks : List (List ℕ)) → IsRule (old_fault_of blocks)
old_is_rule [] = tt
old_is_rule (block ∷ blocks) = image_is 1 5 (block ∷ blocks) (old_entries_of (block ∷ blocks))
