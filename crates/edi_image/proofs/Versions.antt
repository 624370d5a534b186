-- Images of any version: what their entries say, slot by slot, and the rules on them.
use Rattle.std.proofs.Common.{◌≡◌, ℕ, zero, suc, ◌+◌, ◌-◌, ◌<◌, Bool, true, false, List, [], ◌∷◌, ◌++◌, refl, ap, sym, ◌∙◌, subst, arith}
use Rattle.std.specs.Prelude.{map, replicate, if◌then◌else◌, Option, Some, None}
use Rattle.edi_image.specs.declared.faults.MountFault.{MountFault}
use Rattle.edi_image.specs.declared.entries.Said.{Said}
use Rattle.edi_image.specs.declared.entries.Said.TheVariants as said
use Rattle.edi_image.specs.Records.{FileRecord}
use Rattle.edi_image.specs.Rules.{first_broken}
use Rattle.edi_image.specs.Image.{header_rules, entry_rules, slot_rules, titles_in}
use Rattle.edi_image.specs.Stored.{StoredFile, stored_of, titles_of}
use Rattle.edi_image.specs.Finds.{IsFirst, TakesSlot}
use Rattle.edi_image.proofs.FileRules.{goes_on, breaks_early}

-- ---- an entry

-- a test that a free entry and a wrong one pass, and a file where the entry keeps its rules
pub says_fit : (fit : Said → Bool) → fit said.Free ≡ true → fit said.Wrong ≡ true → (z e : Bool) (r : FileRecord)
    → (e ≡ true → fit (said.File r) ≡ true) → fit (if z then said.Free else (if e then said.File r else said.Wrong)) ≡ true
says_fit fit free wrong true e r h = free
says_fit fit free wrong false true r h = h refl
says_fit fit free wrong false false r h = wrong

-- ---- the rules of an image: those on its header, and then those on its entries

module _ (version low : ℕ) (blocks : List (List ℕ)) (entries : List Said) (fault : Option MountFault)
    (is : fault ≡ first_broken [] (header_rules version blocks ++ slot_rules low blocks 0 [] entries)) where
  pub rules_go_on : first_broken [] (header_rules version blocks) ≡ None → first_broken [] (slot_rules low blocks 0 [] entries) ≡ fault
  rules_go_on none = sym (is ∙ goes_on [] [] (header_rules version blocks) (slot_rules low blocks 0 [] entries) none refl)

  pub rules_fail : (e : MountFault) → IsFirst e (first_broken [] (header_rules version blocks)) → IsFirst e fault
  rules_fail e broken = subst (IsFirst e) (sym is) (breaks_early e [] (header_rules version blocks) (slot_rules low blocks 0 [] entries) broken)

-- ---- what is kept

pub titles_of-append : (files : List (Option StoredFile)) (file : Option StoredFile)
    → titles_of (files ++ file ∷ []) ≡ titles_of files ++ titles_of (file ∷ [])
titles_of-append [] file = refl
titles_of-append (None ∷ files) file = titles_of-append files file
titles_of-append (Some f ∷ files) file = ap (λ ts. f.record_.title ∷ ts) (titles_of-append files file)

titles_stored : (blocks : List (List ℕ)) (s : Said) → titles_of (stored_of blocks s ∷ []) ≡ titles_in s
titles_stored blocks said.Free = refl
titles_stored blocks said.Wrong = refl
titles_stored blocks (said.File r) = refl

map_more : (blocks : List (List ℕ)) (es : List Said) (e : Said) → map (stored_of blocks) (es ++ e ∷ []) ≡ map (stored_of blocks) es ++ stored_of blocks e ∷ []
map_more blocks [] e = refl
map_more blocks (x ∷ es) e = ap (λ fs. stored_of blocks x ∷ fs) (map_more blocks es e)

-- no disk has no files
pub no_files : (entries : List (List ℕ) → List Said) (count : ℕ) → map (stored_of []) (entries []) ≡ replicate count None → (blocks : List (List ℕ))
    → blocks ≡ [] → replicate count None ≡ map (stored_of blocks) (entries blocks)
no_files entries count free blocks none = sym (ap (λ bs. map (stored_of bs) (entries bs)) none ∙ free)

-- ---- all slots

-- the list of what so many entries say, from a slot on, where each says this
pub record Tell (says : ℕ → Said) (entries : (slot count : ℕ) → List Said) : Type 0 where
  pub none : (slot : ℕ) → entries slot zero ≡ []
  pub more : (slot n : ℕ) → entries slot (suc n) ≡ says slot ∷ entries (slot + 1) n

-- what the check of so many entries has come to before a slot
pub record Progress (low count : ℕ) (blocks : List (List ℕ)) (entries : ℕ → ℕ → List Said) (slot : ℕ) (used : List ℕ)
    (files : List (Option StoredFile)) : Type 0 where
  pub rules : first_broken [] (slot_rules low blocks 0 [] (entries 0 count))
      ≡ first_broken used (slot_rules low blocks slot (titles_of files) (entries slot (count - slot)))
  pub files_ : files ≡ map (stored_of blocks) (entries 0 slot)

module _ (low count : ℕ) (blocks : List (List ℕ)) (says : ℕ → Said) (entries : ℕ → ℕ → List Said) (tell : Tell says entries) where
  progress_begins : Progress low count blocks entries 0 [] []
  progress_begins = record {
    rules = ap (λ n. first_broken [] (slot_rules low blocks 0 [] (entries 0 n))) (let whole : count ≡ count - 0 = omega arith in whole);
    files_ = ap (map (stored_of blocks)) (sym (tell.none 0));
  }

  pub progress_from : (used : List ℕ) (files : List (Option StoredFile)) → used ≡ [] → files ≡ [] → Progress low count blocks entries 0 used files
  progress_from used files u f =
      subst (λ us. Progress low count blocks entries 0 us files) (sym u) (subst (λ fs. Progress low count blocks entries 0 [] fs) (sym f) progress_begins)

  entries_more : (first n : ℕ) → entries first (suc n) ≡ entries first n ++ says (first + n) ∷ []
  entries_more first zero =
      tell.more first zero ∙ ap (λ es. says first ∷ es) (tell.none (first + 1))
      ∙ ap (λ m. says m ∷ []) (let zero_more : first ≡ first + 0 = omega arith in zero_more)
      ∙ ap (λ es. es ++ says (first + 0) ∷ []) (sym (tell.none first))
  entries_more first (suc n) =
      tell.more first (suc n)
      ∙ ap (λ es. says first ∷ es)
      (entries_more (first + 1) n
      ∙ ap (λ m. entries (first + 1) n ++ says m ∷ []) (let index : first + 1 + n ≡ first + suc n = omega arith in index))
      ∙ ap (λ es. es ++ says (first + suc n) ∷ []) (sym (tell.more first n))

  rules_from : (slot : ℕ) (used : List ℕ) (files : List (Option StoredFile)) → slot < count
      → first_broken used (slot_rules low blocks slot (titles_of files) (entries slot (count - slot)))
      ≡ first_broken used (entry_rules low blocks slot (titles_of files) (says slot)
      ++ slot_rules low blocks (slot + 1) (titles_of files ++ titles_in (says slot)) (entries (slot + 1) (count - (slot + 1))))
  rules_from slot used files h =
      let left : count - slot ≡ suc (count - (slot + 1)) = omega arith in
      ap (λ es. first_broken used (slot_rules low blocks slot (titles_of files) es)) (ap (entries slot) left ∙ tell.more slot (count - (slot + 1)))

  pub progress_on : (slot : ℕ) (used0 used1 : List ℕ) (files0 files1 : List (Option StoredFile)) → slot < count
      → Progress low count blocks entries slot used0 files0
      → first_broken used0 (entry_rules low blocks slot (titles_of files0) (says slot)) ≡ None
      → TakesSlot used0 used1 (entry_rules low blocks slot (titles_of files0) (says slot)) files0 files1 (stored_of blocks (says slot))
      → Progress low count blocks entries (slot + 1) used1 files1
  progress_on slot used0 used1 files0 files1 h so_far none taken =
      let titles : titles_of files1 ≡ titles_of files0 ++ titles_in (says slot) =
      ap titles_of taken.files ∙ titles_of-append files0 (stored_of blocks (says slot))
      ∙ ap (λ ts. titles_of files0 ++ ts) (titles_stored blocks (says slot)) in
      record {
        rules =
            so_far.rules ∙ rules_from slot used0 files0 h
            ∙ goes_on used0 used1 (entry_rules low blocks slot (titles_of files0) (says slot)) _ none taken.used
            ∙ ap (λ ts. first_broken used1 (slot_rules low blocks (slot + 1) ts (entries (slot + 1) (count - (slot + 1))))) (sym titles);
        files_ =
            taken.files ∙ ap (λ fs. fs ++ stored_of blocks (says slot) ∷ []) so_far.files_
            ∙ sym (map_more blocks (entries 0 slot) (says slot))
            ∙ ap (map (stored_of blocks))
            (ap (λ m. entries 0 slot ++ says m ∷ []) (let index : slot ≡ 0 + slot = omega arith in index)
            ∙ sym (entries_more 0 slot)
            ∙ ap (entries 0) (let one : suc slot ≡ slot + 1 = omega arith in one));
      }

  pub progress_fails : (slot : ℕ) (used : List ℕ) (files : List (Option StoredFile)) (e : MountFault) → slot < count
      → Progress low count blocks entries slot used files → IsFirst e (first_broken used (entry_rules low blocks slot (titles_of files) (says slot)))
      → IsFirst e (first_broken [] (slot_rules low blocks 0 [] (entries 0 count)))
  progress_fails slot used files e h so_far broken =
      subst (IsFirst e) (sym (so_far.rules ∙ rules_from slot used files h))
      (breaks_early e used (entry_rules low blocks slot (titles_of files) (says slot)) _ broken)

  pub progress_ends : (slot : ℕ) (used : List ℕ) (files : List (Option StoredFile)) → slot ≡ count → Progress low count blocks entries slot used files
      → (first_broken [] (slot_rules low blocks 0 [] (entries 0 count)) ≡ None) × (files ≡ map (stored_of blocks) (entries 0 count))
  progress_ends slot used files e so_far = (
    so_far.rules
        ∙ ap (λ es. first_broken used (slot_rules low blocks slot (titles_of files) es))
        (ap (entries slot) (let none : count - slot ≡ 0 = omega arith in none) ∙ tell.none slot),
    so_far.files_ ∙ ap (λ n. map (stored_of blocks) (entries 0 n)) e,
  )

-- entries that are all free
pub none_said : (says : ℕ → Said) (entries : ℕ → ℕ → List Said) → Tell says entries → ((slot : ℕ) → says slot ≡ said.Free) → (slot n : ℕ)
    → map (stored_of []) (entries slot n) ≡ replicate n None
none_said says entries tell free slot zero = ap (map (stored_of [])) (tell.none slot)
none_said says entries tell free slot (suc n) =
    ap (map (stored_of [])) (tell.more slot n)
    ∙ ap (λ s. stored_of [] s ∷ map (stored_of []) (entries (slot + 1) n)) (free slot)
    ∙ ap (λ fs. None ∷ fs) (none_said says entries tell free (slot + 1) n)
