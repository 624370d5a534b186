-- The rules on the entry of a slot, and on the entries behind it.
use Rattle.std.proofs.Common.{◌≡◌, ℕ, ◌+◌, ◌*◌, ◌/◌, ◌%◌, ◌<◌, Bool, true, false, List, [], ◌∷◌, ◌++◌, length, take, drop, refl, ap, sym}
use Rattle.std.proofs.Common.{◌∙◌, subst}
use Rattle.std.specs.Prelude.{◌&&◌, ◌==◌, nat_le, map, if◌then◌else◌, Option, Some, None, Result, Ok, Err, MatchResult}
use Rattle.edi_calls.specs.State.{is_title, without_blanks, pages_of}
use Rattle.edi_image.specs.declared.faults.MountFault.{MountFault}
use Rattle.edi_image.specs.declared.faults.MountFault.TheVariants as fault
use Rattle.edi_image.specs.declared.entries.Said.{Said}
use Rattle.edi_image.specs.declared.entries.Said.TheVariants as said
use Rattle.edi_image.specs.Records.{FileRecord, maps_of}
use Rattle.edi_image.specs.Rules.{first_broken, used_by}
use Rattle.edi_image.specs.Entries.{short_at, long_at, block_at, are_zeros, is_data, is_entry, fields_fit, record_in, entry_says}
use Rattle.edi_image.specs.Image.{file_rules, entry_rules, slot_rules, entry_at, said_at, entries_from, entries_of, numbers_of}
use Rattle.edi_image.specs.Stored.{StoredFile, stored_of, titles_of, are_data, is_record, is_fit}
use Rattle.edi_image.specs.Finds.{IsFirst, Finds, TakesSlot, failed}
use Rattle.edi_image.proofs.Spelled.{both}
use Rattle.edi_image.proofs.Versions as versions
use Rattle.edi_image.proofs.Versions.{Tell, says_fit}

-- ---- what is known of an entry's record

maps_fit : (few : Bool) (count first second : ℕ) → is_data 33 count first ≡ true
    → (if few then second == 0 else is_data 33 count second) ≡ true
    → (are_data count (maps_of first (if few then None else Some second)) ≡ true)
    × ((length (maps_of first (if few then None else Some second)) == (if few then 1 else 2)) ≡ true)
maps_fit true count first second f s = (ap (λ b. b && true) f, refl)
maps_fit false count first second f s =
    (ap (λ b. b && (is_data 33 count second && true)) f ∙ ap (λ b. b && true) s, refl)

record_fits : (count : ℕ) (bytes : List ℕ) → is_entry count bytes ≡ true → is_record count (record_in bytes) ≡ true
record_fits count bytes h =
    let title : (is_title (without_blanks (take 24 bytes)) ≡ true) × (fields_fit count bytes ≡ true) = both _ _ h in
    let zeros = both _ _ title.1 in
    let second = both _ _ zeros.0 in
    let first = both _ _ second.0 in
    let size = both _ _ first.0 in
    let maps : (are_data count (record_in bytes).maps ≡ true)
    × ((length (record_in bytes).maps == (if nat_le (pages_of (long_at bytes 30)) 255 then 1 else 2)) ≡ true) =
    maps_fit (nat_le (pages_of (long_at bytes 30)) 255) count (short_at bytes 26) (short_at bytes 28) first.1 second.1 in
    every _ _ _ _ title.0 size.1 maps.0 maps.1 where
      every : (a b c d : Bool) → a ≡ true → b ≡ true → c ≡ true → d ≡ true → (a && b && c && d) ≡ true
      every true b c d ea eb ec ed = ap (λ x. x && c && d) eb ∙ ap (λ x. x && d) ec ∙ ed
      every false b c d ea eb ec ed = absurd (let no : false ≡ true = ea in cc)

pub entry_fits : (count : ℕ) (bytes : List ℕ) → is_fit count (entry_says count bytes) ≡ true
entry_fits count bytes = says_fit (is_fit count) refl refl (are_zeros bytes) (is_entry count bytes) (record_in bytes) (λ h. record_fits count bytes h)

-- an entry as it is read
pub entry_read : (blocks : List (List ℕ)) (bytes rest entry : List ℕ) (slot count n at : ℕ) (s : Said)
    → block_at blocks n ≡ bytes → length blocks ≡ count → n ≡ 1 + slot / 8 → rest ≡ drop at bytes → at ≡ 64 * (slot % 8)
    → entry ≡ take 64 rest → s ≡ entry_says count entry → said_at blocks slot ≡ s
entry_read blocks bytes rest entry slot count n at s is size index r a e says =
    ap (λ k. entry_says k (entry_at blocks slot)) size
    ∙ ap (λ b. entry_says count (take 64 (drop (64 * (slot % 8)) b))) (ap (block_at blocks) (sym index) ∙ is)
    ∙ ap (λ k. entry_says count (take 64 (drop k bytes))) (sym a)
    ∙ ap (λ b. entry_says count (take 64 b)) (sym r)
    ∙ ap (entry_says count) (sym e)
    ∙ sym says

-- ---- a slot

pub put_fine : {X : Type 0} (r : Result X MountFault) (P : X → Type 0) → MatchResult r P (λ e. e ≡ fault.NoMemory) → failed r ≡ false
put_fine (Ok x) P m = refl
put_fine (Err e) P m = ap (λ f. failed {X = Bool} (Err f)) m

pub put_finds : {X : Type 0} (r : Result X MountFault) (P : Type 0) (Q : Type 0) (broken : Option MountFault)
    → MatchResult r (λ _. P) (λ e. e ≡ fault.NoMemory) → broken ≡ None → (P → Q) → Finds r broken (λ _. Q)
put_finds (Ok x) P Q broken m none so = (none, so m)
put_finds (Err e) P Q broken m none so = subst (λ f. IsFirst f broken) (sym m) tt

pub file_taken : (used0 used1 : List ℕ) (files0 files1 seen : List (Option StoredFile)) (blocks : List (List ℕ)) (slot : ℕ) (s : Said)
    (r : FileRecord) (stored : StoredFile) → seen ≡ files0 → said_at blocks slot ≡ s → s ≡ said.File r
    → stored ≡ record { record_ = r; pages = numbers_of blocks (pages_of r.length) r.maps }
    → used1 ≡ used0 ++ used_by (file_rules 33 blocks slot (titles_of seen) r) → files1 ≡ files0 ++ Some stored ∷ []
    → TakesSlot used0 used1 (entry_rules 33 blocks slot (titles_of files0) (said_at blocks slot)) files0 files1 (stored_of blocks (said_at blocks slot))
file_taken used0 used1 files0 files1 seen blocks slot s r stored same says is st u f = record {
  used =
      u ∙ ap (λ fs. used0 ++ used_by (file_rules 33 blocks slot (titles_of fs) r)) same
      ∙ ap (λ x. used0 ++ used_by (entry_rules 33 blocks slot (titles_of files0) x)) (sym is ∙ sym says);
  files =
      f ∙ ap (λ x. files0 ++ Some x ∷ []) st ∙ ap (λ x. files0 ++ stored_of blocks x ∷ []) (sym is ∙ sym says);
}

pub file_broken : (used0 : List ℕ) (files0 seen : List (Option StoredFile)) (blocks : List (List ℕ)) (slot : ℕ) (s : Said) (r : FileRecord)
    → seen ≡ files0 → said_at blocks slot ≡ s → s ≡ said.File r
    → first_broken used0 (file_rules 33 blocks slot (titles_of seen) r)
    ≡ first_broken used0 (entry_rules 33 blocks slot (titles_of files0) (said_at blocks slot))
file_broken used0 files0 seen blocks slot s r same says is =
    ap (λ fs. first_broken used0 (file_rules 33 blocks slot (titles_of fs) r)) same
    ∙ ap (λ x. first_broken used0 (entry_rules 33 blocks slot (titles_of files0) x)) (sym is ∙ sym says)

-- ---- all slots

pub tells : (blocks : List (List ℕ)) → Tell (said_at blocks) (entries_from blocks)
tells blocks = record { none = λ slot. refl; more = λ slot n. refl }

-- what the check has come to before a slot
abbrev pub Progress : List (List ℕ) → (slot : ℕ) → (used : List ℕ) → List (Option StoredFile) → Type 0
Progress blocks = versions.Progress 33 256 blocks (entries_from blocks)

pub progress_from : (blocks : List (List ℕ)) (used : List ℕ) (files : List (Option StoredFile)) → used ≡ [] → files ≡ [] → Progress blocks 0 used files
progress_from blocks = versions.progress_from 33 256 blocks (said_at blocks) (entries_from blocks) (tells blocks)

pub progress_on : (blocks : List (List ℕ)) (slot at : ℕ) (used0 used1 : List ℕ) (files0 files1 : List (Option StoredFile)) → slot < 256
    → at ≡ slot → Progress blocks slot used0 files0
    → (first_broken used0 (entry_rules 33 blocks at (titles_of files0) (said_at blocks at)) ≡ None)
    × TakesSlot used0 used1 (entry_rules 33 blocks at (titles_of files0) (said_at blocks at)) files0 files1 (stored_of blocks (said_at blocks at))
    → Progress blocks (slot + 1) used1 files1
progress_on blocks slot at used0 used1 files0 files1 h same so_far taken0 =
    let P : ℕ → Type 0 = λ n.
    (first_broken used0 (entry_rules 33 blocks n (titles_of files0) (said_at blocks n)) ≡ None)
    × TakesSlot used0 used1 (entry_rules 33 blocks n (titles_of files0) (said_at blocks n)) files0 files1 (stored_of blocks (said_at blocks n)) in
    let taken : P slot = subst P same taken0 in
    versions.progress_on 33 256 blocks (said_at blocks) (entries_from blocks) (tells blocks) slot used0 used1 files0 files1 h so_far taken.0 taken.1

pub progress_fails : (blocks : List (List ℕ)) (slot at : ℕ) (used : List ℕ) (files : List (Option StoredFile)) (e : MountFault) → slot < 256
    → at ≡ slot → Progress blocks slot used files
    → IsFirst e (first_broken used (entry_rules 33 blocks at (titles_of files) (said_at blocks at)))
    → IsFirst e (first_broken [] (slot_rules 33 blocks 0 [] (entries_of blocks)))
unfolding entries_of
progress_fails blocks slot at used files e h same so_far broken =
    versions.progress_fails 33 256 blocks (said_at blocks) (entries_from blocks) (tells blocks) slot used files e h so_far
    (subst (λ n. IsFirst e (first_broken used (entry_rules 33 blocks n (titles_of files) (said_at blocks n)))) same broken)

pub progress_ends : (blocks : List (List ℕ)) (slot : ℕ) (used : List ℕ) (files : List (Option StoredFile)) → slot ≡ 256
    → Progress blocks slot used files
    → (first_broken [] (slot_rules 33 blocks 0 [] (entries_of blocks)) ≡ None) × (files ≡ map (stored_of blocks) (entries_of blocks))
unfolding entries_of
progress_ends blocks = versions.progress_ends 33 256 blocks (said_at blocks) (entries_from blocks) (tells blocks)
