-- A formatted drive is a valid image with no files.
use Rattle.std.proofs.Common.{◌≡◌, ℕ, zero, suc, ◌+◌, ◌-◌, ◌*◌, ◌/◌, ◌%◌, ◌≤◌, ◌<◌, Bool, true, List, [], ◌∷◌, ◌++◌, length, take, drop, set, get_or, refl}
use Rattle.std.proofs.Common.{ap, sym, ◌∙◌, subst, ne_eqb, arith, length-append, length-drop}
use Rattle.std.specs.Prelude.{◌&&◌, nat_le, map, replicate, if◌then◌else◌, None}
use Rattle.std.specs.Str.{bytes_eq}
use Rattle.std.proofs.lemmas.List.{drop-replicate, take-replicate, length-take, get_or-replicate, length-replicate}
use Rattle.std.proofs.lemmas.Slice.Eq.{bytes_eq-Decides}
use Rattle.std.proofs.Math.ListN.{get_or-append}
use Rattle.std.proofs.Math.Seq.{take-length}
use Rattle.std.proofs.lemmas.Bool.{le-leb}
use Rattle.edi_host.specs.Blocks.{zero_block, resized}
use Rattle.edi_image.specs.declared.faults.MountFault.TheVariants as fault
use Rattle.edi_image.specs.Rules.{needs, first_broken}
use Rattle.edi_image.specs.declared.entries.Said.TheVariants.{Free}
use Rattle.edi_image.specs.Entries.{block_at, entry_says}
use Rattle.edi_image.specs.Image.{header_block, header_rules, slot_in, slot_rules, entry_at, entries_from, entries_of, image_rules, slots_of, Holds}
use Rattle.edi_image.specs.Formatted.{new_catalogue, new_block, formatted}
use Rattle.edi_image.specs.NoFiles.{no_files}

-- one more block is written
pub write_next : (new old : List (List ℕ)) (n : ℕ) (block : List ℕ) → block ≡ get_or new n [] → n < length new → n < length old
    → set (take n new ++ drop n old) n block ≡ take (suc n) new ++ drop (suc n) old
write_next [] old n block e h k = absurd (omega arith)
write_next (x ∷ xs) [] n block e h k = absurd (omega arith)
write_next (x ∷ xs) (y ∷ ys) zero block e h k = ap (λ b. b ∷ ys) e
write_next (x ∷ xs) (y ∷ ys) (suc n) block e h k =
    ap (λ zs. x ∷ zs) (write_next xs ys n block e (omega arith) (omega arith))

pub new_block_at : (count n : ℕ) → n < 33 → new_block count n ≡ get_or (new_catalogue count) n []
unfolding new_block new_catalogue
new_block_at count zero h = refl
new_block_at count (suc n) h =
    ap (λ b. if b then header_block 2 count else zero_block) (ne_eqb (suc n) 0 (omega arith))
    ∙ sym (get_or-replicate 32 n zero_block [] (omega arith))

pub length-new_catalogue : (count : ℕ) → length (new_catalogue count) ≡ 33
unfolding new_catalogue
length-new_catalogue count = ap suc (length-replicate 32 zero_block)

pub written_next : (old between new : List (List ℕ)) (count n : ℕ) (block : List ℕ) → n < 33 → block ≡ new_block count n
    → (33 ≤ length old → between ≡ take n (new_catalogue count) ++ drop n old) → new ≡ set between n block
    → 33 ≤ length old → new ≡ take (n + 1) (new_catalogue count) ++ drop (n + 1) old
written_next old between new count n block h e so_far w big =
    let size : length (new_catalogue count) ≡ 33 = length-new_catalogue count in
    w ∙ ap (λ b. set b n block) (so_far big)
    ∙ write_next (new_catalogue count) old n block (e ∙ new_block_at count n h) (omega arith) (omega arith)
    ∙ ap (λ m. take m (new_catalogue count) ++ drop m old) (let one : suc n ≡ n + 1 = omega arith in one)

pub written_all : (old new : List (List ℕ)) (count n : ℕ) → n ≡ 33
    → (33 ≤ length old → new ≡ take n (new_catalogue count) ++ drop n old) → 33 ≤ length old → new ≡ new_catalogue count ++ drop 33 old
written_all old new count n e so_far big =
    so_far big ∙ ap (λ m. take m (new_catalogue count) ++ drop m old) e
    ∙ ap (λ m. take m (new_catalogue count) ++ drop 33 old) (sym (length-new_catalogue count))
    ∙ ap (λ xs. xs ++ drop 33 old) (take-length (new_catalogue count))

-- each entry is zeros
zero_entry : (header : List ℕ) (rest : List (List ℕ)) (slot : ℕ) → slot < 256
    → entry_at (header ∷ (replicate 32 zero_block ++ rest)) slot ≡ replicate 64 0
zero_entry header rest slot h =
    let inside : slot / 8 < 32 = omega arith in
    let index : 1 + slot / 8 ≡ suc (slot / 8) = omega arith in
    let block : block_at (header ∷ (replicate 32 zero_block ++ rest)) (1 + slot / 8) ≡ zero_block =
    ap (λ n. get_or (header ∷ (replicate 32 zero_block ++ rest)) n []) index
    ∙ get_or-append (replicate 32 zero_block) rest [] (slot / 8) (subst (λ n. slot / 8 < n) (sym (length-replicate 32 zero_block)) inside)
    ∙ get_or-replicate 32 (slot / 8) zero_block [] inside in
    ap (λ b. take 64 (drop (64 * (slot % 8)) b)) block
    ∙ ap (take 64) (drop-replicate (64 * (slot % 8)) 512 0)
    ∙ take-replicate 64 (512 - 64 * (slot % 8)) 0 (omega arith)

zero_says : (count : ℕ) (bytes : List ℕ) → bytes ≡ replicate 64 0 → entry_says count bytes ≡ Free
zero_says count bytes e = ap (entry_says count) e

all_free : (header : List ℕ) (rest : List (List ℕ)) (slot n : ℕ) → slot + n ≤ 256
    → entries_from (header ∷ (replicate 32 zero_block ++ rest)) slot n ≡ replicate n Free
all_free header rest slot zero h = refl
all_free header rest slot (suc n) h =
    ap (λ s. s ∷ entries_from (header ∷ (replicate 32 zero_block ++ rest)) (slot + 1) n)
    (zero_says _ _ (zero_entry header rest slot (omega arith)))
    ∙ ap (λ ss. Free ∷ ss) (all_free header rest (slot + 1) n (omega arith))

free_rules : (first : ℕ) (blocks : List (List ℕ)) (slot : ℕ) (titles : List (List ℕ)) (n : ℕ)
    → slot_rules first blocks slot titles (replicate n Free) ≡ []
free_rules first blocks slot titles zero = refl
free_rules first blocks slot titles (suc n) = free_rules first blocks (slot + 1) (titles ++ []) n

free_slots : (blocks : List (List ℕ)) (n : ℕ) → map (slot_in blocks) (replicate n Free) ≡ replicate n None
free_slots blocks zero = refl
free_slots blocks (suc n) = ap (λ ss. None ∷ ss) (free_slots blocks n)

pub kept_rules : (a b : Bool) → a ≡ true → b ≡ true → first_broken [] (needs a fault.Short ∷ needs b fault.Header ∷ []) ≡ None
kept_rules a b ea eb = rw (ea, eb) refl

pub header_true : (n : ℕ) (xs ys : List ℕ) → n ≤ 4096 → xs ≡ ys → (nat_le n 4096 && bytes_eq xs ys) ≡ true
header_true n xs ys h e = rw (le-leb n 4096 h) ((bytes_eq-Decides xs ys).1 e)

-- a drive with the catalogue of no files, and any blocks behind it
catalogue_holds : (count : ℕ) (rest : List (List ℕ)) → count ≡ 33 + length rest → 64 ≤ count → count ≤ 4096
    → Holds (new_catalogue count ++ rest) no_files
unfolding new_catalogue no_files image_rules slots_of entries_of
catalogue_holds count rest size least most =
    let blocks : List (List ℕ) = header_block 2 count ∷ (replicate 32 zero_block ++ rest) in
    let long : length blocks ≡ count =
    ap suc (length-append (replicate 32 zero_block) rest) ∙ ap (λ n. suc (n + length rest)) (length-replicate 32 zero_block) ∙ omega (arith, size) in
    let entries : entries_from blocks 0 256 ≡ replicate 256 Free = all_free (header_block 2 count) rest 0 256 (omega arith) in
    let rules : header_rules 2 blocks ++ slot_rules 33 blocks 0 [] (entries_from blocks 0 256) ≡ header_rules 2 blocks =
    ap (λ es. header_rules 2 blocks ++ slot_rules 33 blocks 0 [] es) entries
    ∙ ap (λ rs. header_rules 2 blocks ++ rs) (free_rules 33 blocks 0 [] 256) in
    record {
      valid = ap (first_broken []) rules ∙ kept_rules _ _ (le-leb 64 (length blocks) (omega arith))
          (header_true (length blocks) _ _ (omega arith) (ap (header_block 2) (sym long)));
      files = ap (map (slot_in blocks)) entries ∙ free_slots blocks 256;
    }

pub length-resized : (old : List (List ℕ)) (n : ℕ) → length (resized old n) ≡ n
length-resized old n =
    length-append (take n old) (replicate (n - length old) zero_block)
    ∙ ap (λ k. length (take n old) + k) (length-replicate (n - length old) zero_block)
    ∙ omega (arith, length-take {A = List ℕ})

pub formatted_from : (old between new : List (List ℕ)) (n : ℕ) → 64 ≤ n → n ≤ 4096 → between ≡ resized old n
    → (33 ≤ length between → new ≡ new_catalogue n ++ drop 33 between)
    → (new ≡ formatted (resized old n)) × Holds new no_files
formatted_from old between new n least most e all =
    let size : length (resized old n) ≡ n = length-resized old n in
    let long : length between ≡ n = ap length e ∙ size in
    let whole : new ≡ new_catalogue n ++ drop 33 between = all (omega arith) in
    let same : new_catalogue n ++ drop 33 between ≡ formatted (resized old n) =
    ap (λ m. new_catalogue m ++ drop 33 between) (sym size) ∙ ap (λ b. new_catalogue (length (resized old n)) ++ drop 33 b) e in (
      whole ∙ same,
      subst (λ blocks. Holds blocks no_files) (sym whole)
          (catalogue_holds n (drop 33 between) (omega (arith, length-drop 33 between)) least most),
    )
