-- The files of an image from those that are kept.
use Rattle.std.proofs.Common.{◌≡◌, ℕ, suc, ◌+◌, ◌<◌, List, [], ◌∷◌, length, take, Option, None, refl, ap, sym, ◌∙◌, arith, zero}
use Rattle.std.specs.Prelude.{map, slice_index_or}
use Rattle.std.specs.Option.{option_map}
use Rattle.edi_calls.specs.State.{File}
use Rattle.edi_image.specs.Image.{slot_in, slots_of, entries_of}
use Rattle.edi_image.specs.Stored.{StoredFile, stored_of, bytes_in, blocks_in, blocks_taken}
use Rattle.edi_image.specs.declared.entries.Said.{Said}
use Rattle.edi_image.specs.declared.entries.Said.TheVariants as said

-- the file that is kept so
abbrev pub file_of : List (List ℕ) → StoredFile → File
file_of blocks file = record {
  title = file.record_.title;
  kind = file.record_.kind;
  protected = file.record_.protected;
  bytes = bytes_in blocks file;
}

pub slots_kept : (blocks : List (List ℕ)) (entries : List Said)
    → map (slot_in blocks) entries ≡ map (option_map (file_of blocks)) (map (stored_of blocks) entries)
slots_kept blocks [] = refl
slots_kept blocks (said.Free ∷ entries) = ap (λ slots. None ∷ slots) (slots_kept blocks entries)
slots_kept blocks (said.Wrong ∷ entries) = ap (λ slots. None ∷ slots) (slots_kept blocks entries)
slots_kept blocks (said.File r ∷ entries) = ap (λ slots. slot_in blocks (said.File r) ∷ slots) (slots_kept blocks entries)

pub slots_are : (blocks : List (List ℕ)) → slots_of blocks ≡ map (option_map (file_of blocks)) (map (stored_of blocks) (entries_of blocks))
unfolding slots_of
slots_are blocks = slots_kept blocks (entries_of blocks)

-- one more file
pub taken_more : (files : List (Option StoredFile)) (i : ℕ) (file : Option StoredFile) → i < length files → file ≡ slice_index_or files i file
    → blocks_taken (take (i + 1) files) ≡ blocks_taken (take i files) + blocks_in file
taken_more [] i file h e = absurd (omega arith)
taken_more (first ∷ files) zero file h e = (let same : blocks_in first ≡ blocks_in file = ap blocks_in (sym e) in omega arith)
taken_more (first ∷ files) (suc i) file h e =
    let more : blocks_taken (take (i + 1) files) ≡ blocks_taken (take i files) + blocks_in file = taken_more files i file (omega arith) e in
    let index : suc i + 1 ≡ suc (i + 1) = omega arith in
    ap (λ n. blocks_taken (take n (first ∷ files))) index ∙ omega (arith, more)
