-- The first bytes of a file decide whether it is an image of version 1.
use Rattle.std.proofs.Common.{◌≡◌, ℕ, zero, suc, ◌/◌, ◌<◌, ◌≤◌, Bool, true, false, ◌&&◌, nat_le, List, [], ◌∷◌, ◌++◌, length, take, drop}
use Rattle.std.proofs.Common.{Some, None, refl, sym, ap, ◌∙◌, arith, leb-true, leb-false}
use Rattle.std.specs.Simd.{first_chunks}
use Rattle.std.specs.Str.{bytes_eq}
use Rattle.std.proofs.lemmas.Bool.{le-leb, lt-leb}
use Rattle.std.proofs.lemmas.List.{length-take-le, take_all}
use Rattle.std.proofs.lemmas.Nat.{le-div}
use Rattle.edi_host.specs.BytesAsBlocks.{blocks_of}
use Rattle.edi_image.specs.declared.faults.MountFault.TheVariants as fault
use Rattle.edi_image.specs.Rules.{needs, first_broken}
use Rattle.edi_image.specs.Entries.{block_at}
use Rattle.edi_image.specs.Image.{header_block, slot_rules}
use Rattle.edi_image.specs.migrate.OldImage.{old_entries_of, old_fault_of}
use Rattle.edi_image.specs.migrate.Limit.{most_fetched, FirstBytesDecide}

chunk_count : (size n : ℕ) (xs : List ℕ) → length (first_chunks size n xs) ≡ n
chunk_count size zero xs = refl
chunk_count size (suc n) xs = ap suc (chunk_count size n (drop size xs))

-- too many blocks break the rule of the header
too_many : (blocks : List (List ℕ)) → 4096 < length blocks → old_fault_of blocks ≡ Some fault.Header
too_many [] more = absurd (omega (arith, more))
too_many (block ∷ blocks) more =
    (λ i.
    first_broken []
    (needs (le-leb 64 (length (block ∷ blocks)) (omega (arith, more)) i) fault.Short
    ∷ (needs (lt-leb (length (block ∷ blocks)) 4096 more i && bytes_eq (block_at (block ∷ blocks) 0) (header_block 1 (length (block ∷ blocks)))) fault.Header
    ∷ ([] ++ slot_rules 5 (block ∷ blocks) 0 [] (old_entries_of (block ∷ blocks))))))

long_faults : (bytes : List ℕ) → 2097664 ≤ length bytes → old_fault_of (blocks_of bytes) ≡ Some fault.Header
long_faults bytes more =
    too_many (blocks_of bytes)
    (let many : 4097 ≤ length bytes / 512 = le-div 4097 (length bytes) 512 (omega arith) (omega (arith, more)) in
    omega (arith, many, chunk_count 512 (length bytes / 512) bytes))

pub first_bytes_decide : FirstBytesDecide
first_bytes_decide bytes = go (nat_le (length bytes) 2097664) refl
  where
    go : (b : Bool) → nat_le (length bytes) 2097664 ≡ b →
        (old_fault_of (blocks_of (take most_fetched bytes)) ≡ old_fault_of (blocks_of bytes))
        × (old_fault_of (blocks_of (take most_fetched bytes)) ≡ None → take most_fetched bytes ≡ bytes)
    go true e =
        let all : take most_fetched bytes ≡ bytes = take_all most_fetched bytes (leb-true (length bytes) 2097664 e) in
        (ap (λ xs. old_fault_of (blocks_of xs)) all, λ none. all)
    go false e =
        let more : 2097664 < length bytes = leb-false (length bytes) 2097664 e in
        let many : length (take most_fetched bytes) ≡ 2097664 = length-take-le most_fetched bytes (omega (arith, more)) in
        let front : old_fault_of (blocks_of (take most_fetched bytes)) ≡ Some fault.Header = long_faults (take most_fetched bytes) (omega (arith, many)) in
        (front ∙ sym (long_faults bytes (omega (arith, more))), λ none. let wrong : Some fault.Header ≡ None = sym front ∙ none in absurd (cc))
