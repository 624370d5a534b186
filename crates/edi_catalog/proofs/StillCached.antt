-- What is cached, whatever the drive tells: what reads leave of it, and what puts make of it.
use Rattle.std.proofs.Common.{◌≡◌, ◌⊎◌, inl, inr, ℕ, ◌+◌, ◌/◌, ◌<◌, ◌≤◌, List, [], ◌∷◌, ◌++◌, length, set, get_or, ap, sym, subst, ◌∙◌, arith}
use Rattle.std.specs.Prelude.{Option, Some}
use Rattle.std.proofs.Math.ListN.{get_or-append}
use Rattle.std.proofs.Math.Seq.{get_or-append_seam}
use Rattle.std.proofs.lemmas.Bool.{cases_eq}
use Rattle.std.proofs.lemmas.List.{get_or-set_other}
use Rattle.edi_disk.specs.declared.disk.Disk.{Disk}
use Rattle.edi_disk.specs.Shown.{cached, Caches, IsWorking, numbers_cached}
use Rattle.edi_disk.specs.Use.{after_use}
use Rattle.edi_disk.proofs.Cached.{was_cached}
use Rattle.edi_catalog.specs.Mounted.{AreCached}
use Rattle.edi_catalog.specs.Putting.{EntryCached}
use Rattle.edi_catalog.specs.Reads.{EntriesStay, OthersStay, UsesBlock}

-- ---- a page or a put

pub others_stay : {D : Type 0} (contents : D → Option (List (List ℕ))) (count : D → ℕ) (n : ℕ) (bytes : List ℕ) (a b : Disk D) → IsWorking contents count a
    → Caches n bytes a b → numbers_cached b ≡ after_use n (numbers_cached a) → OthersStay n a b
others_stay contents count n bytes a b works caches order = λ m other. was_cached n bytes a.cache b.cache caches order works.different m other

pub use_of : {D : Type 0} (contents : D → Option (List (List ℕ))) (count : D → ℕ) (n : ℕ) (bytes : List ℕ) (a b : Disk D) → IsWorking contents count a
    → Caches n bytes a b → numbers_cached b ≡ after_use n (numbers_cached a) → UsesBlock n bytes a b
use_of contents count n bytes a b works caches order = record {
  there = caches.there;
  others = others_stay contents count n bytes a b works caches order;
}

-- a put with a flush behind it
pub use_flushed : {D : Type 0} (n m : ℕ) (bytes : List ℕ) (a b c : Disk D) → n ≡ m → cached n b ≡ Some bytes → OthersStay n a b
    → ((k : ℕ) → cached k c ≡ cached k b) → UsesBlock m bytes a c
use_flushed n m bytes a b c is there others flushed = record {
  there = flushed m ∙ ap (λ k. cached k b) (sym is) ∙ there;
  others = λ k other block e. others k (λ same. other (same ∙ is)) block (sym (flushed k) ∙ e);
}

-- the same block, by its number and its bytes as they are kept
pub use_as : {D : Type 0} (n m : ℕ) (bytes block : List ℕ) (a b : Disk D) → n ≡ m → bytes ≡ block → UsesBlock n bytes a b → UsesBlock m block a b
use_as n m bytes block a b is same uses = subst (λ k. UsesBlock k block a b) is (subst (λ bs. UsesBlock n bs a b) same uses)

-- a page of a file
pub entries_stay : {D : Type 0} (n page : ℕ) (a b : Disk D) → n ≡ page → 33 ≤ page → OthersStay n a b → EntriesStay a b
entries_stay n page a b is low others = λ m h. others m (λ e. omega (arith, e, is, low, h))

pub entries_then : {D : Type 0} (a b c : Disk D) → EntriesStay a b → EntriesStay b c → EntriesStay a c
entries_then a b c one other = λ m h bytes e. one m h bytes (other m h bytes e)

-- ---- the blocks with the entries

-- one more is read
pub cached_more : {D : Type 0} (before after : List (List ℕ)) (bytes : List ℕ) (i : ℕ) (a b : Disk D) → after ≡ before ++ bytes ∷ [] → length before ≡ i
    → cached (1 + i) b ≡ Some bytes → OthersStay (1 + i) a b
    → ((k : ℕ) (block : List ℕ) → k < i → cached (1 + k) a ≡ Some block → get_or before k [] ≡ block)
    → (k : ℕ) (block : List ℕ) → k < i + 1 → cached (1 + k) b ≡ Some block → get_or after k [] ≡ block
cached_more before after bytes i a b more many there others so_far k block h e = ap (λ bs. get_or bs k []) more ∙ go (cases_eq k i) where
  go : (k ≡ i) ⊎ (k ≡ i → ⊥) → get_or (before ++ bytes ∷ []) k [] ≡ block
  go (inl same) =
      let both : Some bytes ≡ Some block = sym there ∙ ap (λ n. cached (1 + n) b) (sym same) ∙ e in
      let is : bytes ≡ block = cc in
      ap (λ n. get_or (before ++ bytes ∷ []) n []) (same ∙ sym many) ∙ get_or-append_seam before bytes [] [] ∙ is
  go (inr other) =
      let early : k < i = omega (arith, h, other) in
      get_or-append before (bytes ∷ []) [] k (omega (arith, many, early))
      ∙ so_far k block early (others (1 + k) (λ same. other (let is : k ≡ i = omega (arith, same) in is)) block e)

pub still_cached : {D : Type 0} (kept : List (List ℕ)) (a b : Disk D) → EntriesStay a b → AreCached kept a → AreCached kept b
still_cached kept a b stay are = λ k bytes h e. are k bytes h (stay (1 + k) (omega (arith, h)) bytes e)

-- one of them is put, and a file perhaps before it
pub entry_used : {D : Type 0} (n : ℕ) (bytes : List ℕ) (a b : Disk D) → UsesBlock n bytes a b → EntryCached n bytes a b
entry_used n bytes a b uses = record { there = uses.there; others = λ m h other. uses.others m other }

pub entry_then : {D : Type 0} (n : ℕ) (bytes : List ℕ) (a b c : Disk D) → EntriesStay a b → UsesBlock n bytes b c → EntryCached n bytes a c
entry_then n bytes a b c stay uses = record {
  there = uses.there;
  others = λ m h other block e. stay m h block (uses.others m other block e);
}

module _ {D : Type 0} (slot : ℕ) (kept new : List (List ℕ)) (now : List ℕ) (a b : Disk D) (is : new ≡ set kept (slot / 8) now)
    (uses : EntryCached (1 + slot / 8) (get_or new (slot / 8) []) a b) where
  -- each of the others is kept as before
  other_kept : (k : ℕ) → (k ≡ slot / 8 → ⊥) → get_or new k [] ≡ get_or kept k []
  other_kept k other = ap (λ es. get_or es k []) is ∙ get_or-set_other kept (slot / 8) k now [] other

  pub cached_over : AreCached kept a → AreCached new b
  cached_over are k bytes h e = go (cases_eq k (slot / 8)) where
    go : (k ≡ slot / 8) ⊎ (k ≡ slot / 8 → ⊥) → get_or new k [] ≡ bytes
    go (inl same) =
        let both : Some (get_or new (slot / 8) []) ≡ Some bytes = sym uses.there ∙ ap (λ n. cached (1 + n) b) (sym same) ∙ e in
        let it : get_or new (slot / 8) [] ≡ bytes = cc in
        ap (λ n. get_or new n []) same ∙ it
    go (inr other) =
        other_kept k other
        ∙ are k bytes h
        (uses.others (1 + k) (omega (arith, h)) (λ same. other (let here : k ≡ slot / 8 = omega (arith, same) in here)) bytes e)

  pub changed_cached : (k : ℕ) → k < 32 → (get_or new k [] ≡ get_or kept k []) ⊎ (cached (1 + k) b ≡ Some (get_or new k []))
  changed_cached k h = go (cases_eq k (slot / 8)) where
    go : (k ≡ slot / 8) ⊎ (k ≡ slot / 8 → ⊥) → (get_or new k [] ≡ get_or kept k []) ⊎ (cached (1 + k) b ≡ Some (get_or new k []))
    go (inl same) = inr (ap (λ n. cached (1 + n) b) same ∙ uses.there ∙ ap (λ n. Some (get_or new n [])) (sym same))
    go (inr other) = inl (other_kept k other)
