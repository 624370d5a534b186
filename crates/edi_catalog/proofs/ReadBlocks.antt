-- Reading blocks one after another: what is given of each, whatever the drive tells.
use Rattle.std.proofs.Common.{◌≡◌, inl, inr, ℕ, ◌+◌, ◌*◌, ◌<◌, ◌≤◌, true, List, [], ◌∷◌, ◌++◌, length, take, drop, refl, ap, sym, subst, ◌∙◌, arith}
use Rattle.std.specs.Prelude.{slice_index, Option, Some, None, IfSome}
use Rattle.std.specs.Option.{option_map}
use Rattle.std.proofs.lemmas.Bool.{cases_eq, true≢false}
use Rattle.std.proofs.lemmas.List.{drop-take, drop_at, take-take, take_at, take_more}
use Rattle.edi_disk.specs.declared.cache.Slot.{Slot}
use Rattle.edi_disk.specs.declared.disk.Disk.{Disk}
use Rattle.edi_disk.specs.Shown.{cached, numbers_cached}
use Rattle.edi_disk.specs.Use.{after_use, is_listed, slot_of}
use Rattle.edi_disk.proofs.Lookup.{absent_listed}
use Rattle.edi_image.specs.Stored.{StoredFile, is_stored}
use Rattle.edi_catalog.specs.Plan.{are_different, part}
use Rattle.edi_catalog.specs.Reads.{after_uses, EntriesStay, GivesBlock, GivesBlocks, OthersStay}
use Rattle.edi_catalog.proofs.FileIndices.{data_at}
use Rattle.edi_catalog.proofs.PutBlocks.{other_at}
use Rattle.edi_catalog.proofs.Sizes.{kept_pages}

-- ---- one block

-- a block that is listed is cached
listed_cached : {D : Type 0} (n : ℕ) (disk : Disk D) → is_listed n (numbers_cached disk) ≡ true → cached n disk ≡ None → ⊥
listed_cached n disk listed none = true≢false (sym listed ∙ absent_listed n disk.cache (absent (slot_of n disk.cache) none)) where
  absent : (found : Option Slot) → option_map (λ (slot : Slot). slot.bytes) found ≡ None → found ≡ None
  absent None e = refl
  absent (Some slot) e = absurd (let no : Some slot.bytes ≡ None = e in cc)

-- it is given as it was cached
given_as : {D : Type 0} (n : ℕ) (bytes was : List ℕ) (b : Disk D) → is_listed n (numbers_cached b) ≡ true → IfSome (cached n b) (λ now. bytes ≡ now)
    → ((now : List ℕ) → cached n b ≡ Some now → now ≡ was) → bytes ≡ was
given_as n bytes was b listed gives same = go (cached n b) refl gives where
  go : (o : Option (List ℕ)) → cached n b ≡ o → IfSome o (λ now. bytes ≡ now) → bytes ≡ was
  go None none given = absurd (listed_cached n b listed none)
  go (Some now) some given = given ∙ same now some

-- what stands before it stays
pub front_stays : (at : ℕ) (into front rest : List ℕ) → front ≡ take at into → length front ≡ at → take at (front ++ rest) ≡ take at into
front_stays at into front rest is many = take_at front rest at many ∙ is

-- as it stands in the bytes, and by its number as a page
pub given_at : {D : Type 0} (n page at : ℕ) (bytes front copied back : List ℕ) (a b : Disk D) → n ≡ page → length front ≡ at → copied ≡ bytes
    → length copied ≡ 512 → GivesBlock n bytes a b → GivesBlock page (take 512 (drop at (front ++ (copied ++ back)))) a b
given_at n page at bytes front copied back a b is many same size gives =
    subst (λ k. GivesBlock k (take 512 (drop at (front ++ (copied ++ back)))) a b) is (subst (λ bs. GivesBlock n bs a b) (sym cut) gives) where
      cut : take 512 (drop at (front ++ (copied ++ back))) ≡ bytes
      cut = ap (take 512) (drop_at front (copied ++ back) at many) ∙ take_at copied back 512 size ∙ same

-- ---- one more block

front_part : (into into' : List ℕ) (i j : ℕ) → take (512 * i) into' ≡ take (512 * i) into → j < i → part 512 into' j ≡ part 512 into j
front_part into into' i j front less = cut into' ∙ ap (λ xs. take 512 (drop (512 * j) xs)) front ∙ sym (cut into) where
  cut : (xs : List ℕ) → part 512 xs j ≡ take 512 (drop (512 * j) (take (512 * i) xs))
  cut xs =
      sym (drop-take (512 * j) 512 xs)
      ∙ ap (drop (512 * j)) (sym (take-take (512 * j + 512) (512 * i) xs (omega (arith, less))))
      ∙ drop-take (512 * j) 512 (take (512 * i) xs)

uses_behind : (ns : List ℕ) (n : ℕ) (numbers : List ℕ) → after_uses (ns ++ n ∷ []) numbers ≡ after_use n (after_uses ns numbers)
uses_behind [] n numbers = refl
uses_behind (m ∷ ns) n numbers = uses_behind ns n (after_use m numbers)

pub gives_none : {D : Type 0} (numbers bytes : List ℕ) (a : Disk D) → GivesBlocks numbers 0 bytes a a
gives_none numbers bytes a = record {
  as_cached = λ i was less. absurd (omega (arith, less));
  caches = λ i now less. absurd (omega (arith, less));
  order = refl;
  others = λ m none was e. e;
}

pub gives_more : {D : Type 0} (numbers : List ℕ) (i n : ℕ) (into into' : List ℕ) (a b c : Disk D) → are_different numbers ≡ true → i < length numbers
    → n ≡ slice_index numbers i → take (512 * i) into' ≡ take (512 * i) into → OthersStay n b c → GivesBlocks numbers i into a b
    → GivesBlock n (part 512 into' i) b c → GivesBlocks numbers (i + 1) into' a c
gives_more numbers i n into into' a b c d h is front others so_far one = record {
  as_cached = λ j was less there listed.
      elim (cases_eq j i) [
        | inl here ↦
            let now_listed : is_listed n (numbers_cached b) ≡ true =
            ap (is_listed n) so_far.order ∙ ap (λ k. is_listed k (after_uses (take i numbers) (numbers_cached a))) is
            ∙ ap (λ k. is_listed (slice_index numbers k) (after_uses (take k numbers) (numbers_cached a))) (sym here) ∙ listed in
            let was_there : cached n a ≡ Some was =
            ap (λ k. cached k a) (is ∙ ap (slice_index numbers) (sym here)) ∙ there in
            ap (part 512 into') here
            ∙ given_as n (part 512 into' i) was b now_listed one.as_cached
            (λ now e.
            (let both : Some now ≡ Some was =
            sym (so_far.others n (λ k lower same. other_at numbers i k d h lower (sym same ∙ is)) now e) ∙ was_there in
            cc))
        | inr other ↦
            let early : j < i = omega (arith, less, other) in
            front_part into into' i j front early ∙ so_far.as_cached j was early there listed
      ];
  caches = λ j now less there.
      elim (cases_eq j i) [
        | inl here ↦
            let both : Some (part 512 into' i) ≡ Some now =
            sym one.caches.there ∙ ap (λ k. cached k c) (is ∙ ap (slice_index numbers) (sym here)) ∙ there in
            let it : part 512 into' i ≡ now = cc in
            ap (part 512 into') here ∙ it
        | inr other ↦
            let early : j < i = omega (arith, less, other) in
            front_part into into' i j front early
            ∙ so_far.caches j now early (others (slice_index numbers j) (λ at. other_at numbers i j d h early (at ∙ is)) now there)
      ];
  order =
      one.order ∙ ap (after_use n) so_far.order ∙ sym (uses_behind (take i numbers) n (numbers_cached a))
      ∙ ap (λ k. after_uses (take i numbers ++ k ∷ []) (numbers_cached a)) is
      ∙ ap (λ ns. after_uses ns (numbers_cached a)) (sym (take_more numbers i 0 h));
  others = λ m none was e.
      so_far.others m (λ k lower. none k (omega (arith, lower))) was
      (others m (λ same. none i (omega arith) (same ∙ is)) was e);
}

-- ---- the pages of a file

-- the blocks with the entries are none of them
pub entries_given : {D : Type 0} (count : ℕ) (file : StoredFile) (bytes : List ℕ) (a b : Disk D) → is_stored count (Some file) ≡ true
    → GivesBlocks file.pages (length file.pages) bytes a b → EntriesStay a b
entries_given count file bytes a b stored gives =
    λ m low. gives.others m (λ i within same.
    (let behind : 33 ≤ slice_index file.pages i = (data_at count file.pages i within (kept_pages count file stored).0).0 in omega (arith, behind, low, same)))

-- the page of a file that there is
pub page_given : {D : Type 0} (o : Option StoredFile) (i page n : ℕ) (bytes : List ℕ) (a b : Disk D)
    → Some page ≡ option_map (λ (file : StoredFile). slice_index file.pages i) o → n ≡ page → GivesBlock n bytes a b
    → IfSome o (λ file. GivesBlock (slice_index file.pages i) bytes a b)
page_given None i page n bytes a b is same gives = tt
page_given (Some file) i page n bytes a b is same gives =
    let there : Some page ≡ Some (slice_index file.pages i) = is in
    let it : n ≡ slice_index file.pages i = same ∙ (let p : page ≡ slice_index file.pages i = cc in p) in
    subst (λ k. GivesBlock k bytes a b) it gives
