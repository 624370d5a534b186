-- What every call keeps: what is not told stays so, and the blocks of the drive are a valid image.
use Rattle.std.proofs.Common.{◌≡◌, ◌⊎◌, inl, inr, ℕ, List, [], ◌∷◌, ◌++◌, drop, length, take, Option, Some, None, refl, sym, ap, subst, ◌∙◌}
use Rattle.std.specs.Prelude.{Result, Ok, Err}
use Rattle.edi_told.specs.Told.{WhereTold}
use Rattle.edi_host.specs.declared.source.Next.{Next}
use Rattle.edi_host.specs.declared.source.Next.TheVariants as next
use Rattle.edi_host.specs.Streams.{Takes}
use Rattle.edi_disk.specs.Shown.{drive_of}
use Rattle.edi_calls.specs.State.{File}
use Rattle.edi_image.specs.Image.{mount_fault_of, slots_of, Holds}
use Rattle.edi_catalog.specs.declared.catalog.Catalog.{Catalog}
use Rattle.edi_catalog.specs.declared.ends.CatEnd.{CatEnd}
use Rattle.edi_catalog.specs.declared.ends.CatEnd.TheVariants as cat
use Rattle.edi_catalog.specs.Changes.{Changes, Leaves}
use Rattle.edi_catalog.specs.Storing.{StoreChanges}
use Rattle.edi_catalog.specs.SlotsStored.{slots_stored}
use Rattle.edi_calls.specs.declared.kinds.FileKind.{FileKind}
use Rattle.edi_image.specs.Stored.{StoredFile}
use Rattle.edi_catalog.specs.Mounted.{IsMounted, disk_of}
use Rattle.edi_system.specs.Parts.{IsValid, ToldStays}
use Rattle.edi_system.specs.Growing.{Grows, Shrinks}
use Rattle.edi_system.specs.State.{catalog_in, drive_in, IsReady}
use Rattle.edi_system.specs.declared.system.System.{System}

-- ---- told

pub none_stays : {A : Type 0} (P : A → A → Type 0) (a b : Option A) → WhereTold a b P → a ≡ None → b ≡ None
none_stays P a None told none = refl
none_stays P None (Some y) told none = absurd told
none_stays P (Some x) (Some y) told none = absurd (let no : Some x ≡ None = none in cc)

-- ---- a valid image

-- a catalogue is mounted on one
valid_mounted : {D : Type 0} (contents : D → Option (List (List ℕ))) (count : D → ℕ) (catalog : Catalog D) → IsMounted contents count catalog
    → IsValid (contents (drive_of (disk_of catalog)))
valid_mounted contents count catalog mounted = go (contents (drive_of (disk_of catalog))) refl where
  go : (o : Option (List (List ℕ))) → contents (drive_of (disk_of catalog)) ≡ o → IsValid o
  go None told = tt
  go (Some blocks) told = (mounted.image blocks told).valid

pub valid_ready : {D S T P : Type 0} (contents : D → Option (List (List ℕ))) (count : D → ℕ) (system : System D S T P) → IsReady contents count system
    → IsValid (contents (drive_in system))
valid_ready contents count system ready = valid_mounted contents count (catalog_in system) ready.mounted

-- one that is only read is one still
pub valid_read : (P : List (List ℕ) → List (List ℕ) → Type 0) (a b : Option (List (List ℕ))) → IsValid a → WhereTold a b (λ old new. (new ≡ old) × P old new)
    → IsValid b
valid_read P a None valid told = tt
valid_read P None (Some new) valid told = absurd told
valid_read P (Some old) (Some new) valid told = subst (λ bs. mount_fault_of bs ≡ None) (sym told.0) valid

-- and so is what a change leaves
valid_left : {X : Type 0} (result : Result X CatEnd) (before after : List (Option File)) (old new : List (List ℕ)) → mount_fault_of old ≡ None
    → Leaves result before after old new → mount_fault_of new ≡ None
valid_left (Ok x) before after old new valid leaves = leaves.valid
valid_left (Err cat.Fault) before after old new valid leaves = go leaves.one where
  go : Holds new before ⊎ Holds new after → mount_fault_of new ≡ None
  go (inl holds) = holds.valid
  go (inr holds) = holds.valid
valid_left (Err cat.NoSuch) before after old new valid leaves = subst (λ bs. mount_fault_of bs ≡ None) (sym leaves) valid
valid_left (Err cat.Taken) before after old new valid leaves = subst (λ bs. mount_fault_of bs ≡ None) (sym leaves) valid
valid_left (Err cat.Protected) before after old new valid leaves = subst (λ bs. mount_fault_of bs ≡ None) (sym leaves) valid
valid_left (Err (cat.TooLarge n)) before after old new valid leaves = subst (λ bs. mount_fault_of bs ≡ None) (sym leaves) valid
valid_left (Err cat.CatalogFull) before after old new valid leaves = subst (λ bs. mount_fault_of bs ≡ None) (sym leaves) valid
valid_left (Err (cat.Full n m)) before after old new valid leaves = subst (λ bs. mount_fault_of bs ≡ None) (sym leaves) valid

pub valid_changed : {X : Type 0} (result : Result X CatEnd) (wanted : List (Option File) → List (Option File)) (a b : Option (List (List ℕ))) → IsValid a
    → WhereTold a b (λ old new. Leaves result (slots_of old) (wanted (slots_of old)) old new) → IsValid b
valid_changed result wanted a None valid told = tt
valid_changed result wanted None (Some new) valid told = absurd told
valid_changed result wanted (Some old) (Some new) valid told = valid_left result (slots_of old) (wanted (slots_of old)) old new valid told

-- ---- what was shown

take_all : (xs : List ℕ) → take (length xs) xs ≡ xs
take_all [] = refl
take_all (x ∷ xs) = ap (λ ys. x ∷ ys) (take_all xs)

take_front : (xs ys : List ℕ) → take (length xs) (xs ++ ys) ≡ xs
take_front [] ys = refl
take_front (x ∷ xs) ys = ap (λ zs. x ∷ zs) (take_front xs ys)

pub grows_same : (t : Option (List ℕ)) → WhereTold t t Grows
grows_same None = tt
grows_same (Some x) = take_all x

grows_more : (t t' : Option (List ℕ)) (more : List ℕ) → WhereTold t t' (λ old new. new ≡ old ++ more) → WhereTold t t' Grows
grows_more t None more told = tt
grows_more None (Some new) more told = absurd told
grows_more (Some old) (Some new) more told = ap (take (length old)) told ∙ take_front old more

-- ---- what is left

pub shrinks_same : (t : Option (List ℕ)) → WhereTold t t Shrinks
shrinks_same None = tt
shrinks_same (Some x) = (0, refl)

shrinks_by : (answer : Next) (old new : List ℕ) → Takes answer old new → Shrinks old new
shrinks_by (next.Byte b) old new takes = (1, sym (ap (drop 1) takes))
shrinks_by next.End old new takes = (0, takes.1 ∙ sym takes.0)
shrinks_by next.Failed old new takes = (0, takes.1)

shrinks_taken : (answer : Next) (t t' : Option (List ℕ)) → WhereTold t t' (Takes answer) → WhereTold t t' Shrinks
shrinks_taken answer t None told = tt
shrinks_taken answer None (Some new) told = absurd told
shrinks_taken answer (Some old) (Some new) told = shrinks_by answer old new told

-- ---- the facts together

-- no object was used
pub told_alone : (d : Option (List (List ℕ))) (i t p : Option (List ℕ)) → IsValid d → ToldStays d d i i t t p p
told_alone d i t p valid = record {
  drive = λ none. none;
  source = λ none. none;
  terminal = λ none. none;
  printer = λ none. none;
  valid = valid;
  shrinks = shrinks_same i;
  grows = grows_same t;
  prints = grows_same p;
}

-- one was
pub told_input : (d : Option (List (List ℕ))) (i i' t p : Option (List ℕ)) (answer : Next) → IsValid d → WhereTold i i' (Takes answer)
    → ToldStays d d i i' t t p p
told_input d i i' t p answer valid told = record {
  drive = λ none. none;
  source = none_stays (Takes answer) i i' told;
  terminal = λ none. none;
  printer = λ none. none;
  valid = valid;
  shrinks = shrinks_taken answer i i' told;
  grows = grows_same t;
  prints = grows_same p;
}

pub told_terminal : (d : Option (List (List ℕ))) (i t t' p : Option (List ℕ)) (more : List ℕ) → IsValid d → WhereTold t t' (λ old new. new ≡ old ++ more)
    → ToldStays d d i i t t' p p
told_terminal d i t t' p more valid told = record {
  drive = λ none. none;
  source = λ none. none;
  terminal = none_stays (λ old new. new ≡ old ++ more) t t' told;
  printer = λ none. none;
  valid = valid;
  shrinks = shrinks_same i;
  grows = grows_more t t' more told;
  prints = grows_same p;
}

pub told_printer : (d : Option (List (List ℕ))) (i t p p' : Option (List ℕ)) (more : List ℕ) → IsValid d → WhereTold p p' (λ old new. new ≡ old ++ more)
    → ToldStays d d i i t t p p'
told_printer d i t p p' more valid told = record {
  drive = λ none. none;
  source = λ none. none;
  terminal = λ none. none;
  printer = none_stays (λ old new. new ≡ old ++ more) p p' told;
  valid = valid;
  shrinks = shrinks_same i;
  grows = grows_same t;
  prints = grows_more p p' more told;
}

-- the drive was read
pub told_read : (d d' : Option (List (List ℕ))) (i t p : Option (List ℕ)) (Q : List (List ℕ) → List (List ℕ) → Type 0) → IsValid d
    → WhereTold d d' (λ old new. (new ≡ old) × Q old new)
    → ToldStays d d' i i t t p p
told_read d d' i t p Q valid told = record {
  drive = none_stays (λ old new. (new ≡ old) × Q old new) d d' told;
  source = λ none. none;
  terminal = λ none. none;
  printer = λ none. none;
  valid = valid_read Q d d' valid told;
  shrinks = shrinks_same i;
  grows = grows_same t;
  prints = grows_same p;
}

-- a file was changed
told_changed : {X : Type 0} (result : Result X CatEnd) (wanted : List (Option File) → List (Option File)) (d d' : Option (List (List ℕ)))
    (i t p : Option (List ℕ)) → IsValid d
    → WhereTold d d' (λ old new. Leaves result (slots_of old) (wanted (slots_of old)) old new) → ToldStays d d' i i t t p p
told_changed result wanted d d' i t p valid told = record {
  drive = none_stays (λ old new. Leaves result (slots_of old) (wanted (slots_of old)) old new) d d' told;
  source = λ none. none;
  terminal = λ none. none;
  printer = λ none. none;
  valid = valid_changed result wanted d d' valid told;
  shrinks = shrinks_same i;
  grows = grows_same t;
  prints = grows_same p;
}

pub told_changes : {D X : Type 0} (contents : D → Option (List (List ℕ))) (count faults : D → ℕ) (result : Result X CatEnd) (refusal : Option CatEnd)
    (kept : List (Option StoredFile)) (wanted : List (Option File) → List (Option File))
    (one other : Catalog D) (i t p : Option (List ℕ)) → IsMounted contents count one → Changes contents count faults result refusal kept wanted one other
    → ToldStays (contents (drive_of (disk_of one))) (contents (drive_of (disk_of other))) i i t t p p
told_changes contents count faults result refusal kept wanted one other i t p mounted changes =
    told_changed result wanted (contents (drive_of (disk_of one))) (contents (drive_of (disk_of other))) i t p (valid_mounted contents count one mounted)
    changes.leaves

pub told_stores : {D X : Type 0} (contents : D → Option (List (List ℕ))) (count faults : D → ℕ) (result : Result X CatEnd) (refusal : Option CatEnd)
    (title : List ℕ) (kind : FileKind) (bytes : List ℕ)
    (one other : Catalog D) (i t p : Option (List ℕ)) → IsMounted contents count one → StoreChanges contents count faults result refusal title kind bytes one
    other
    → ToldStays (contents (drive_of (disk_of one))) (contents (drive_of (disk_of other))) i i t t p p
told_stores contents count faults result refusal title kind bytes one other i t p mounted changes =
    told_changed result (slots_stored title kind bytes) (contents (drive_of (disk_of one))) (contents (drive_of (disk_of other))) i t p
    (valid_mounted contents count one mounted) changes.leaves
