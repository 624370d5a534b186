-- What a store in place of any file of its title leaves.
use Rattle.std.proofs.Common.{◌≡◌, inl, inr, ◌∙◌, ℕ, ◌≤◌, true, false, true≢false, List, length, Option, Some, None, Result, Ok, Err, refl, sym, ap, subst}
use Rattle.std.specs.Prelude.{IfSome}
use Rattle.edi_told.specs.Told.{WhereTold}
use Rattle.edi_calls.specs.declared.kinds.FileKind.{FileKind}
use Rattle.edi_calls.specs.State.{blocks_of, find_file, most_bytes}
use Rattle.edi_calls.specs.Calls.{is_protected}
use Rattle.edi_image.specs.Image.{Holds, slots_of}
use Rattle.edi_catalog.specs.declared.ends.CatEnd.{CatEnd}
use Rattle.edi_catalog.specs.declared.ends.CatEnd.TheVariants as cat
use Rattle.edi_catalog.specs.Changes.{Leaves}
use Rattle.edi_catalog.specs.InSlots.{SlotsAnswer, free_in}
use Rattle.edi_catalog.specs.Refusing.{no_room}
use Rattle.edi_catalog.specs.SlotsStored.{slots_stored}
use Rattle.edi_statuses.specs.Commands.{is_full, kind_of_bytes, put_in, released}
use Rattle.edi_main.specs.disk.OnDrive.{StoresOver, stands}
use Rattle.edi_main.proofs.disk.Slots.{released_same}
use Rattle.edi_main.proofs.disk.Full.{is_protected_there, no_room_there, protected_room, room_behind, room_there}

-- ---- what is told twice

pub told_both : {A : Type 0} (a b : Option A) (P Q R : A → A → Type 0) → ((x y : A) → P x y → Q x y → R x y)
    → WhereTold a b P → WhereTold a b Q → WhereTold a b R
told_both a None P Q R both p q = tt
told_both None (Some y) P Q R both p q = absurd p
told_both (Some x) (Some y) P Q R both p q = both x y p q

-- what is told of one drive and of another has the numbers that they tell
pub counts_stay : (a b : Option (List (List ℕ))) (count count' : ℕ) → IfSome a (λ blocks. length blocks ≡ count)
    → IfSome b (λ blocks. length blocks ≡ count') → count' ≡ count → (P : List (List ℕ) → List (List ℕ) → Type 0) → WhereTold a b P
    → WhereTold a b (λ old new. length new ≡ length old)
counts_stay a None count count' n n' same P told = tt
counts_stay None (Some y) count count' n n' same P told = absurd told
counts_stay (Some x) (Some y) count count' n n' same P told = n' ∙ same ∙ sym n

pub if_so : {A : Type 0} (a : Option A) (P Q : A → Type 0) → ((x : A) → P x → Q x) → IfSome a P → IfSome a Q
if_so None P Q so p = tt
if_so (Some x) P Q so p = so x p

-- an answer that stands is not the protection, and another is
pub other_answer : {X : Type 0} (r : Result X CatEnd) → stands r ≡ true → r ≡ Err cat.Protected → ⊥
other_answer r h e = true≢false (sym h ∙ ap stands e)

pub protection : {X : Type 0} (r : Result X CatEnd) → stands r ≡ false → r ≡ Err cat.Protected
protection (Ok x) h = absurd (cc)
protection (Err cat.Protected) h = refl
protection (Err cat.Fault) h = absurd (cc)
protection (Err cat.NoSuch) h = absurd (cc)
protection (Err cat.Taken) h = absurd (cc)
protection (Err (cat.TooLarge n)) h = absurd (cc)
protection (Err cat.CatalogFull) h = absurd (cc)
protection (Err (cat.Full wanted free)) h = absurd (cc)

-- ---- one store

-- what a store answers, and what it leaves
pub record Stores {X : Type 0} (r : Result X CatEnd) (title : List ℕ) (kind : FileKind) (bytes : List ℕ) (old new : List (List ℕ)) : Type 0 where
  pub answers : SlotsAnswer r (no_room title (length bytes) (free_in old) (slots_of old)) (slots_of old) (slots_stored title kind bytes (slots_of old))
      (slots_of new)
  pub leaves : Leaves r (slots_of old) (slots_stored title kind bytes (slots_of old)) old new

module _ (title : List ℕ) (kind : FileKind) (bytes : List ℕ) (short : length bytes ≤ most_bytes) (kind_is : kind ≡ kind_of_bytes bytes) where
  -- a file that is not protected is stored so as it is behind its release
  stored_so : (blocks : List (List ℕ)) → is_protected (find_file (slots_of blocks) title) ≡ false
      → slots_stored title kind bytes (slots_of blocks) ≡ put_in title bytes (slots_of blocks)
  stored_so blocks open_ =
      (λ i. slots_stored title (kind_is i) bytes (slots_of blocks))
      ∙ ap (slots_stored title (kind_of_bytes bytes) bytes) (sym (released_same title (slots_of blocks) open_))

  pub stored_over : {X : Type 0} (r : Result X CatEnd) (old new : List (List ℕ)) → length new ≡ length old → (r ≡ Err cat.Protected → ⊥)
      → Stores r title kind bytes old new → StoresOver r title bytes old new
  stored_over (Ok x) old new many not s =
      let room = room_there title (length bytes) old s.answers.0 in
      (room.1, (many, subst (λ slots. Holds new slots) (stored_so old room.0) s.leaves))
  stored_over (Err cat.Fault) old new many not s =
      let room = room_there title (length bytes) old s.answers.0 in (
        room.1,
        (
          many,
          elim s.leaves.one [
            | inl before ↦ inl before
            | inr after ↦ inr (inr (subst (λ slots. Holds new slots) (stored_so old room.0) after))
          ],
        ),
      )
  stored_over (Err cat.Protected) old new many not s = absurd (not refl)
  stored_over (Err cat.NoSuch) old new many not s = (no_room_there title (length bytes) old cat.NoSuch short s.answers.0 (λ e. absurd (cc)), s.leaves)
  stored_over (Err cat.Taken) old new many not s = (no_room_there title (length bytes) old cat.Taken short s.answers.0 (λ e. absurd (cc)), s.leaves)
  stored_over (Err (cat.TooLarge n)) old new many not s =
      (no_room_there title (length bytes) old (cat.TooLarge n) short s.answers.0 (λ e. absurd (cc)), s.leaves)
  stored_over (Err cat.CatalogFull) old new many not s =
      (no_room_there title (length bytes) old cat.CatalogFull short s.answers.0 (λ e. absurd (cc)), s.leaves)
  stored_over (Err (cat.Full wanted free)) old new many not s =
      (no_room_there title (length bytes) old (cat.Full wanted free) short s.answers.0 (λ e. absurd (cc)), s.leaves)

  -- ---- behind a release

  -- a store behind the release of the file, where nothing is against it
  behind : {X : Type 0} (r : Result X CatEnd) (old mid new : List (List ℕ)) → length new ≡ length old → is_full old title (length bytes) ≡ false
      → slots_of mid ≡ released title (slots_of old)
      → no_room title (length bytes) (free_in mid) (slots_of mid) ≡ None → Stores r title kind bytes mid new → StoresOver r title bytes old new
  behind {X} r old mid new many room is none s = go r s where
    wanted_is : slots_stored title kind bytes (slots_of mid) ≡ put_in title bytes (slots_of old)
    wanted_is = λ i. slots_stored title (kind_is i) bytes (is i)

    refused : (why : CatEnd) → no_room title (length bytes) (free_in mid) (slots_of mid) ≡ Some why → ⊥
    refused why some = let wrong : None ≡ Some why = sym none ∙ some in cc

    go : (r : Result X CatEnd) → Stores r title kind bytes mid new → StoresOver r title bytes old new
    go (Ok x) s = (room, (many, subst (λ slots. Holds new slots) wanted_is s.leaves))
    go (Err cat.Fault) s = (
      room,
      (
        many,
        elim s.leaves.one [
          | inl before ↦ inr (inl (subst (λ slots. Holds new slots) is before))
          | inr after ↦ inr (inr (subst (λ slots. Holds new slots) wanted_is after))
        ],
      ),
    )
    go (Err cat.Protected) s = absurd (refused cat.Protected s.answers.0)
    go (Err cat.NoSuch) s = absurd (refused cat.NoSuch s.answers.0)
    go (Err cat.Taken) s = absurd (refused cat.Taken s.answers.0)
    go (Err (cat.TooLarge n)) s = absurd (refused (cat.TooLarge n) s.answers.0)
    go (Err cat.CatalogFull) s = absurd (refused cat.CatalogFull s.answers.0)
    go (Err (cat.Full wanted free)) s = absurd (refused (cat.Full wanted free) s.answers.0)

  -- the blocks before a release, behind it and behind the store
  pub released_then : {X : Type 0} (r : Result X CatEnd) (a b c : Option (List (List ℕ))) (count count' count'' : ℕ)
      → IfSome a (λ blocks. length blocks ≡ count) → IfSome b (λ blocks. length blocks ≡ count') → IfSome c (λ blocks. length blocks ≡ count'')
      → count' ≡ count → count'' ≡ count'
      → WhereTold a a (λ old new. no_room title (length bytes) (free_in old) (slots_of old) ≡ Some cat.Protected)
      → IfSome a (λ blocks. blocks_of (length bytes) ≤ free_in blocks)
      → WhereTold a b (λ old new. Holds new (released title (slots_of old))) → WhereTold b c (Stores r title kind bytes)
      → WhereTold a c (StoresOver r title bytes)
  released_then r a b None count count' count'' n n' n'' same same' protected enough first second = tt
  released_then r a None (Some z) count count' count'' n n' n'' same same' protected enough first second = absurd second
  released_then r None (Some y) (Some z) count count' count'' n n' n'' same same' protected enough first second = absurd first
  released_then r (Some x) (Some y) (Some z) count count' count'' n n' n'' same same' protected enough first second =
      let there = is_protected_there title (length bytes) x protected in
      behind r x y z (n'' ∙ same' ∙ same ∙ sym n) (protected_room title (length bytes) x there enough) first.files
      (room_behind title (length bytes) x y there short enough (n' ∙ same ∙ sym n) first.files) second
