-- Storing and removing a text, from the catalogue to the state that a program sees.
use Rattle.std.proofs.Common.{◌≡◌, ◌⊎◌, inl, inr, ℕ, Bool, true, false, List, length, Option, Some, None, refl, sym, ap, subst, ◌∙◌}
use Rattle.std.specs.Prelude.{if◌then◌else◌, Result, Ok, Err}
use Rattle.std.specs.Option.{option_map, option_map_or}
use Rattle.std.specs.Str.{bytes_eq}
use Rattle.edi_calls.specs.State.{File, Found, State, put_slot, title_of}
use Rattle.edi_calls.specs.Calls.{close, close_as, close_of, gives, open_slot, other_than, remove, remove_as, stored, text_file, with_slot}
use Rattle.edi_catalog.specs.declared.ends.CatEnd.{CatEnd}
use Rattle.edi_catalog.specs.declared.ends.CatEnd.TheVariants as cat
use Rattle.edi_catalog.specs.declared.entry.Entry.{Entry}
use Rattle.edi_image.specs.Image.{slots_of}
use Rattle.edi_image.specs.Stored.{StoredFile}
use Rattle.edi_catalog.specs.Changes.{CatalogAnswers}
use Rattle.edi_catalog.specs.Storing.{StoreAnswers}
use Rattle.edi_system.specs.State.{buffer_in, found_of, state_with}
use Rattle.edi_system.specs.Ends.{is_fault, Reaches}
use Rattle.edi_system.specs.Reading.{forgotten, not_titled}
use Rattle.edi_system.specs.Catalogue.{done, is_drive_fault, is_refused}
use Rattle.edi_system.specs.declared.reading.Reading.{Reading}
use Rattle.edi_system.specs.declared.system.System.{System}
use Rattle.edi_system.proofs.Rooms.{Slots, room_in}

-- ---- what the answer says

-- a call that was not refused was done, or the drive has failed
pub open_answer : {X : Type 0} (answer : Result X CatEnd) → is_refused answer ≡ false → ((x : X) × (answer ≡ Ok x)) ⊎ (answer ≡ Err cat.Fault)
open_answer (Ok x) open_ = inl (x, refl)
open_answer (Err cat.Fault) open_ = inr refl
open_answer (Err cat.NoSuch) open_ = absurd (let no : true ≡ false = open_ in cc)
open_answer (Err cat.Taken) open_ = absurd (let no : true ≡ false = open_ in cc)
open_answer (Err cat.Protected) open_ = absurd (let no : true ≡ false = open_ in cc)
open_answer (Err (cat.TooLarge n)) open_ = absurd (let no : true ≡ false = open_ in cc)
open_answer (Err cat.CatalogFull) open_ = absurd (let no : true ≡ false = open_ in cc)
open_answer (Err (cat.Full n m)) open_ = absurd (let no : true ≡ false = open_ in cc)

pub done_fault : {X : Type 0} (answer : Result X CatEnd) → is_refused answer ≡ false → is_fault (done answer) ≡ is_drive_fault answer
done_fault {X} answer open_ = go (open_answer answer open_) where
  go : ((x : X) × (answer ≡ Ok x)) ⊎ (answer ≡ Err cat.Fault) → is_fault (done answer) ≡ is_drive_fault answer
  go (inl ok) = subst (λ r. is_fault (done r) ≡ is_drive_fault r) (sym ok.1) refl
  go (inr fault) = subst (λ r. is_fault (done r) ≡ is_drive_fault r) (sym fault) refl

-- nothing was against a call that was not refused
pub nothing_against : {X : Type 0} (answer : Result X CatEnd) (refusal : Option CatEnd) (old wanted new : List (Option StoredFile)) → is_refused answer ≡ false
    → CatalogAnswers answer refusal old wanted new → refusal ≡ None
nothing_against {X} answer refusal old wanted new open_ a = go (open_answer answer open_) where
  go : ((x : X) × (answer ≡ Ok x)) ⊎ (answer ≡ Err cat.Fault) → refusal ≡ None
  go (inl ok) = (subst (λ r. CatalogAnswers r refusal old wanted new) ok.1 a).0
  go (inr fault) = subst (λ r. CatalogAnswers r refusal old wanted new) fault a

pub nothing_to_store : {X : Type 0} (answer : Result X CatEnd) (refusal : Option CatEnd) (index : Option ℕ) (entry : Entry)
    (old new : List (Option StoredFile)) → is_refused answer ≡ false
    → StoreAnswers answer refusal index entry old new → refusal ≡ None
nothing_to_store {X} answer refusal index entry old new open_ a = go (open_answer answer open_) where
  go : ((x : X) × (answer ≡ Ok x)) ⊎ (answer ≡ Err cat.Fault) → refusal ≡ None
  go (inl ok) = (subst (λ r. StoreAnswers r refusal index entry old new) ok.1 a).0
  go (inr fault) = subst (λ r. StoreAnswers r refusal index entry old new) fault a

-- something was against one that was refused
pub something_against : {X : Type 0} (answer : Result X CatEnd) (refusal : Option CatEnd) (old wanted new : List (Option StoredFile)) → is_refused answer ≡ true
    → CatalogAnswers answer refusal old wanted new → (why : CatEnd) × (refusal ≡ Some why)
something_against (Ok x) refusal old wanted new closed a = absurd (let no : false ≡ true = closed in cc)
something_against (Err cat.Fault) refusal old wanted new closed a = absurd (let no : false ≡ true = closed in cc)
something_against (Err cat.NoSuch) refusal old wanted new closed a = (cat.NoSuch, a.0)
something_against (Err cat.Taken) refusal old wanted new closed a = (cat.Taken, a.0)
something_against (Err cat.Protected) refusal old wanted new closed a = (cat.Protected, a.0)
something_against (Err (cat.TooLarge n)) refusal old wanted new closed a = (cat.TooLarge n, a.0)
something_against (Err cat.CatalogFull) refusal old wanted new closed a = (cat.CatalogFull, a.0)
something_against (Err (cat.Full n m)) refusal old wanted new closed a = (cat.Full n m, a.0)

pub something_to_store : {X : Type 0} (answer : Result X CatEnd) (refusal : Option CatEnd) (index : Option ℕ) (entry : Entry)
    (old new : List (Option StoredFile)) → is_refused answer ≡ true
    → StoreAnswers answer refusal index entry old new → (why : CatEnd) × (refusal ≡ Some why)
something_to_store (Ok x) refusal index entry old new closed a = absurd (let no : false ≡ true = closed in cc)
something_to_store (Err cat.Fault) refusal index entry old new closed a = absurd (let no : false ≡ true = closed in cc)
something_to_store (Err cat.NoSuch) refusal index entry old new closed a = (cat.NoSuch, a.0)
something_to_store (Err cat.Taken) refusal index entry old new closed a = (cat.Taken, a.0)
something_to_store (Err cat.Protected) refusal index entry old new closed a = (cat.Protected, a.0)
something_to_store (Err (cat.TooLarge n)) refusal index entry old new closed a = (cat.TooLarge n, a.0)
something_to_store (Err cat.CatalogFull) refusal index entry old new closed a = (cat.CatalogFull, a.0)
something_to_store (Err (cat.Full n m)) refusal index entry old new closed a = (cat.Full n m, a.0)

-- ---- what the state is

found_other : (title : List ℕ) (found : Option Reading) → option_map found_of (not_titled title found) ≡ other_than title (option_map found_of found)
found_other title None = refl
found_other title (Some reading) = go (bytes_eq reading.title title) where
  go : (b : Bool) → option_map found_of (if b then None else Some (forgotten reading)) ≡ (if b then None else Some (found_of reading))
  go true = refl
  go false = refl

abbrev state_of_parts : (input shown printed : List ℕ) (slots : List (Option File)) (n : ℕ) (found : Option Found) (buffer : Option (List ℕ)) → State
state_of_parts input shown printed slots n found buffer = record {
  input = input;
  shown = shown;
  printed = printed;
  slots = slots;
  blocks = n;
  found = found;
  buffer = buffer;
}

-- states of equal parts
same_parts : (input shown printed : List ℕ) (slots slots' : List (Option File)) (n n' : ℕ) (found found' : Option Found) (buffer buffer' : Option (List ℕ))
    → slots ≡ slots' → n ≡ n' → found ≡ found' → buffer ≡ buffer'
    → state_of_parts input shown printed slots n found buffer ≡ state_of_parts input shown printed slots' n' found' buffer'
same_parts input shown printed slots slots' n n' found found' buffer buffer' es en ef eb =
    ap (λ x. state_of_parts input shown printed x n found buffer) es ∙ ap (λ x. state_of_parts input shown printed slots' x found buffer) en
    ∙ ap (λ x. state_of_parts input shown printed slots' n' x buffer) ef ∙ ap (state_of_parts input shown printed slots' n' found') eb

module _ {D S T P X : Type 0} (before after : System D S T P) (answer : Result X CatEnd) (title words : List ℕ) (b b' : List (List ℕ)) (i s p : List ℕ)
    (spelled : title_of words ≡ Some title) where
  -- a text was stored, or the drive has failed in that
  pub closes : (bytes : List ℕ) (index : ℕ) → buffer_in before ≡ Some bytes → room_in b title (length bytes) ≡ Some index
      → is_refused answer ≡ false → Slots answer (put_slot (slots_of b) index (Some (text_file title bytes))) b b' → length b' ≡ length b
      → after.found ≡ not_titled title before.found → buffer_in after ≡ None
      → Reaches (close words (state_with before b i s p)) (done answer) (state_with before b i s p) (state_with after b' i s p)
  closes bytes index written room open_ slots many found left =
      subst (λ r. Reaches r (done answer) (state_with before b i s p) (state_with after b' i s p)) (sym made) (go (open_answer answer open_))
    where
      made : close words (state_with before b i s p) ≡ gives 1 (stored title bytes index (state_with before b i s p))
      made =
          ap (λ o. close_of o words (state_with before b i s p)) written
          ∙ ap (λ o. option_map_or (λ t. close_as bytes t (state_with before b i s p)) o (gives 0 (state_with before b i s p))) spelled
          ∙ ap (λ o. option_map_or (λ k. gives 1 (stored title bytes k (state_with before b i s p))) o (gives 0 (state_with before b i s p))) room

      go : ((x : X) × (answer ≡ Ok x)) ⊎ (answer ≡ Err cat.Fault) → Reaches (gives 1 (stored title bytes index (state_with before b i s p))) (done answer)
          (state_with before b i s p) (state_with after b' i s p)
      go (inl ok) =
          subst (λ r. Reaches (gives 1 (stored title bytes index (state_with before b i s p))) (done r) (state_with before b i s p)
          (state_with after b' i s p)) (sym ok.1) (
            refl,
            same_parts i s p _ _ _ _ _ _ _ _ (subst (λ r. Slots r (put_slot (slots_of b) index (Some (text_file title bytes))) b b') ok.1 slots) many
                (ap (option_map found_of) found ∙ found_other title before.found) left,
          )
      go (inr fault) =
          subst (λ r. Reaches (gives 1 (stored title bytes index (state_with before b i s p))) (done r) (state_with before b i s p)
          (state_with after b' i s p)) (sym fault) (record {
            input = refl;
            shown = inl refl;
            printed = inl refl;
            slots = subst (λ r. Slots r (put_slot (slots_of b) index (Some (text_file title bytes))) b b') fault slots;
            blocks = many;
          })

  -- a file was removed, or the drive has failed in that
  pub removes : (index : ℕ) → open_slot (slots_of b) title ≡ Some index → is_refused answer ≡ false
      → Slots answer (put_slot (slots_of b) index None) b b' → length b' ≡ length b → after.found ≡ not_titled title before.found
      → buffer_in after ≡ buffer_in before
      → Reaches (remove words (state_with before b i s p)) (done answer) (state_with before b i s p) (state_with after b' i s p)
  removes index may open_ slots many found left =
      subst (λ r. Reaches r (done answer) (state_with before b i s p) (state_with after b' i s p)) (sym made) (go (open_answer answer open_))
    where
      made : remove words (state_with before b i s p) ≡ gives 1 (with_slot (state_with before b i s p) title index None)
      made =
          ap (λ o. option_map_or (λ t. remove_as t (state_with before b i s p)) o (gives 0 (state_with before b i s p))) spelled
          ∙ ap (λ o. option_map_or (λ k. gives 1 (with_slot (state_with before b i s p) title k None)) o (gives 0 (state_with before b i s p))) may

      go : ((x : X) × (answer ≡ Ok x)) ⊎ (answer ≡ Err cat.Fault) → Reaches (gives 1 (with_slot (state_with before b i s p) title index None)) (done answer)
          (state_with before b i s p) (state_with after b' i s p)
      go (inl ok) =
          subst (λ r. Reaches (gives 1 (with_slot (state_with before b i s p) title index None)) (done r) (state_with before b i s p)
          (state_with after b' i s p)) (sym ok.1) (
            refl,
            same_parts i s p _ _ _ _ _ _ _ _ (subst (λ r. Slots r (put_slot (slots_of b) index None) b b') ok.1 slots) many
                (ap (option_map found_of) found ∙ found_other title before.found) left,
          )
      go (inr fault) =
          subst (λ r. Reaches (gives 1 (with_slot (state_with before b i s p) title index None)) (done r) (state_with before b i s p)
          (state_with after b' i s p)) (sym fault) (record {
            input = refl;
            shown = inl refl;
            printed = inl refl;
            slots = subst (λ r. Slots r (put_slot (slots_of b) index None) b b') fault slots;
            blocks = many;
          })
