-- Where a state has an image, the state after a call that is answered has one too.
use Rattle.std.proofs.Common.{◌≡◌, ℕ, ◌+◌, ◌-◌, ◌≤◌, ◌<◌, Bool, true, false, List, [], ◌∷◌, ◌++◌, length, Option, Some, None, refl, ap, sym, subst, ◌∙◌}
use Rattle.std.proofs.Common.{arith, length-append}
use Rattle.std.specs.Prelude.{IfSome, map, nat_le, nat_lt, slice_get, slice_index, if◌then◌else◌, ◌==◌}
use Rattle.std.specs.Option.{option_and_then, option_map_or}
use Rattle.std.proofs.lemmas.Bool.{leb-true, ltb-true}
use Rattle.edi_calls.specs.declared.kinds.FileKind.TheVariants as kind
use Rattle.edi_calls.specs.State.{Found, State, blocks_of, blocks_taken, character, find_slot, free, is_title, most_bytes, pages_of, put_slot, slot_at}
use Rattle.edi_calls.specs.State.{title_of, without_blanks}
use Rattle.edi_calls.specs.Calls as calls
use Rattle.edi_calls.specs.Calls.{CallResult, answered, call, gives, is_protected, open_slot, slot_for, text_file, with_slot}
use Rattle.edi_calls.proofs.Lasting.{IfAnswered, answer_is, by_test}
use Rattle.edi_image.specs.Image.{slots_of}
use Rattle.edi_statuses.proofs.always.Images.{IsImage, image_changed, image_stored, titled_file}

-- an image has its files, and what is being written is no longer than a file may be
pub record HasImage (s : State) : Type 0 where
  pub image : IsImage s.blocks s.slots
  pub short : IfSome s.buffer (λ bytes. length bytes ≤ most_bytes)

abbrev Keeps : CallResult → Type 0
Keeps result = IfAnswered (λ words after. HasImage after) result

-- the disk and the buffer are as before
pub same_image : (s t : State) → t.blocks ≡ s.blocks → t.slots ≡ s.slots → t.buffer ≡ s.buffer → HasImage s → HasImage t
same_image s t blocks slots buffer h = record {
  image = subst (λ n. IsImage n t.slots) (sym blocks) (subst (IsImage s.blocks) (sym slots) h.image);
  short = subst (λ b. IfSome b (λ bytes. length bytes ≤ most_bytes)) (sym buffer) h.short;
}

accepts : (input : List ℕ) (s : State) → HasImage s → Keeps (calls.accept_from input s)
accepts [] s h = h
accepts (b ∷ bs) s h = same_image s _ refl refl refl h

mores : (found : Option Found) (s : State) → HasImage s → Keeps (calls.more_of found s)
mores None s h = tt
mores (Some found) s h = h

nexts : (byte : Option ℕ) (found : Found) (s : State) → HasImage s → Keeps (calls.read_next byte found s)
nexts None found s h = h
nexts (Some byte) found s h = same_image s _ refl refl refl h

reads : (found : Option Found) (s : State) → HasImage s → Keeps (calls.read_of found s)
reads None s h = tt
reads (Some found) s h = nexts (slice_get (calls.found_bytes s found) found.position) found s h

writes : (buffer : Option (List ℕ)) (word : ℕ) (s : State) → HasImage s → Keeps (calls.write_to buffer word s)
writes None word s h = tt
writes (Some bytes) word s h = go (nat_lt (length bytes) most_bytes) refl
  where
    go : (b : Bool) → nat_lt (length bytes) most_bytes ≡ b
        → Keeps (if b then calls.does (record s { buffer = Some (bytes ++ character word ∷ []) }) else calls.file_limit)
    go false e = tt
    go true e = record {
      image = h.image;
      short = (let less : length bytes < 261120 = ltb-true (length bytes) most_bytes e in omega (arith, less, length-append bytes (character word ∷ [])));
    }

-- ---- the files

-- a file takes a block at least
pub one_block : (size : ℕ) → 1 ≤ blocks_of size
one_block size = go (nat_le (pages_of size) 255)
  where
    go : (few : Bool) → 1 ≤ pages_of size + (if few then 1 else 2)
    go true = omega arith
    go false = omega arith

-- a file is stored where there is room
stored_image : (s : State) (title bytes : List ℕ) (index : ℕ) → HasImage s → is_title title ≡ true → length bytes ≤ most_bytes
    → nat_le (blocks_of (length bytes)) (free s) ≡ true → slot_for s.slots title ≡ Some index
    → IsImage s.blocks (put_slot s.slots index (Some (text_file title bytes)))
stored_image s title bytes index h titled short room slot =
    let files : slots_of h.image.blocks ≡ s.slots = h.image.holds.files in
    let fits : blocks_of (length bytes) ≤ s.blocks - (33 + blocks_taken s.slots) = leb-true (blocks_of (length bytes)) (free s) room in
    let taken : blocks_taken (slots_of h.image.blocks) ≡ blocks_taken s.slots = ap blocks_taken files in
    let enough : blocks_of (length bytes) + 33 + blocks_taken (slots_of h.image.blocks) ≤ length h.image.blocks =
    omega (arith, fits, taken, h.image.many, one_block (length bytes)) in
    subst (λ n. IsImage n (put_slot s.slots index (Some (text_file title bytes)))) h.image.many
    (subst (λ slots. IsImage (length h.image.blocks) (put_slot slots index (Some (text_file title bytes)))) files
    (image_stored h.image.blocks title kind.Text bytes index h.image.sized h.image.holds.valid titled short enough
    (ap (λ slots. slot_for slots title) files ∙ slot)))

-- the answer of a close and of a removal, by the slot
abbrev closed_at : (bytes title : List ℕ) → State → Option ℕ → CallResult
closed_at bytes title s o = option_map_or (λ index. gives 1 (calls.stored title bytes index s)) o (gives 0 s)

abbrev removed_at : (title : List ℕ) → State → Option ℕ → CallResult
removed_at title s o = option_map_or (λ index. gives 1 (with_slot s title index None)) o (gives 0 s)

closes_as : (bytes title : List ℕ) (s : State) → HasImage s → is_title title ≡ true → length bytes ≤ most_bytes → Keeps (calls.close_as bytes title s)
closes_as bytes title s h titled short = by_room (nat_le (blocks_of (length bytes)) (free s)) refl
  where
    by_slot : (o : Option ℕ) → slot_for s.slots title ≡ o → nat_le (blocks_of (length bytes)) (free s) ≡ true → Keeps (closed_at bytes title s o)
    by_slot None e room = h
    by_slot (Some index) e room = record { image = stored_image s title bytes index h titled short room e; short = tt }

    by_room : (b : Bool) → nat_le (blocks_of (length bytes)) (free s) ≡ b → Keeps (closed_at bytes title s (if b then slot_for s.slots title else None))
    by_room false e = h
    by_room true e = by_slot (slot_for s.slots title) refl e

-- a file is removed
removed_image : (s : State) (title : List ℕ) (index : ℕ) → HasImage s → find_slot s.slots title ≡ Some index
    → IsImage s.blocks (put_slot s.slots index None)
removed_image s title index h found =
    let files : slots_of h.image.blocks ≡ s.slots = h.image.holds.files in
    let at = titled_file h.image.blocks title index h.image.holds.valid (ap (λ slots. find_slot slots title) files ∙ found) in
    subst (λ n. IsImage n (put_slot s.slots index None)) h.image.many
    (subst (λ slots. IsImage (length h.image.blocks) (put_slot slots index None)) files
    (image_changed h.image.blocks index None h.image.sized h.image.holds.valid at.1 (record { file = at.0.file; there = at.0.there; fits = tt }) refl))

removes_as : (title : List ℕ) (s : State) → HasImage s → Keeps (calls.remove_as title s)
removes_as title s h = by_found (find_slot s.slots title) refl
  where
    by_protection : (index : ℕ) → find_slot s.slots title ≡ Some index → (b : Bool) → Keeps (removed_at title s (if b then None else Some index))
    by_protection index e true = h
    by_protection index e false = record { image = removed_image s title index h e; short = h.short }

    by_found : (o : Option ℕ) → find_slot s.slots title ≡ o
        → Keeps (removed_at title s (option_and_then (λ index. if is_protected (slot_at s.slots index) then None else Some index) o))
    by_found None e = h
    by_found (Some index) e = by_protection index e (is_protected (slot_at s.slots index))

-- by the title that words spell
by_title : (f : List ℕ → CallResult) (words : List ℕ) (s : State) → HasImage s → ((title : List ℕ) → is_title title ≡ true → Keeps (f title))
    → Keeps (option_map_or f (title_of words) (gives 0 s))
by_title f words s h each = go (is_title (without_blanks (map character words))) refl
  where
    go : (b : Bool) → is_title (without_blanks (map character words)) ≡ b
        → Keeps (option_map_or f (if b then Some (without_blanks (map character words)) else None) (gives 0 s))
    go true e = each (without_blanks (map character words)) e
    go false e = h

closes : (buffer : Option (List ℕ)) (words : List ℕ) (s : State) → s.buffer ≡ buffer → HasImage s → Keeps (calls.close_of buffer words s)
closes None words s e h = tt
closes (Some bytes) words s e h =
    let short : length bytes ≤ most_bytes = subst (λ b. IfSome b (λ xs. length xs ≤ most_bytes)) e h.short in
    by_title (λ title. calls.close_as bytes title s) words s h (λ title titled. closes_as bytes title s h titled short)

removes : (words : List ℕ) (s : State) → HasImage s → Keeps (calls.remove words s)
removes words s h = by_title (λ title. calls.remove_as title s) words s h (λ title titled. removes_as title s h)

-- ---- all calls

each_call : (number : ℕ) (words : List ℕ) (s : State) → HasImage s → Keeps (call number words s)
each_call number words s h =
    by_test _ (number == 1) _ _ (accepts s.input s h)
    (by_test _ (number == 2) _ _ (same_image s _ refl refl refl h)
    (by_test _ (number == 3) _ _ (same_image s _ refl refl refl h)
    (by_test _ (number == 4) _ _ (same_image s _ refl refl refl h)
    (by_test _ (number == 5) _ _ (mores s.found s h)
    (by_test _ (number == 6) _ _ (reads s.found s h)
    (by_test _ (number == 7) _ _ (record { image = h.image; short = omega arith })
    (by_test _ (number == 8) _ _ (writes s.buffer (slice_index words 0) s h)
    (by_test _ (number == 9) _ _ (closes s.buffer words s refl h)
    (by_test _ (number == 10) _ _ (removes words s h) h)))))))))

pub images_stay : (number : ℕ) (words answer : List ℕ) (before after : State) → HasImage before → call number words before ≡ answered answer after
    → HasImage after
images_stay number words answer before after h is = answer_is (λ words_ next. HasImage next) (call number words before) answer after (each_call number words before h) is
