-- What every state keeps, call by call.
use Rattle.std.proofs.Common.{◌≡◌, ℕ, zero, suc, ◌+◌, ◌<◌, Bool, true, false, List, [], ◌∷◌, ◌++◌, length, map, Option, Some, None, refl, sym, ap, ◌∙◌}
use Rattle.std.proofs.Common.{subst, arith, length-append, lt-ltb, le-leb, ltb-true, length-set}
use Rattle.std.specs.Prelude.{if◌then◌else◌, ⊤, ◌&&◌, slice_index, slice_get, nat_lt, nat_le, ◌==◌}
use Rattle.std.specs.Option.{option_map_or, option_and_then}
use Rattle.std.specs.List.{list_all}
use Rattle.std.specs.Str.{bytes_eq}
use Rattle.std.proofs.lemmas.List.Folds.{list_all-append}
use Rattle.edi_calls.specs.declared.kinds.FileKind.{FileKind}
use Rattle.edi_calls.specs.declared.kinds.FileKind.TheVariants as kind
use Rattle.edi_calls.specs.State.{File, Found, State, is_title, without_blanks}
use Rattle.edi_calls.specs.SoundState.{IsState, IsFoundAs, IsFoundIn, is_buffer, are_bytes, is_byte, is_slot}
use Rattle.edi_calls.specs.State.{character, most_bytes, title_of, find_file, free, blocks_of}
use Rattle.edi_calls.specs.Calls as calls
use Rattle.edi_calls.specs.Calls.{CallResult, answered, no_file, file_limit, gives, call, text_file, other_than, room_for, slot_for, open_slot}
use Rattle.edi_calls.specs.Laws.{StatesStaySound, ClosedFilesAreFound}
use Rattle.edi_calls.proofs.Storing.{IsIndexFor, IsFor, index_for, index_open, distinct_set, found_set, file_here, list_all-set, and_second}

abbrev SoundIn : CallResult → Type 0
SoundIn (answered words after) = IsState after
SoundIn no_file = ⊤
SoundIn file_limit = ⊤

either : (b : Bool) (x y : CallResult) → (b ≡ true → SoundIn x) → (b ≡ false → SoundIn y) → SoundIn (if b then x else y)
either true x y p q = p refl
either false x y p q = q refl

by_option : {A : Type 0} (f : A → CallResult) (o : Option A) (x : CallResult) → ((a : A) → o ≡ Some a → SoundIn (f a)) → SoundIn x
    → SoundIn (option_map_or f o x)
by_option f None x p q = q
by_option f (Some a) x p q = p a refl

-- the same files
kept : (s : State) (found : Option Found) (buffer : Option (List ℕ)) → IsState s → IsFoundIn s.slots found → is_buffer buffer ≡ true
    → IsState (record s { found = found; buffer = buffer })
kept s found buffer h f b = record { slot_count = h.slot_count; files = h.files; distinct = h.distinct; found = f; buffer = b }

accepts : (input : List ℕ) (s : State) → IsState s → SoundIn (calls.accept_from input s)
accepts [] s h = h
accepts (b ∷ bs) s h = record { slot_count = h.slot_count; files = h.files; distinct = h.distinct; found = h.found; buffer = h.buffer }

text_kind : (k : FileKind) → calls.is_text k ≡ true → k ≡ kind.Text
text_kind kind.Text h = refl
text_kind kind.Code h = absurd (cc)

finds_file : (s : State) (title : List ℕ) (o : Option File) → find_file s.slots title ≡ o
    → IsFoundIn s.slots (option_and_then (calls.found_as title) o)
finds_file s title None e = tt
finds_file s title (Some file) e = go (calls.is_text file.kind) refl
  where
    go : (b : Bool) → calls.is_text file.kind ≡ b → IsFoundIn s.slots (if b then Some (record { title = title; position = 0 }) else None)
    go true t = record { file = file; there = e; text = text_kind file.kind t; within = omega arith }
    go false t = tt

finds : (s : State) (o : Option (List ℕ)) → IsFoundIn s.slots (option_and_then (calls.found_in s) o)
finds s None = tt
finds s (Some title) = finds_file s title (find_file s.slots title) refl

slice_get-within : (xs : List ℕ) (n b : ℕ) → slice_get xs n ≡ Some b → n < length xs
slice_get-within [] n b h = absurd (cc)
slice_get-within (x ∷ xs) zero b h = omega arith
slice_get-within (x ∷ xs) (suc n) b h = let le : n < length xs = slice_get-within xs n b h in omega arith

mores : (found : Option Found) (s : State) → IsState s → SoundIn (calls.more_of found s)
mores None s h = tt
mores (Some found) s h = h

nexts : (byte : Option ℕ) (found : Found) (s : State) → IsState s → IsFoundAs s.slots found
    → slice_get (calls.found_bytes s found) found.position ≡ byte → SoundIn (calls.read_next byte found s)
nexts None found s h f e = h
nexts (Some byte) found s h f e =
    let same : calls.found_bytes s found ≡ f.file.bytes = ap calls.bytes_of f.there in
    let within : found.position < length f.file.bytes =
    slice_get-within f.file.bytes found.position byte (ap (λ xs. slice_get xs found.position) (sym same) ∙ e) in
    kept s (Some (record found { position = found.position + 1 })) s.buffer h
    (record { file = f.file; there = f.there; text = f.text; within = omega arith }) h.buffer

reads : (found : Option Found) (s : State) → IsState s → IsFoundIn s.slots found → SoundIn (calls.read_of found s)
reads None s h f = tt
reads (Some found) s h f = nexts (slice_get (calls.found_bytes s found) found.position) found s h f refl

-- a character more is still no more than fits
written : (bytes : List ℕ) (word : ℕ) → are_bytes bytes ≡ true → nat_lt (length bytes) most_bytes ≡ true
    → are_bytes (bytes ++ character word ∷ []) ≡ true
written bytes word h room =
    let all : list_all is_byte bytes ≡ true = and_second (nat_le (length bytes) most_bytes) _ h in
    let small : character word < 256 = omega arith in
    let one : list_all is_byte (character word ∷ []) ≡ true = ap (λ b. b && true) (lt-ltb _ _ small) in
    let each : list_all is_byte (bytes ++ character word ∷ []) ≡ true =
    list_all-append is_byte bytes (character word ∷ []) ∙ ap (λ b. b && list_all is_byte (character word ∷ [])) all ∙ one in
    let le : length bytes < most_bytes = ltb-true _ _ room in
    let long : nat_le (length (bytes ++ character word ∷ [])) most_bytes ≡ true =
    le-leb _ _ (omega (arith, length-append bytes (character word ∷ []))) in
    ap (λ b. b && list_all is_byte (bytes ++ character word ∷ [])) long ∙ each

writes : (buffer : Option (List ℕ)) (word : ℕ) (s : State) → IsState s → is_buffer buffer ≡ true → SoundIn (calls.write_to buffer word s)
writes None word s h b = tt
writes (Some bytes) word s h b =
    either (nat_lt (length bytes) most_bytes) _ _
    (λ room. kept s s.found (Some (bytes ++ character word ∷ [])) h h.found (written bytes word b room)) (λ _. tt)

-- the found file after a slot was changed
found_after : (s : State) (title : List ℕ) (index : ℕ) (slot : Option File) (found : Option Found) → IsIndexFor s.slots title index
    → IsFor title slot → IsFoundIn s.slots found → IsFoundIn (calls.with_slot s title index slot).slots (other_than title found)
found_after s title index slot None is for f = tt
found_after s title index slot (Some found) is for f = go (bytes_eq found.title title) refl
  where
    go : (b : Bool) → bytes_eq found.title title ≡ b
        → IsFoundIn (calls.with_slot s title index slot).slots (if b then None else Some found)
    go true e = tt
    go false e = found_set s.slots title index slot found is for e f

changed : (s : State) (title : List ℕ) (index : ℕ) (slot : Option File) (buffer : Option (List ℕ)) → IsState s
    → IsIndexFor s.slots title index → IsFor title slot → is_slot slot ≡ true → is_buffer buffer ≡ true
    → IsState (record (calls.with_slot s title index slot) { buffer = buffer })
changed s title index slot buffer h is for good b = record {
  slot_count = length-set s.slots index slot ∙ h.slot_count;
  files = list_all-set is_slot s.slots index slot h.files good;
  distinct = distinct_set s.slots title index slot h.distinct is for;
  found = found_after s title index slot s.found is for h.found;
  buffer = b;
}

-- the title that words spell is a title
titled : (words title : List ℕ) → title_of words ≡ Some title → is_title title ≡ true
titled words title h = go (without_blanks (map character words)) h
  where
    go : (t : List ℕ) → (if is_title t then Some t else None) ≡ Some title → is_title title ≡ true
    go t h = chosen (is_title t) refl h
      where
        chosen : (b : Bool) → is_title t ≡ b → (if b then Some t else None) ≡ Some title → is_title title ≡ true
        chosen true e h = let same : t ≡ title = cc in ap is_title (sym same) ∙ e
        chosen false e h = absurd (cc)

-- the place that there is for a file
placed : (s : State) (title : List ℕ) (size index : ℕ) → IsState s → room_for s title size ≡ Some index → IsIndexFor s.slots title index
placed s title size index h e = go (nat_le (blocks_of size) (free s)) e
  where
    go : (b : Bool) → (if b then slot_for s.slots title else None) ≡ Some index → IsIndexFor s.slots title index
    go true e = index_for s.slots title index h.distinct e
    go false e = absurd (cc)

closes : (buffer : Option (List ℕ)) (words : List ℕ) (s : State) → IsState s → is_buffer buffer ≡ true → SoundIn (calls.close_of buffer words s)
closes None words s h b = tt
closes (Some bytes) words s h b =
    by_option (λ title. calls.close_as bytes title s) (title_of words) _
    (λ title spelled.
    by_option (λ index. gives 1 (calls.stored title bytes index s)) (room_for s title (length bytes)) _
    (λ index room.
    changed s title index (Some (text_file title bytes)) None h (placed s title (length bytes) index h room)
    (record { titled = λ file e. let t : title ≡ file.title = ap_title (text_file title bytes) file e in sym t })
    (ap (λ b. b && are_bytes bytes) (titled words title spelled) ∙ b) refl) h) h
  where
    ap_title : (a b : File) → Some a ≡ Some b → a.title ≡ b.title
    ap_title a b e = let same : a ≡ b = cc in ap (λ f. f.title) same

removes : (words : List ℕ) (s : State) → IsState s → SoundIn (calls.remove words s)
removes words s h =
    by_option (λ title. calls.remove_as title s) (title_of words) _
    (λ title spelled.
    by_option (λ index. gives 1 (calls.with_slot s title index None)) (open_slot s.slots title) _
    (λ index room.
    changed s title index None s.buffer h (index_open s.slots title index h.distinct room)
    (record { titled = λ file e. absurd (cc) }) refl h.buffer) h) h

-- each of the calls
sound_on : (number : ℕ) (words : List ℕ) (s : State) → IsState s → SoundIn (call number words s)
sound_on number words s h =
    let same : (shown printed : List ℕ) → IsState (record s { shown = shown; printed = printed }) =
    λ shown printed. record { slot_count = h.slot_count; files = h.files; distinct = h.distinct; found = h.found; buffer = h.buffer } in
    either (number == 1) _ _ (λ _. accepts s.input s h) (λ _.
    either (number == 2) _ _ (λ _. same _ s.printed) (λ _.
    either (number == 3) _ _ (λ _. same s.shown _) (λ _.
    either (number == 4) _ _ (λ _. kept s _ s.buffer h (finds s (title_of words)) h.buffer) (λ _.
    either (number == 5) _ _ (λ _. mores s.found s h) (λ _.
    either (number == 6) _ _ (λ _. reads s.found s h h.found) (λ _.
    either (number == 7) _ _ (λ _. kept s s.found (Some []) h h.found refl) (λ _.
    either (number == 8) _ _ (λ _. writes s.buffer (slice_index words 0) s h h.buffer) (λ _.
    either (number == 9) _ _ (λ _. closes s.buffer words s h h.buffer) (λ _.
    either (number == 10) _ _ (λ _. removes words s h) (λ _. h))))))))))

sound_after : (result : CallResult) (answer : List ℕ) (after : State) → SoundIn result → result ≡ answered answer after → IsState after
sound_after (answered words next) answer after h e = let same : next ≡ after = cc in subst IsState same h
sound_after no_file answer after h e = absurd (cc)
sound_after file_limit answer after h e = absurd (cc)

pub states_stay_sound_all : StatesStaySound
states_stay_sound_all number words answer before after h e =
    sound_after (call number words before) answer after (sound_on number words before h) e

abbrev first_word : CallResult → ℕ
first_word (answered words after) = slice_index words 0
first_word no_file = 0
first_word file_limit = 0

not_both : (n : ℕ) → n ≡ 1 → n ≡ 0 → ⊥
not_both n a b = absurd (omega arith)

stored_found : (s after : State) (title bytes : List ℕ) (o : Option ℕ) → IsState s → room_for s title (length bytes) ≡ o
    → option_map_or (λ index. gives 1 (calls.stored title bytes index s)) o (gives 0 s) ≡ answered (1 ∷ []) after
    → find_file after.slots title ≡ Some (text_file title bytes)
stored_found s after title bytes None h room e =
    absurd (not_both 0 (ap first_word e) refl)
stored_found s after title bytes (Some index) h room e =
    let same : calls.stored title bytes index s ≡ after = cc in
    ap (λ t. find_file t.slots title) (sym same)
    ∙ file_here s.slots title index (text_file title bytes) (placed s title (length bytes) index h room) refl

pub closed_files_are_found_all : ClosedFilesAreFound
closed_files_are_found_all words title bytes before after h spelled open_file e =
    let known : calls.close words before ≡ calls.close_as bytes title before =
    ap (λ o. calls.close_of o words before) open_file
    ∙ ap (λ o. option_map_or (λ t. calls.close_as bytes t before) o (gives 0 before)) spelled in
    stored_found before after title bytes (room_for before title (length bytes)) h refl (sym known ∙ e)
