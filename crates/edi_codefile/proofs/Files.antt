-- The file of a code, and the parts of a file.
use Rattle.std.proofs.Common.{◌≡◌, ℕ, ◌+◌, ◌-◌, ◌*◌, ◌^◌, ◌<◌, ◌≤◌, Bool, true, false, List, ◌++◌, Option, Some, None, Result, Ok, Err, length, take, drop}
use Rattle.std.proofs.Common.{replicate, refl, sym, ap, ◌∙◌, arith}
use Rattle.std.specs.Prelude.{◌==◌, ◌||◌, nat_le, slice_index, IfOk, IfSome, IfNone, OnOk}
use Rattle.std.proofs.lemmas.Bool.{leb-true}
use Rattle.std.proofs.lemmas.List.{append_assoc, drop-drop, drop_at, length-append, length-drop, length-replicate, length-take-le, take_at}
use Rattle.edi_target.specs.Check.{CodeParts, IsSound, fields_fault, first_fault, operation_fault, or_else, parts_fault, starts_of, unless, words_fault}
use Rattle.edi_target.specs.File.{bytes_of_words, code_bytes, code_fault_of, code_of, header_fault, number_at, short_at, size_fault, words_of_bytes}
use Rattle.edi_target.specs.File.{zeros_fault}
use Rattle.edi_target.specs.declared.code_fault.CodeFault.{CodeFault}
use Rattle.edi_target.specs.declared.code_fault.CodeFault.TheVariants as fault
use Rattle.edi_target.proofs.Sound.{AreFields, fields_hold, sound_fields}
use Rattle.edi_codefile.proofs.Bytes.{length-bytes_of_words, length-words_of_bytes, number-number_bytes, words_of_bytes-bytes_of_words, zeros_fault-replicate}
use Rattle.edi_codefile.proofs.Versions.{first_words_fault, none_of, same_words_fault}

kept_by : (b : Bool) (f : CodeFault) → unless b f ≡ None → b ≡ true
kept_by true f e = refl
kept_by false f e = cc

-- ---- what a header and a size without fault say

-- the two bytes of the version, and the fields that speak of the code
pub record HeaderHolds (bytes : List ℕ) : Type 0 where
  pub version : (short_at bytes 2 == 1 || short_at bytes 2 == 2) ≡ true
  pub fields : fields_fault (number_at bytes 4) (number_at bytes 8) (slice_index bytes 12) (take (slice_index bytes 12) (drop 13 bytes)) ≡ None

pub header_holds : (bytes : List ℕ) → header_fault bytes ≡ None → HeaderHolds bytes
header_holds bytes e =
    let parameters : ℕ = slice_index bytes 12 in
    let fields : Option CodeFault = fields_fault (number_at bytes 4) (number_at bytes 8) parameters (take parameters (drop 13 bytes)) in
    let zeros : Option CodeFault = zeros_fault (13 + parameters) (drop (13 + parameters) (take 32 bytes)) in
    let version : Option CodeFault = unless (short_at bytes 2 == 1 || short_at bytes 2 == 2) (fault.Header 2 (slice_index bytes 2)) in
    let first = none_of (unless (short_at bytes 0 == 60693) (fault.Header 0 (slice_index bytes 0))) (or_else version (or_else fields zeros)) e in
    let second = none_of version (or_else fields zeros) first.1 in
    record {
      version = kept_by (short_at bytes 2 == 1 || short_at bytes 2 == 2) (fault.Header 2 (slice_index bytes 2)) second.0;
      fields = (none_of fields zeros second.1).0;
    }

pub header_fields : (bytes : List ℕ) → header_fault bytes ≡ None → AreFields (number_at bytes 4) (number_at bytes 8) (slice_index bytes 12)
header_fields bytes e =
    fields_hold (number_at bytes 4) (number_at bytes 8) (slice_index bytes 12) (take (slice_index bytes 12) (drop 13 bytes)) (header_holds bytes e).fields

pub size_holds : (bytes : List ℕ) → size_fault bytes ≡ None → length bytes ≡ 32 + 2 * number_at bytes 4
size_holds bytes e =
    let size : ℕ = 32 + 2 * number_at bytes 4 in
    let parts = none_of (unless (nat_le size (length bytes)) (fault.Short (length bytes))) (unless (nat_le (length bytes) size) (fault.Over size)) e in
    let least : size ≤ length bytes = leb-true size (length bytes) (kept_by (nat_le size (length bytes)) (fault.Short (length bytes)) parts.0) in
    let most : length bytes ≤ size = leb-true (length bytes) size (kept_by (nat_le (length bytes) size) (fault.Over size) parts.1) in
    omega arith

pub count_words : (bytes : List ℕ) → size_fault bytes ≡ None → length (words_of_bytes (drop 32 bytes)) ≡ number_at bytes 4
count_words bytes e =
    length-words_of_bytes (number_at bytes 4) (drop 32 bytes) (let size : length bytes ≡ 32 + 2 * number_at bytes 4 = size_holds bytes e in
    omega (arith, length-drop 32 bytes))

pub count_calls : (bytes : List ℕ) → 32 ≤ length bytes → header_fault bytes ≡ None → length (take (slice_index bytes 12) (drop 13 bytes)) ≡ slice_index bytes 12
count_calls bytes l e =
    let f : AreFields (number_at bytes 4) (number_at bytes 8) (slice_index bytes 12) = header_fields bytes e in
    length-take-le (slice_index bytes 12) (drop 13 bytes) (let most : slice_index bytes 12 ≤ 10 = f.number in omega (arith, length-drop 13 bytes))

-- the check of the code begins where that of the header ends
checked : (bytes words calls : List ℕ) → 32 ≤ length bytes → header_fault bytes ≡ None → size_fault bytes ≡ None → words ≡ words_of_bytes (drop 32 bytes)
    → calls ≡ take (slice_index bytes 12) (drop 13 bytes) → parts_fault words (number_at bytes 8) calls ≡ words_fault true (words_of_bytes (drop 32 bytes))
    (number_at bytes 8) (slice_index bytes 12)
unfolding parts_fault
checked bytes words calls l h s w k =
    let all : List ℕ = words_of_bytes (drop 32 bytes) in
    let numbers : List ℕ = take (slice_index bytes 12) (drop 13 bytes) in
    let start : ℕ = number_at bytes 8 in
    let fields : fields_fault (length all) start (length numbers) numbers ≡ None =
    ap (λ (n : ℕ). fields_fault n start (length numbers) numbers) (count_words bytes s)
    ∙ ap (λ (n : ℕ). fields_fault (number_at bytes 4) start n numbers) (count_calls bytes l h)
    ∙ (header_holds bytes h).fields in
    ap (λ (x : List ℕ). parts_fault x start calls) w
    ∙ ap (λ (x : List ℕ). parts_fault all start x) k
    ∙ ap (λ (x : Option CodeFault). or_else x (words_fault true all start (length numbers))) fields
    ∙ ap (λ (n : ℕ). words_fault true all start n) (count_calls bytes l h)

-- so of the words that were read, if the version has no fault of its own
pub read_fault : (bytes words read calls : List ℕ) (start : ℕ) → 32 ≤ length bytes → header_fault bytes ≡ None → size_fault bytes ≡ None
    → words ≡ words_of_bytes (drop 32 bytes) → read ≡ words → calls ≡ take (slice_index bytes 12) (drop 13 bytes) → start ≡ number_at bytes 8
    → ((first count : ℕ) → words_fault (short_at bytes 2 == 2) read first count ≡ words_fault true read first count)
    → parts_fault words start calls ≡ words_fault (short_at bytes 2 == 2) (words_of_bytes (drop 32 bytes)) (number_at bytes 8) (slice_index bytes 12)
read_fault bytes words read calls start room header size are same numbers first none =
    let all : words_of_bytes (drop 32 bytes) ≡ read = sym are ∙ sym same in
    ap (λ (n : ℕ). parts_fault words n calls) first
    ∙ checked bytes words calls room header size are numbers
    ∙ ap (λ (x : List ℕ). words_fault true x (number_at bytes 8) (slice_index bytes 12)) all
    ∙ sym (none (number_at bytes 8) (slice_index bytes 12))
    ∙ ap (λ (x : List ℕ). words_fault (short_at bytes 2 == 2) x (number_at bytes 8) (slice_index bytes 12)) (sym all)

-- ---- the versions

two_of : (n : ℕ) → (n == 1 || n == 2) ≡ true → (n ≡ 1 → ⊥) → (n == 2) ≡ true
two_of n e f = grind arith

pub older_fault : (bytes words : List ℕ) (f : CodeFault) → short_at bytes 2 ≡ 1 → Some f ≡ first_fault (operation_fault false) (starts_of words)
    → (start count : ℕ) → words_fault (short_at bytes 2 == 2) words start count ≡ Some f
older_fault bytes words f v e = λ start count. ap (λ (n : ℕ). words_fault (n == 2) words start count) v ∙ first_words_fault words start count f e

pub older_same : (bytes words : List ℕ) → short_at bytes 2 ≡ 1 → None ≡ first_fault (operation_fault false) (starts_of words) → (start count : ℕ)
    → words_fault (short_at bytes 2 == 2) words start count ≡ words_fault true words start count
older_same bytes words v e = λ start count.
    ap (λ (n : ℕ). words_fault (n == 2) words start count) v ∙ sym (same_words_fault words start count e)

pub newer_same : (bytes words : List ℕ) → header_fault bytes ≡ None → (short_at bytes 2 ≡ 1 → ⊥) → (start count : ℕ) → words_fault (short_at bytes 2 == 2)
    words start count ≡ words_fault true words start count
newer_same bytes words h v = λ start count.
    ap (λ (b : Bool). words_fault b words start count) (two_of (short_at bytes 2) (header_holds bytes h).version v)

-- ---- the file of a code

-- what stands behind the byte with the number of parameters
tail_of : CodeParts → List ℕ
tail_of c = c.calls ++ (replicate (19 - length c.calls) 0 ++ bytes_of_words c.words)

-- the call numbers and the zeros are nineteen bytes
nineteen : (c : CodeParts) → length c.calls ≤ 10 → length (c.calls ++ replicate (19 - length c.calls) 0) ≡ 19
nineteen c l =
    length-append c.calls (replicate (19 - length c.calls) 0) ∙ ap (λ (n : ℕ). length c.calls + n) (length-replicate (19 - length c.calls) 0) ∙ omega arith

-- what the bytes of a code without fault say, one fact a field
pub record IsFileOf (bytes : List ℕ) (c : CodeParts) : Type 0 where
  pub long : length bytes ≡ 32 + 2 * length c.words
  pub signature : short_at bytes 0 ≡ 60693
  pub version : short_at bytes 2 ≡ 2
  pub count : number_at bytes 4 ≡ length c.words
  pub start : number_at bytes 8 ≡ c.entry
  pub parameters : slice_index bytes 12 ≡ length c.calls
  pub calls : take (length c.calls) (drop 13 bytes) ≡ c.calls
  pub zeros : drop (13 + length c.calls) (take 32 bytes) ≡ replicate (19 - length c.calls) 0
  pub words : drop 32 bytes ≡ bytes_of_words c.words

pub file_of : (c : CodeParts) → length c.words < 2 ^ 32 → c.entry < 2 ^ 32 → length c.calls ≤ 10 → IsFileOf (code_bytes c) c
unfolding code_bytes
file_of c w s l =
    let calls : List ℕ = c.calls in
    let zeros : List ℕ = replicate (19 - length c.calls) 0 in
    let words : List ℕ = bytes_of_words c.words in
    let nine : length (calls ++ zeros) ≡ 19 = nineteen c l in
    let joined : calls ++ (zeros ++ words) ≡ (calls ++ zeros) ++ words = sym (append_assoc calls zeros words) in
    record {
      long = let behind : length (calls ++ (zeros ++ words)) ≡ 19 + 2 * length c.words = ap length joined ∙ length-append (calls ++ zeros) words
          ∙ omega (arith, nine, length-bytes_of_words c.words) in omega (arith, behind);
      signature = refl;
      version = refl;
      count = number-number_bytes (length c.words) w;
      start = number-number_bytes c.entry s;
      parameters = refl;
      calls = take_at calls (zeros ++ words) (length calls) refl;
      zeros = sym (drop-drop (length calls) 13 (take 32 (code_bytes c))) ∙ ap (λ (x : List ℕ). drop (length calls) (take 19 x)) joined
          ∙ ap (drop (length calls)) (take_at (calls ++ zeros) words 19 nine) ∙ drop_at calls zeros (length calls) refl;
      words = ap (drop 19) joined ∙ drop_at (calls ++ zeros) words 19 nine;
    }

or_none : (a b : Option CodeFault) → a ≡ None → b ≡ None → or_else a b ≡ None
or_none a b e f = ap (λ (x : Option CodeFault). or_else x b) e ∙ f

kept : (b : Bool) (f : CodeFault) → b ≡ true → unless b f ≡ None
kept b f e = ap (λ (x : Bool). unless x f) e

within : (m n : ℕ) → m ≤ n → nat_le m n ≡ true
within m n l = grind arith

header_of : (bytes : List ℕ) (c : CodeParts) → IsFileOf bytes c → fields_fault (length c.words) c.entry (length c.calls) c.calls ≡ None
    → header_fault bytes ≡ None
header_of bytes c f fields =
    let parameters : ℕ = slice_index bytes 12 in
    let calls : take parameters (drop 13 bytes) ≡ c.calls = ap (λ (n : ℕ). take n (drop 13 bytes)) f.parameters ∙ f.calls in
    let same : fields_fault (number_at bytes 4) (number_at bytes 8) parameters (take parameters (drop 13 bytes)) ≡ None =
    ap (λ (n : ℕ). fields_fault n (number_at bytes 8) parameters (take parameters (drop 13 bytes))) f.count
    ∙ ap (λ (n : ℕ). fields_fault (length c.words) n parameters (take parameters (drop 13 bytes))) f.start
    ∙ ap (fields_fault (length c.words) c.entry parameters) calls
    ∙ ap (λ (n : ℕ). fields_fault (length c.words) c.entry n c.calls) f.parameters
    ∙ fields in
    let zeros : zeros_fault (13 + parameters) (drop (13 + parameters) (take 32 bytes)) ≡ None =
    ap (λ (n : ℕ). zeros_fault (13 + n) (drop (13 + n) (take 32 bytes))) f.parameters
    ∙ ap (zeros_fault (13 + length c.calls)) f.zeros
    ∙ zeros_fault-replicate (19 - length c.calls) (13 + length c.calls) in
    or_none _ _ (kept (short_at bytes 0 == 60693) _ (ap (λ (n : ℕ). n == 60693) f.signature))
    (or_none _ _ (kept (short_at bytes 2 == 1 || short_at bytes 2 == 2) _ (ap (λ (n : ℕ). n == 1 || n == 2) f.version)) (or_none _ _ same zeros))

size_of : (bytes : List ℕ) (c : CodeParts) → IsFileOf bytes c → size_fault bytes ≡ None
size_of bytes c f =
    let size : ℕ = 32 + 2 * number_at bytes 4 in
    let long : length bytes ≡ size = f.long ∙ ap (λ (n : ℕ). 32 + 2 * n) (sym f.count) in
    or_none (unless (nat_le size (length bytes)) (fault.Short (length bytes))) (unless (nat_le (length bytes) size) (fault.Over size))
    (kept (nat_le size (length bytes)) (fault.Short (length bytes)) (within size (length bytes) (omega arith)))
    (kept (nat_le (length bytes) size) (fault.Over size) (within (length bytes) size (omega arith)))

-- the file of a code without fault has none
pub no_fault_of : (bytes : List ℕ) (c : CodeParts) → IsFileOf bytes c → IsSound c → code_fault_of bytes ≡ None
unfolding code_fault_of parts_fault
no_fault_of bytes c f e =
    let parts = none_of (fields_fault (length c.words) c.entry (length c.calls) c.calls) (words_fault true c.words c.entry (length c.calls)) e in
    let ws : List ℕ = words_of_bytes (drop 32 bytes) in
    let words : ws ≡ c.words = ap words_of_bytes f.words ∙ words_of_bytes-bytes_of_words c.words in
    let rest : words_fault (short_at bytes 2 == 2) ws (number_at bytes 8) (slice_index bytes 12) ≡ None =
    ap (λ (n : ℕ). words_fault (n == 2) ws (number_at bytes 8) (slice_index bytes 12)) f.version
    ∙ ap (λ (x : List ℕ). words_fault true x (number_at bytes 8) (slice_index bytes 12)) words
    ∙ ap (λ (n : ℕ). words_fault true c.words n (slice_index bytes 12)) f.start
    ∙ ap (λ (n : ℕ). words_fault true c.words c.entry n) f.parameters
    ∙ parts.1 in
    or_none (unless (nat_le 32 (length bytes)) (fault.Short (length bytes))) _
    (kept (nat_le 32 (length bytes)) (fault.Short (length bytes)) (within 32 (length bytes) (let long : length bytes ≡ 32 + 2 * length c.words = f.long in
    omega arith)))
    (or_none (header_fault bytes) _ (header_of bytes c f parts.0) (or_none (size_fault bytes) _ (size_of bytes c f) rest))

parts_of : List ℕ → ℕ → List ℕ → CodeParts
parts_of words entry calls = record { words = words; entry = entry; calls = calls }

-- and its code is that one
pub same_code_of : (bytes : List ℕ) (c : CodeParts) → IsFileOf bytes c → code_of bytes ≡ c
unfolding parts_of
same_code_of bytes c f =
    ap (λ (x : List ℕ). parts_of x (number_at bytes 8) (take (slice_index bytes 12) (drop 13 bytes)))
    (ap words_of_bytes f.words ∙ words_of_bytes-bytes_of_words c.words)
    ∙ ap (λ (n : ℕ). parts_of c.words n (take (slice_index bytes 12) (drop 13 bytes))) f.start
    ∙ ap (parts_of c.words c.entry) (ap (λ (n : ℕ). take n (drop 13 bytes)) f.parameters ∙ f.calls)

pub file_of_sound : (c : CodeParts) → IsSound c → IsFileOf (code_bytes c) c
file_of_sound c e =
    let f : AreFields (length c.words) c.entry (length c.calls) = sound_fields c e in
    let words : length c.words ≤ 4194304 = f.limit in
    let inside : c.entry < length c.words = f.inside in
    file_of c (omega arith) (omega arith) f.number

-- ---- the answers of a check

pub older_some : (bytes words : List ℕ) (o : Option CodeFault) → short_at bytes 2 ≡ 1 → o ≡ first_fault (operation_fault false) (starts_of words)
    → IfSome o (λ f. (start count : ℕ) → words_fault (short_at bytes 2 == 2) words start count ≡ Some f)
older_some bytes words None v e = tt
older_some bytes words (Some f) v e = older_fault bytes words f v e

pub older_none : (bytes words : List ℕ) (o : Option CodeFault) → short_at bytes 2 ≡ 1 → o ≡ first_fault (operation_fault false) (starts_of words)
    → IfNone o ((start count : ℕ) → words_fault (short_at bytes 2 == 2) words start count ≡ words_fault true words start count)
older_none bytes words None v e = older_same bytes words v e
older_none bytes words (Some f) v e = tt

pub sound_answer : (r : Result CodeParts CodeFault) (words : List ℕ) (start : ℕ) (calls : List ℕ) (expected : Option CodeFault)
    → parts_fault words start calls ≡ expected → IfOk r (λ c. c ≡ record { words = words; entry = start; calls = calls }) → IfOk r IsSound
    → OnOk r (expected ≡ None)
sound_answer (Ok c) words start calls expected e is sound =
    sym e ∙ sym (ap (λ (x : CodeParts). parts_fault x.words x.entry x.calls) is) ∙ sound
sound_answer (Err f) words start calls expected e is sound = tt

pub few_words : (bytes : List ℕ) → header_fault bytes ≡ None → size_fault bytes ≡ None → length (words_of_bytes (drop 32 bytes)) ≤ 4194304
few_words bytes h s =
    let f : AreFields (number_at bytes 4) (number_at bytes 8) (slice_index bytes 12) = header_fields bytes h in
    let limit : number_at bytes 4 ≤ 4194304 = f.limit in
    omega (arith, count_words bytes s)

pub few_calls : (bytes : List ℕ) → 32 ≤ length bytes → header_fault bytes ≡ None → length (take (slice_index bytes 12) (drop 13 bytes)) ≤ 10
few_calls bytes l h =
    let f : AreFields (number_at bytes 4) (number_at bytes 8) (slice_index bytes 12) = header_fields bytes h in
    let limit : slice_index bytes 12 ≤ 10 = f.number in
    omega (arith, count_calls bytes l h)
