-- The entry of a file says its record.
use Rattle.std.proofs.Common.{◌≡◌, ℕ, suc, ◌+◌, ◌-◌, ◌*◌, ◌/◌, ◌%◌, ◌^◌, ◌<◌, ◌≤◌, Bool, true, false, List, [], ◌∷◌, ◌++◌, length, take, drop, get_or, refl}
use Rattle.std.proofs.Common.{ap, sym, ◌∙◌, arith, length-append}
use Rattle.std.specs.Prelude.{◌&&◌, ◌||◌, ◌==◌, nat_le, replicate, if◌then◌else◌, Option, Some, None, map, IfSome}
use Rattle.std.proofs.Math.Seq.{take-append_seam, drop-append-add}
use Rattle.std.proofs.lemmas.List.{get_or-append-add, length-replicate}
use Rattle.std.proofs.lemmas.Bool.{eqb-true}
use Rattle.std.proofs.lemmas.List.Folds.{list_all_at}
use Rattle.edi_calls.specs.State.{is_title, without_blanks, most_bytes, pages_of}
use Rattle.edi_calls.specs.declared.kinds.FileKind.{FileKind}
use Rattle.edi_calls.specs.declared.kinds.FileKind.TheVariants as kind
use Rattle.edi_image.specs.declared.entries.Said.TheVariants as said
use Rattle.edi_image.specs.Build.{two}
use Rattle.edi_image.specs.Titles.{with_blanks}
use Rattle.edi_image.specs.Records.{FileRecord, maps_of}
use Rattle.edi_image.specs.Entries.{short_at, long_at, are_zeros, is_data, is_entry, is_second_map, second_map, kind_of, record_in, entry_says}
use Rattle.edi_image.specs.Stored.{are_data, is_record}
use Rattle.edi_image.specs.Bytes.{kind_number, field_bytes, bytes_of_record, bytes_of_slot}
use Rattle.edi_image.proofs.Spelled.{both, title_length, without_blanks-title}
use Rattle.edi_image.specs.declared.entries.Said.{Said}

-- ---- the parts as they are put together

pub fields_made : (kind flag first_high first_low second_high second_low a b c d first second size : ℕ)
    → first_high ≡ first / 256 → first_low ≡ first % 256 → second_high ≡ second / 256 → second_low ≡ second % 256
    → a ≡ size / 2 ^ 16 / 256 → b ≡ size / 2 ^ 16 % 256 → c ≡ size % 2 ^ 16 / 256 → d ≡ size % 2 ^ 16 % 256
    → kind ∷ flag ∷ first_high ∷ first_low ∷ second_high ∷ second_low ∷ a ∷ b ∷ c ∷ d ∷ []
    ≡ kind ∷ flag ∷ (two first ++ (two second ++ (two (size / 2 ^ 16) ++ two (size % 2 ^ 16))))
unfolding two
fields_made kind flag fh fl sh sl a b c d first second size pfh pfl psh psl pa pb pc pd =
    rw (pfh, pfl, psh, psl, pa, pb, pc, pd) refl

first_of : (first : ℕ) (second : Option ℕ) → get_or (maps_of first second) 0 0 ≡ first
first_of first None = refl
first_of first (Some map) = refl

pub fields_are : (title : List ℕ) (k : FileKind) (p : Bool) (first : ℕ) (second : Option ℕ) (size number flag other : ℕ) → number ≡ kind_number k
    → flag ≡ (if p then 1 else 0) → other ≡ get_or (maps_of first second) 1 0
    → number ∷ flag ∷ (two first ++ (two other ++ (two (size / 2 ^ 16) ++ two (size % 2 ^ 16))))
    ≡ field_bytes (record { title = title; kind = k; protected = p; maps = maps_of first second; length = size })
fields_are title k p first second size number flag other n f o =
    ap (λ x. x ∷ flag ∷ (two first ++ (two other ++ (two (size / 2 ^ 16) ++ two (size % 2 ^ 16))))) n
    ∙ ap (λ x. kind_number k ∷ x ∷ (two first ++ (two other ++ (two (size / 2 ^ 16) ++ two (size % 2 ^ 16))))) f
    ∙ ap (λ x. kind_number k ∷ (if p then 1 else 0) ∷ (two first ++ (two x ++ (two (size / 2 ^ 16) ++ two (size % 2 ^ 16))))) o
    ∙ ap (λ x. kind_number k ∷ (if p then 1 else 0)
    ∷ (two x ++ (two (get_or (maps_of first second) 1 0) ++ (two (size / 2 ^ 16) ++ two (size % 2 ^ 16))))) (sym (first_of first second))

pub entry_made : (title fields copied placed back rest : List ℕ) → copied ≡ title → length copied ≡ 24 → rest ≡ drop 24 (replicate 64 0)
    → placed ≡ fields → back ≡ drop 10 rest → copied ++ (placed ++ back) ≡ title ++ (fields ++ replicate 30 0)
entry_made title fields copied placed back rest t size r f b =
    ap (λ bs. copied ++ (placed ++ bs)) (b ∙ ap (drop 10) r)
    ∙ ap (λ bs. copied ++ (bs ++ replicate 30 0)) f
    ∙ ap (λ bs. bs ++ (fields ++ replicate 30 0)) t

-- ---- reading it back

pub length-with_blanks : (title : List ℕ) → is_title title ≡ true → length (with_blanks 24 title) ≡ 24
unfolding with_blanks
length-with_blanks title h =
    length-append title (replicate (24 - length title) 32)
    ∙ ap (λ n. length title + n) (length-replicate (24 - length title) 32)
    ∙ (let short : length title ≤ 24 = title_length title h in omega arith)

without_blanks-with_blanks : (title : List ℕ) → is_title title ≡ true → without_blanks (with_blanks 24 title) ≡ title
unfolding with_blanks
without_blanks-with_blanks title h = without_blanks-title title (24 - length title) h

-- what stands behind the title
behind : (cs ys : List ℕ) (k at : ℕ) → length cs ≡ 24 → at ≡ 24 + k → get_or (cs ++ ys) at 0 ≡ get_or ys k 0
behind cs ys k at size index =
    ap (λ n. get_or (cs ++ ys) n 0) (index ∙ ap (λ n. n + k) (sym size)) ∙ get_or-append-add cs ys k 0

short_behind : (cs ys : List ℕ) (k at n : ℕ) → length cs ≡ 24 → at ≡ 24 + k → get_or ys k 0 ≡ n / 256 → get_or ys (k + 1) 0 ≡ n % 256
    → short_at (cs ++ ys) at ≡ n
short_behind cs ys k at n size index high low =
    let one : get_or (cs ++ ys) at 0 ≡ n / 256 = behind cs ys k at size index ∙ high in
    let other : get_or (cs ++ ys) (at + 1) 0 ≡ n % 256 = behind cs ys (k + 1) (at + 1) size (omega (arith, index)) ∙ low in
    ap (λ x. 2 ^ 8 * x + get_or (cs ++ ys) (at + 1) 0) one ∙ ap (λ x. 2 ^ 8 * (n / 256) + x) other
    ∙ (let whole : 256 * (n / 256) + n % 256 ≡ n = omega arith in whole)

long_behind : (bytes : List ℕ) (size : ℕ) → short_at bytes 30 ≡ size / 2 ^ 16 → short_at bytes 32 ≡ size % 2 ^ 16 → long_at bytes 30 ≡ size
long_behind bytes size high low =
    ap (λ x. 2 ^ 16 * x + short_at bytes 32) high ∙ ap (λ x. 2 ^ 16 * (size / 2 ^ 16) + x) low
    ∙ (let whole : 65536 * (size / 65536) + size % 65536 ≡ size = omega arith in whole)

-- ---- its maps

maps_back : (few : Bool) (maps : List ℕ) → (length maps == (if few then 1 else 2)) ≡ true
    → maps_of (get_or maps 0 0) (if few then None else Some (get_or maps 1 0)) ≡ maps
maps_back true [] h = absurd (let no : false ≡ true = h in cc)
maps_back true (m ∷ []) h = refl
maps_back true (m ∷ n ∷ ms) h = absurd (let many : suc (suc (length ms)) ≡ 1 = eqb-true (suc (suc (length ms))) 1 h in omega arith)
maps_back false [] h = absurd (let no : false ≡ true = h in cc)
maps_back false (m ∷ []) h = absurd (let no : false ≡ true = h in cc)
maps_back false (m ∷ n ∷ []) h = refl
maps_back false (m ∷ n ∷ o ∷ ms) h = absurd (let many : suc (suc (suc (length ms))) ≡ 2 = eqb-true (suc (suc (suc (length ms)))) 2 h in omega arith)

pub maps_fit_back : (few : Bool) (count : ℕ) (maps : List ℕ) → (length maps == (if few then 1 else 2)) ≡ true → are_data count maps ≡ true
    → (is_data 33 count (get_or maps 0 0) ≡ true)
    × ((if few then get_or maps 1 0 == 0 else is_data 33 count (get_or maps 1 0)) ≡ true)
maps_fit_back true count [] h d = absurd (let no : false ≡ true = h in cc)
maps_fit_back true count (m ∷ []) h d = ((both (is_data 33 count m) true d).0, refl)
maps_fit_back true count (m ∷ n ∷ ms) h d = absurd (let many : suc (suc (length ms)) ≡ 1 = eqb-true (suc (suc (length ms))) 1 h in omega arith)
maps_fit_back false count [] h d = absurd (let no : false ≡ true = h in cc)
maps_fit_back false count (m ∷ []) h d = absurd (let no : false ≡ true = h in cc)
maps_fit_back false count (m ∷ n ∷ []) h d =
    let parts = both (is_data 33 count m) (is_data 33 count n && true) d in
    (parts.0, (both (is_data 33 count n) true parts.1).0)
maps_fit_back false count (m ∷ n ∷ o ∷ ms) h d = absurd (let many : suc (suc (suc (length ms))) ≡ 2 = eqb-true (suc (suc (suc (length ms)))) 2 h in omega arith)

-- ---- the whole entry

kind_back : (k : FileKind) → kind_of (kind_number k) ≡ k
kind_back kind.Text = refl
kind_back kind.Code = refl

kind_known : (k : FileKind) → (kind_number k == 1 || kind_number k == 2) ≡ true
kind_known kind.Text = refl
kind_known kind.Code = refl

kind_shows : (k : FileKind) → (kind_number k == 0) ≡ false
kind_shows kind.Text = refl
kind_shows kind.Code = refl

flag_back : (p : Bool) → ((if p then 1 else 0) == 1) ≡ p
flag_back true = refl
flag_back false = refl

flag_fits : (p : Bool) → nat_le (if p then 1 else 0) 1 ≡ true
flag_fits true = refl
flag_fits false = refl

all_hold : (a b c d e f g : Bool) → a ≡ true → b ≡ true → c ≡ true → d ≡ true → e ≡ true → f ≡ true → g ≡ true
    → (a && (b && c && d && e && f && g)) ≡ true
all_hold a b c d e f g pa pb pc pd pe pf pg = rw (pa, pb, pc, pd, pe, pf, pg) refl

says : (z e : Bool) (x r : FileRecord) → z ≡ false → e ≡ true → x ≡ r
    → (if z then said.Free else (if e then said.File x else said.Wrong)) ≡ said.File r
says z e x r hz he same = rw (hz, he, same) refl

-- what the fields of the entry are
record EntryHas (bytes : List ℕ) (r : FileRecord) : Type 0 where
  title : without_blanks (take 24 bytes) ≡ r.title
  kind_ : get_or bytes 24 0 ≡ kind_number r.kind
  flag : get_or bytes 25 0 ≡ (if r.protected then 1 else 0)
  first : short_at bytes 26 ≡ get_or r.maps 0 0
  second : short_at bytes 28 ≡ get_or r.maps 1 0
  size : long_at bytes 30 ≡ r.length
  zeros : are_zeros (drop 34 bytes) ≡ true
  long : 24 < length bytes

entry_has : (r : FileRecord) → is_title r.title ≡ true → EntryHas (bytes_of_record r) r
unfolding bytes_of_record two
entry_has r h =
    let cs : List ℕ = with_blanks 24 r.title in
    let ys : List ℕ = field_bytes r ++ replicate 30 0 in
    let size : length cs ≡ 24 = length-with_blanks r.title h in
    let start : take 24 (cs ++ ys) ≡ cs = ap (λ n. take n (cs ++ ys)) (sym size) ∙ take-append_seam cs ys in
    let high : short_at (cs ++ ys) 30 ≡ r.length / 2 ^ 16 = short_behind cs ys 6 30 (r.length / 2 ^ 16) size refl refl refl in
    let low : short_at (cs ++ ys) 32 ≡ r.length % 2 ^ 16 = short_behind cs ys 8 32 (r.length % 2 ^ 16) size refl refl refl in
    let back : drop 34 (cs ++ ys) ≡ replicate 30 0 = ap (λ n. drop (n + 10) (cs ++ ys)) (sym size) ∙ drop-append-add cs ys 10 in
    record {
      title = ap without_blanks start ∙ without_blanks-with_blanks r.title h;
      kind_ = behind cs ys 0 24 size refl;
      flag = behind cs ys 1 25 size refl;
      first = short_behind cs ys 2 26 (get_or r.maps 0 0) size refl refl refl;
      second = short_behind cs ys 4 28 (get_or r.maps 1 0) size refl refl refl;
      size = long_behind (cs ++ ys) r.length high low;
      zeros = ap are_zeros back;
      long = omega (arith, size, length-append cs ys);
    }

has_says : (count : ℕ) (bytes : List ℕ) (r : FileRecord) → is_record count r ≡ true → EntryHas bytes r → entry_says count bytes ≡ said.File r
has_says count bytes r h has =
    let maps = both (is_title r.title && nat_le r.length most_bytes && are_data count r.maps)
    (length r.maps == (if nat_le (pages_of r.length) 255 then 1 else 2)) h in
    let data_ = both (is_title r.title && nat_le r.length most_bytes) (are_data count r.maps) maps.0 in
    let size = both (is_title r.title) (nat_le r.length most_bytes) data_.0 in
    let fit = maps_fit_back (nat_le (pages_of r.length) 255) count r.maps maps.1 data_.1 in
    let second : is_second_map count (long_at bytes 30) (short_at bytes 28) ≡ true =
    ap (λ n. is_second_map count n (short_at bytes 28)) has.size ∙ ap (is_second_map count r.length) has.second ∙ fit.1 in
    let back : maps_of (short_at bytes 26) (second_map (long_at bytes 30) (short_at bytes 28)) ≡ r.maps =
    ap (λ n. maps_of n (second_map (long_at bytes 30) (short_at bytes 28))) has.first
    ∙ ap (λ n. maps_of (get_or r.maps 0 0) (second_map n (short_at bytes 28))) has.size
    ∙ ap (λ n. maps_of (get_or r.maps 0 0) (second_map r.length n)) has.second
    ∙ maps_back (nat_le (pages_of r.length) 255) r.maps maps.1 in
    let kind_is : kind_of (get_or bytes 24 0) ≡ r.kind = ap kind_of has.kind_ ∙ kind_back r.kind in
    let flag_is : (get_or bytes 25 0 == 1) ≡ r.protected = ap (λ n. n == 1) has.flag ∙ flag_back r.protected in
    let same : record_in bytes ≡ r = λ i. record { title = has.title i; kind = kind_is i; protected = flag_is i; maps = back i; length = has.size i } in
    let fits : is_entry count bytes ≡ true =
    all_hold (is_title (without_blanks (take 24 bytes))) (get_or bytes 24 0 == 1 || get_or bytes 24 0 == 2) (nat_le (get_or bytes 25 0) 1)
    (nat_le (long_at bytes 30) most_bytes) (is_data 33 count (short_at bytes 26)) (is_second_map count (long_at bytes 30) (short_at bytes 28))
    (are_zeros (drop 34 bytes))
    (ap is_title has.title ∙ size.0)
    (ap (λ n. n == 1 || n == 2) has.kind_ ∙ kind_known r.kind)
    (ap (λ n. nat_le n 1) has.flag ∙ flag_fits r.protected)
    (ap (λ n. nat_le n most_bytes) has.size ∙ size.1)
    (ap (is_data 33 count) has.first ∙ fit.0) second has.zeros in
    let shows : are_zeros bytes ≡ false =
    list_all_at (λ b. b == 0) bytes 24 0 has.long (ap (λ n. n == 0) has.kind_ ∙ kind_shows r.kind) in
    says (are_zeros bytes) (is_entry count bytes) (record_in bytes) r shows fits same

pub says_record : (count : ℕ) (r : FileRecord) → is_record count r ≡ true → entry_says count (bytes_of_record r) ≡ said.File r
says_record count r h =
    let maps = both (is_title r.title && nat_le r.length most_bytes && are_data count r.maps)
    (length r.maps == (if nat_le (pages_of r.length) 255 then 1 else 2)) h in
    let data_ = both (is_title r.title && nat_le r.length most_bytes) (are_data count r.maps) maps.0 in
    let size = both (is_title r.title) (nat_le r.length most_bytes) data_.0 in
    has_says count (bytes_of_record r) r h (entry_has r size.0)

abbrev pub said_of : Option FileRecord → Said
said_of None = said.Free
said_of (Some r) = said.File r

pub says_slot : (count : ℕ) (r : Option FileRecord) → IfSome r (λ q. is_record count q ≡ true) → entry_says count (bytes_of_slot r) ≡ said_of r
says_slot count None h = refl
says_slot count (Some q) h = says_record count q h
