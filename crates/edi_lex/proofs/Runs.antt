-- Pieces that stand at the front of a text.
use Rattle.std.proofs.Common.{◌≡◌, ℕ, suc, ◌+◌, Bool, true, false, not, ◌||◌, ◌&&◌, cond, eqb, ltb, List, [], ◌∷◌, ◌++◌, length, take, get_or, ℤ, Result}
use Rattle.std.proofs.Common.{Err, Option, None, Some, refl, sym, ap, ◌∙◌, subst, arith, one-add, append_assoc, length-append}
use Rattle.std.specs.Prelude.{is_some, slice_index}
use Rattle.std.specs.List.{prefix_len, list_all}
use Rattle.std.proofs.lemmas.Bool.Decides.{nat_tests}
use Rattle.std.proofs.Math.Seq.{take-append_seam}
use Rattle.edi_lex.specs.Bytes.{is_separator, is_letter, is_digit, is_name_byte, is_string_byte, is_comment_byte, feeds_at, line_feeds}
use Rattle.edi_lex.specs.Specials.{special_of, special_pair, special_with}
use Rattle.edi_lex.specs.Spelling.{number_of, word_or_name}
use Rattle.edi_lex.specs.Spelled.{is_name, is_numeral}
use Rattle.edi_lex.specs.Symbols.{space, stands, stray, too_great, comment_piece, string_piece, special_piece, longer_of, with_value, piece_of, with_front}
use Rattle.edi_lex.specs.Symbols.{by_piece, symbols_from}
use Rattle.edi_lex.specs.Sound.{is_special}
use Rattle.edi_lex.specs.Reading.{comment_from}
use Rattle.edi_lex.specs.declared.symbol.Symbol.{Symbol}
use Rattle.edi_lex.specs.declared.symbol.Symbol.TheVariants as is
use Rattle.edi_lex.specs.declared.symbol.Mark.{Mark}
use Rattle.edi_lex.specs.declared.fault.LexFault.{LexFault}
use Rattle.edi_lex.specs.declared.fault.LexFault.TheVariants.{BadCharacter, BadNumeral}

abbrev pub Answer : Type 0
Answer = Result (List Mark × ℕ) LexFault

-- one mark in front
abbrev pub marked : Symbol → ℕ → Answer → Answer
marked symbol line answer = with_front (record { symbol = symbol; line = line } ∷ []) answer

pub both : (a b : Bool) → (a && b) ≡ true → (a ≡ true) × (b ≡ true)
both a b h = (grind (arith, nat_tests), grind (arith, nat_tests))

pub same_byte : (a b : ℕ) → eqb a b ≡ true → a ≡ b
same_byte a b h = grind (arith, nat_tests)

-- a test that a line feed does not pass
pub no_feed : (p : ℕ → Bool) → p 10 ≡ false → (b : ℕ) → p b ≡ true → feeds_at b ≡ 0
no_feed p not b passes = grind (arith, nat_tests)

pub no_feeds : (p : ℕ → Bool) → p 10 ≡ false → (bs : List ℕ) → list_all p bs ≡ true → line_feeds bs ≡ 0
no_feeds p not [] h = refl
no_feeds p not (b ∷ bs) h = let parts = both (p b) (list_all p bs) h in omega (arith, no_feed p not b parts.0, no_feeds p not bs parts.1)

-- no first byte passes
abbrev pub stops : (ℕ → Bool) → List ℕ → Bool
stops p [] = true
stops p (b ∷ rest) = not (p b)

pub not_true : (b : Bool) → not b ≡ true → b ≡ false
not_true b h = grind (arith, nat_tests)

-- a run of bytes that pass is as long as the next byte that does not
pub run_len : (p : ℕ → Bool) (bs rest : List ℕ) → list_all p bs ≡ true → stops p rest ≡ true → prefix_len p (bs ++ rest) ≡ length bs
run_len p [] [] h e = refl
run_len p [] (b ∷ rest) h e = rw (not_true (p b) e) refl
run_len p (b ∷ bs) rest h e =
    let parts = both (p b) (list_all p bs) h in
    rw parts.0 (rw one-add (ap suc (run_len p bs rest parts.1 e)))

-- bytes of a piece that has been taken already
skipped : (bs rest : List ℕ) (line : ℕ) → line_feeds bs ≡ 0 → symbols_from (bs ++ rest) (length bs) line ≡ symbols_from rest 0 line
unfolding symbols_from
skipped [] rest line none = refl
skipped (b ∷ bs) rest line none =
    let same : line + feeds_at b ≡ line = omega (arith, none) in
    ap (symbols_from (bs ++ rest) (length bs)) same ∙ skipped bs rest line (omega (arith, none))

-- a symbol of these bytes
symbol_first : (b : ℕ) (bs rest : List ℕ) (line : ℕ) (s : Symbol) → feeds_at b ≡ 0 → line_feeds bs ≡ 0 → piece_of b (bs ++ rest) ≡ stands s (length bs)
    → symbols_from (b ∷ (bs ++ rest)) 0 line ≡ marked s line (symbols_from rest 0 line)
unfolding symbols_from
symbol_first b bs rest line s one more is =
    let same : line + feeds_at b ≡ line = omega (arith, one) in
    ap (λ p. by_piece p line (λ k. symbols_from (bs ++ rest) k (line + feeds_at b))) is
    ∙ ap (λ n. marked s line (symbols_from (bs ++ rest) (length bs) n)) same
    ∙ ap (marked s line) (skipped bs rest line more)

-- no piece
pub stray_first : (b : ℕ) (rest : List ℕ) (line : ℕ) → piece_of b rest ≡ stray → symbols_from (b ∷ rest) 0 line ≡ Err (BadCharacter line)
unfolding symbols_from
stray_first b rest line is = ap (λ p. by_piece p line (λ k. symbols_from rest k (line + feeds_at b))) is

too_great_first : (b : ℕ) (rest : List ℕ) (line : ℕ) → piece_of b rest ≡ too_great → symbols_from (b ∷ rest) 0 line ≡ Err (BadNumeral line)
unfolding symbols_from
too_great_first b rest line is = ap (λ p. by_piece p line (λ k. symbols_from rest k (line + feeds_at b))) is

pub space_first : (b : ℕ) (rest : List ℕ) (line : ℕ) → piece_of b rest ≡ space 0 → symbols_from (b ∷ rest) 0 line ≡ symbols_from rest 0 (line + feeds_at b)
unfolding symbols_from
space_first b rest line is = ap (λ p. by_piece p line (λ k. symbols_from rest k (line + feeds_at b))) is

pub name_first : (kept rest : List ℕ) (line : ℕ) → is_name kept ≡ true → stops is_name_byte rest ≡ true → symbols_from (kept ++ rest) 0 line ≡ marked
    (word_or_name kept) line (symbols_from rest 0 line)
unfolding piece_of
name_first [] rest line h e = absurd (cc)
name_first (b ∷ bs) rest line h e =
    let parts = both (is_letter b) (list_all is_name_byte bs) h in
    let long : prefix_len is_name_byte (bs ++ rest) ≡ length bs = run_len is_name_byte bs rest parts.1 e in
    symbol_first b bs rest line (word_or_name (b ∷ bs)) (no_feed is_letter refl b parts.0) (no_feeds is_name_byte refl bs parts.1)
    (rw parts.0 (ap (λ n. stands (word_or_name (b ∷ take n (bs ++ rest))) n) long ∙ ap (λ t. stands (word_or_name (b ∷ t)) (length bs))
    (take-append_seam bs rest)))

digit_no_letter : (b : ℕ) → is_digit b ≡ true → is_letter b ≡ false
digit_no_letter b h = grind (arith, nat_tests)

numeral_is : (b : ℕ) (bs rest : List ℕ) → is_numeral (b ∷ bs) ≡ true → stops is_digit rest ≡ true → piece_of b (bs ++ rest) ≡ with_value (number_of (b ∷ bs))
    (length bs)
unfolding piece_of
numeral_is b bs rest h e =
    let parts = both (is_digit b) (list_all is_digit bs) h in
    let long : prefix_len is_digit (bs ++ rest) ≡ length bs = run_len is_digit bs rest parts.1 e in
    rw (digit_no_letter b parts.0, parts.0)
    (ap (λ n. with_value (number_of (b ∷ take n (bs ++ rest))) n) long
    ∙ ap (λ t. with_value (number_of (b ∷ t)) (length bs)) (take-append_seam bs rest))

pub numeral_first : (kept rest : List ℕ) (line : ℕ) (value : ℤ) → is_numeral kept ≡ true → stops is_digit rest ≡ true → number_of kept ≡ Some value
    → symbols_from (kept ++ rest) 0 line ≡ marked (is.Numeral value) line (symbols_from rest 0 line)
numeral_first [] rest line value h e stated = absurd (cc)
numeral_first (b ∷ bs) rest line value h e stated =
    let parts = both (is_digit b) (list_all is_digit bs) h in
    symbol_first b bs rest line (is.Numeral value) (no_feed is_digit refl b parts.0) (no_feeds is_digit refl bs parts.1)
    (numeral_is b bs rest h e ∙ ap (λ o. with_value o (length bs)) stated)

pub numeral_above : (kept rest : List ℕ) (line : ℕ) → is_numeral kept ≡ true → stops is_digit rest ≡ true → number_of kept ≡ None
    → symbols_from (kept ++ rest) 0 line ≡ Err (BadNumeral line)
numeral_above [] rest line h e is = absurd (cc)
numeral_above (b ∷ bs) rest line h e is = too_great_first b (bs ++ rest) line (numeral_is b bs rest h e ∙ ap (λ o. with_value o (length bs)) is)

pub line_feeds-append : (xs ys : List ℕ) → line_feeds (xs ++ ys) ≡ line_feeds xs + line_feeds ys
line_feeds-append [] ys = omega arith
line_feeds-append (x ∷ xs) ys = omega (arith, line_feeds-append xs ys)

-- what is behind a list
at_seam : (xs ys : List ℕ) → get_or (xs ++ ys) (length xs) 0 ≡ get_or ys 0 0
at_seam [] ys = refl
at_seam (x ∷ xs) ys = at_seam xs ys

other_way : (a b : ℕ) → eqb a b ≡ false → eqb b a ≡ false
other_way a b h = grind (arith, nat_tests)

-- bytes of strings are no apostrophes
no_apostrophe : (b : ℕ) → is_string_byte b ≡ true → eqb 39 b ≡ false
no_apostrophe b h = grind (arith, nat_tests)

-- a string of these characters, and what is behind them
string_is : (k : ℕ) (ks rest : List ℕ) → list_all is_string_byte (k ∷ ks) ≡ true → stops is_string_byte rest ≡ true
    → string_piece ((k ∷ ks) ++ rest) ≡ cond (eqb (slice_index rest 0) 39) (stands (is.Chars (k ∷ ks)) (length (k ∷ ks) + 1)) stray
string_is k ks rest h e =
    let first : eqb 39 k ≡ false = no_apostrophe k (both (is_string_byte k) (list_all is_string_byte ks) h).0 in
    let long : prefix_len is_string_byte ((k ∷ ks) ++ rest) ≡ length (k ∷ ks) = run_len is_string_byte (k ∷ ks) rest h e in
    let some : ltb 0 (length (k ∷ ks)) ≡ true = grind (arith, nat_tests) in
    rw first (
    ap (λ n. cond (ltb 0 n && eqb (get_or ((k ∷ ks) ++ rest) n 0) 39) (stands (is.Chars (take n ((k ∷ ks) ++ rest))) (n + 1)) stray) long
    ∙ ap (λ t. cond (t && eqb (get_or ((k ∷ ks) ++ rest) (length (k ∷ ks)) 0) 39)
    (stands (is.Chars (take (length (k ∷ ks)) ((k ∷ ks) ++ rest))) (length (k ∷ ks) + 1)) stray) some
    ∙ ap (λ t. cond (eqb t 39) (stands (is.Chars (take (length (k ∷ ks)) ((k ∷ ks) ++ rest))) (length (k ∷ ks) + 1)) stray) (at_seam (k ∷ ks) rest)
    ∙ ap (λ t. cond (eqb (get_or rest 0 0) 39) (stands (is.Chars t) (length (k ∷ ks) + 1)) stray) (take-append_seam (k ∷ ks) rest))

pub string_first : (k : ℕ) (ks rest : List ℕ) (line : ℕ) → list_all is_string_byte (k ∷ ks) ≡ true
    → symbols_from (39 ∷ ((k ∷ ks) ++ 39 ∷ rest)) 0 line ≡ marked (is.Chars (k ∷ ks)) line (symbols_from rest 0 line)
unfolding piece_of
string_first k ks rest line h =
    let regrouped : ((k ∷ ks) ++ 39 ∷ []) ++ rest ≡ (k ∷ ks) ++ 39 ∷ rest = append_assoc (k ∷ ks) (39 ∷ []) rest in
    let none : line_feeds ((k ∷ ks) ++ 39 ∷ []) ≡ 0 = line_feeds-append (k ∷ ks) (39 ∷ []) ∙ omega (arith, no_feeds is_string_byte refl (k ∷ ks) h) in
    ap (λ t. symbols_from (39 ∷ t) 0 line) (sym regrouped)
    ∙ symbol_first 39 ((k ∷ ks) ++ 39 ∷ []) rest line (is.Chars (k ∷ ks)) refl none
    (ap (piece_of 39) regrouped ∙ string_is k ks (39 ∷ rest) h refl ∙ ap (stands (is.Chars (k ∷ ks))) (sym (length-append (k ∷ ks) (39 ∷ []))))

-- a string that is not ended by an apostrophe
pub string_stray : (ks rest : List ℕ) (line : ℕ) → list_all is_string_byte ks ≡ true → stops is_string_byte rest ≡ true → eqb (slice_index rest 0) 39 ≡ false
    → symbols_from (39 ∷ (ks ++ rest)) 0 line ≡ Err (BadCharacter line)
unfolding piece_of
string_stray [] [] line h e other = stray_first 39 [] line refl
string_stray [] (b ∷ rest) line h e other = stray_first 39 (b ∷ rest) line (rw (other_way b 39 other, not_true (is_string_byte b) e) refl)
string_stray (k ∷ ks) rest line h e other = stray_first 39 ((k ∷ ks) ++ rest) line (string_is k ks rest h e ∙ rw other refl)

-- three apostrophes
pub apostrophe_first : (rest : List ℕ) (line : ℕ) → symbols_from (39 ∷ 39 ∷ 39 ∷ rest) 0 line ≡ marked (is.Chars (39 ∷ [])) line (symbols_from rest 0 line)
unfolding piece_of
apostrophe_first rest line = symbol_first 39 (39 ∷ 39 ∷ []) rest line (is.Chars (39 ∷ [])) refl refl refl

-- two apostrophes and something else
pub apostrophe_stray : (rest : List ℕ) (line : ℕ) → eqb (slice_index rest 0) 39 ≡ false → symbols_from (39 ∷ 39 ∷ rest) 0 line ≡ Err (BadCharacter line)
unfolding piece_of
apostrophe_stray [] line other = stray_first 39 (39 ∷ []) line refl
apostrophe_stray (b ∷ rest) line other = stray_first 39 (39 ∷ b ∷ rest) line (rw (other_way b 39 other) refl)

neither : (a b : Bool) → (a || b) ≡ false → (a ≡ false) × (b ≡ false)
neither a b h = (grind (arith, nat_tests), grind (arith, nat_tests))

-- a byte that begins a special symbol begins nothing else
nothing_else : (b : ℕ) → is_special b ≡ true → (is_letter b ≡ false) × (is_digit b ≡ false) × (is_separator b ≡ false) × (eqb b 34 ≡ false) × (eqb b 39 ≡ false)
nothing_else b h =
    let none = not_true _ (both (not (is_letter b || is_digit b || is_separator b || eqb b 34 || eqb b 39)) (is_some (special_of b)) h).0 in
    let e = neither (is_letter b || is_digit b || is_separator b || eqb b 34) (eqb b 39) none in
    let d = neither (is_letter b || is_digit b || is_separator b) (eqb b 34) e.0 in
    let c = neither (is_letter b || is_digit b) (is_separator b) d.0 in
    let a = neither (is_letter b) (is_digit b) c.0 in
    (a.0, a.1, c.1, d.1, e.1)

special_piece_is : (b : ℕ) (rest : List ℕ) → is_special b ≡ true → piece_of b rest ≡ special_piece b rest
unfolding piece_of
special_piece_is b rest h =
    let other = nothing_else b h in rw (other.0, other.1, other.2, other.3, other.4) refl

pub no_separator : (b : ℕ) → is_separator b ≡ false → feeds_at b ≡ 0
no_separator b h = grind (arith, nat_tests)

pub special_feeds : (b : ℕ) → is_special b ≡ true → feeds_at b ≡ 0
special_feeds b h = no_separator b (nothing_else b h).2

-- behind the first byte of a comment
comment_next : (b : ℕ) (rest : List ℕ) (m begun line : ℕ)
    → by_piece (cond (eqb (get_or (b ∷ rest) (1 + m) 0) 34) (space (1 + m + 1)) stray) begun (λ k. symbols_from (b ∷ rest) k line)
    ≡ by_piece (cond (eqb (get_or rest m 0) 34) (space (m + 1)) stray) begun (λ k. symbols_from rest k (line + feeds_at b))
unfolding symbols_from
comment_next b rest m begun line =
    let place : 1 + m ≡ suc m = omega arith in
    let more : 1 + m + 1 ≡ suc (m + 1) = omega arith in
    ap (λ n. by_piece (cond (eqb (get_or (b ∷ rest) n 0) 34) (space (1 + m + 1)) stray) begun (λ k. symbols_from (b ∷ rest) k line)) place
    ∙ ap (λ n. by_piece (cond (eqb (get_or rest m 0) 34) (space n) stray) begun (λ k. symbols_from (b ∷ rest) k line)) more
    ∙ elim (eqb (get_or rest m 0) 34) as (λ t. by_piece (cond t (space (suc (m + 1))) stray) begun (λ k. symbols_from (b ∷ rest) k line)
    ≡ by_piece (cond t (space (m + 1)) stray) begun (λ k. symbols_from rest k (line + feeds_at b))) [ true ↦ refl | false ↦ refl ]

-- a comment up to where it ends or fails
comment_is : (rest : List ℕ) (begun line : ℕ) → by_piece (comment_piece rest) begun (λ k. symbols_from rest k line) ≡ comment_from rest begun line
unfolding symbols_from
comment_is [] begun line = refl
comment_is (b ∷ rest) begun line =
    elim (eqb b 34) as (λ t. eqb b 34 ≡ t → by_piece (comment_piece (b ∷ rest)) begun (λ k. symbols_from (b ∷ rest) k line)
    ≡ cond t (symbols_from rest 0 line) (cond (is_comment_byte b) (comment_from rest begun (line + feeds_at b)) (Err (BadCharacter begun)))) [
      | true ↦ λ h. subst (λ x. by_piece (comment_piece (x ∷ rest)) begun (λ k. symbols_from (x ∷ rest) k line) ≡ symbols_from rest 0 line)
          (sym (same_byte b 34 h))
          (ap (symbols_from rest 0) (omega arith))
      | false ↦ λ h. elim (is_comment_byte b) as (λ p. is_comment_byte b ≡ p → by_piece (comment_piece (b ∷ rest)) begun (λ k. symbols_from (b ∷ rest) k line)
          ≡ cond p (comment_from rest begun (line + feeds_at b)) (Err (BadCharacter begun))) [
            | true ↦ λ p. rw p (comment_next b rest (prefix_len is_comment_byte rest) begun line ∙ comment_is rest begun (line + feeds_at b))
            | false ↦ λ p. rw (p, h) refl
          ] refl
    ] refl

pub comment_first : (rest : List ℕ) (line : ℕ) → symbols_from (34 ∷ rest) 0 line ≡ comment_from rest line line
unfolding symbols_from piece_of
comment_first rest line =
    let same : line + feeds_at 34 ≡ line = omega arith in
    ap (λ n. by_piece (comment_piece rest) line (λ k. symbols_from rest k n)) same ∙ comment_is rest line line

-- a special symbol of one byte
pub special_first : (b : ℕ) (rest : List ℕ) (line : ℕ) (one : Symbol) → is_special b ≡ true → special_of b ≡ Some one → special_with b rest ≡ None
    → symbols_from (b ∷ rest) 0 line ≡ marked one line (symbols_from rest 0 line)
special_first b rest line one h first second =
    symbol_first b [] rest line one (special_feeds b h) refl
    (special_piece_is b rest h ∙ ap (λ o. longer_of o (special_with b rest)) first ∙ ap (longer_of (Some one)) second)

pub pair_feeds : (b c : ℕ) (two : Symbol) → special_pair b c ≡ Some two → feeds_at c ≡ 0
pair_feeds b c two second =
    elim (eqb c 10) as (λ t. eqb c 10 ≡ t → ◌≡◌ {A = ℕ} (cond t 1 0) 0) [
      | true ↦ λ h. let none : special_pair b 10 ≡ Some two = subst (λ x. special_pair b x ≡ Some two) (same_byte c 10 h) second in absurd (cc)
      | false ↦ λ h. refl
    ] refl

two_longer : (one : Option Symbol) (two : Symbol) → is_some one ≡ true → longer_of one (Some two) ≡ stands two 1
two_longer None two h = absurd (cc)
two_longer (Some one) two h = refl

-- a special symbol of two bytes
pub pair_first : (b c : ℕ) (rest : List ℕ) (line : ℕ) (two : Symbol) → is_special b ≡ true → special_pair b c ≡ Some two
    → symbols_from (b ∷ c ∷ rest) 0 line ≡ marked two line (symbols_from rest 0 line)
pair_first b c rest line two h second =
    let parts = both (not (is_letter b || is_digit b || is_separator b || eqb b 34 || eqb b 39)) (is_some (special_of b)) h in
    symbol_first b (c ∷ []) rest line two (special_feeds b h) (omega (arith, pair_feeds b c two second))
    (special_piece_is b (c ∷ rest) h ∙ ap (longer_of (special_of b)) second ∙ two_longer (special_of b) two parts.1)
