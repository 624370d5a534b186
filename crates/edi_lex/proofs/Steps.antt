-- One byte more: the cutter goes on as the text does, and keeps its marks sound.
use Rattle.std.proofs.Common.{◌≡◌, ℕ, ◌+◌, ◌<◌, ◌≤◌, Bool, true, false, not, ◌||◌, cond, eqb, List, [], ◌∷◌, ◌++◌, length, Result, Ok, Err, None, Some, refl}
use Rattle.std.proofs.Common.{sym, ap, ◌∙◌, subst, arith, append_assoc, length-append}
use Rattle.std.specs.Prelude.{is_some}
use Rattle.std.specs.List.{list_all}
use Rattle.std.proofs.lemmas.List.{append-nil}
use Rattle.std.proofs.lemmas.List.Folds.{list_all-append}
use Rattle.edi_lex.specs.Bytes.{is_separator, is_letter, is_digit, is_name_byte, is_string_byte, is_comment_byte, feeds_at}
use Rattle.edi_lex.specs.Specials.{special_of, special_pair, special_with}
use Rattle.edi_lex.specs.Spelling.{number_of, word_or_name}
use Rattle.edi_lex.specs.Spelled.{is_name, is_numeral, is_spelled, are_spelled}
use Rattle.edi_lex.specs.Order.{is_orderly, size_of, extent}
use Rattle.edi_lex.specs.Symbols.{with_front, longer_of, piece_of, symbols_from}
use Rattle.edi_lex.specs.Effects.{special_turn, first_effect, pair_turn}
use Rattle.edi_lex.specs.Sound.{is_empty, is_special, is_begun, pending, IsSound}
use Rattle.edi_lex.specs.Machine.{after_effect, symbol_or, numeral_of, at_end, after_first, after_next, after_byte}
use Rattle.edi_lex.specs.Reading.{comment_from, rest_of, goes_on}
use Rattle.edi_lex.specs.declared.symbol.Symbol.{Symbol}
use Rattle.edi_lex.specs.declared.symbol.Symbol.TheVariants as is
use Rattle.edi_lex.specs.declared.symbol.Mark.{Mark}
use Rattle.edi_lex.specs.declared.fault.LexFault.{LexFault}
use Rattle.edi_lex.specs.declared.fault.LexFault.TheVariants.{BadCharacter, BadNumeral}
use Rattle.edi_lex.specs.declared.effect.Unfinished.{Unfinished}
use Rattle.edi_lex.specs.declared.effect.Unfinished.TheVariants.{Nothing, Comment, Name, Numeral, Chars, Apostrophes, Special}
use Rattle.edi_lex.specs.declared.effect.Effect.{Effect}
use Rattle.edi_lex.specs.declared.effect.Effect.TheVariants.{Passes, Fails}
use Rattle.edi_lex.specs.declared.cutter.Cutter.{Cutter}
use Rattle.edi_lex.proofs.Runs.{Answer, marked, both, same_byte, no_feed, no_separator, stray_first, space_first, name_first, numeral_first, numeral_above}
use Rattle.edi_lex.proofs.Runs.{string_first, string_stray, apostrophe_first, apostrophe_stray, comment_first, special_first, pair_feeds, pair_first}
use Rattle.edi_lex.proofs.Numbers.{number_spelled}
use Rattle.edi_lex.proofs.Keeping.{is_orderly-grows, is_orderly-push, are_spelled-push, extent-push, is_fixed, word_or_name_fixed, special_fixed, pair_fixed}

-- The cutter has this of the text: marks, an unfinished piece and what is kept of it.
abbrev cut : List Mark → Unfinished → List ℕ → Cutter
cut marks unfinished kept = record { marks = marks; unfinished = unfinished; kept = kept }

abbrev mark : Symbol → ℕ → Mark
mark symbol line = record { symbol = symbol; line = line }

abbrev pub IsLexical : LexFault → Type 0
IsLexical (BadCharacter line) = Unit {0}
IsLexical (BadNumeral line) = Unit {0}
IsLexical _ = ⊥

-- The answer known before is that of what the cutter has now, on this line of a text of so many bytes, and the rest.
abbrev pub Leads : Answer → ℕ → ℕ → List ℕ → Result Cutter LexFault → Type 0
Leads known line bytes rest (Ok c) = (known ≡ goes_on c line rest) × IsSound c line bytes
Leads known line bytes rest (Err fault) = (known ≡ Err fault) × IsLexical fault

Leads-along : (known stated : Answer) (line bytes : ℕ) (rest : List ℕ) (r : Result Cutter LexFault) → known ≡ stated → Leads stated line bytes rest r
    → Leads known line bytes rest r
Leads-along known stated line bytes rest (Ok c) e h = (e ∙ h.0, h.1)
Leads-along known stated line bytes rest (Err fault) e h = (e ∙ h.0, h.1)

with_front-push : (marks : List Mark) (m : Mark) (r : Answer) → with_front marks (with_front (m ∷ []) r) ≡ with_front (marks ++ m ∷ []) r
with_front-push marks m (Ok rest) = ap (λ all. Ok (all, rest.1)) (sym (append_assoc marks (m ∷ []) rest.0))
with_front-push marks m (Err fault) = refl

fixed_spelled : (s : Symbol) → is_fixed (Some s) ≡ true → is_spelled s ≡ true
fixed_spelled s h = (both (is_spelled s) (eqb (size_of s) 1) h).0

fixed_size : (s : Symbol) → is_fixed (Some s) ≡ true → size_of s ≡ 1
fixed_size s h = same_byte (size_of s) 1 (both (is_spelled s) (eqb (size_of s) 1) h).1

-- whichever way a test goes
by_test : (P : Effect → Type 0) (t : Bool) (x y : Effect) → (t ≡ true → P x) → (t ≡ false → P y) → P (cond t x y)
by_test P true x y h k = h refl
by_test P false x y h k = k refl

-- marks that are sound on a line
module _ (marks : List Mark) (line : ℕ) (spelled : are_spelled marks ≡ true) (orderly : is_orderly 1 marks line ≡ true) where
  -- the piece goes on, or another begins
  reaches : (u : Unfinished) (kept : List ℕ) (known : Answer) (now bytes : ℕ) (rest : List ℕ) → line ≤ now → known ≡ rest_of u kept now rest
      → is_begun u kept ≡ true
      → extent marks + pending u kept ≤ bytes → Leads (with_front marks known) now bytes rest (Ok (cut marks u kept))
  reaches u kept known now bytes rest up stated begun few =
      (ap (with_front marks) stated, record { spelled = spelled; orderly = is_orderly-grows 1 marks line now orderly up; begun = begun; few = few })

  -- a byte more of a piece of which each byte is kept
  stays : (u : Unfinished) (kept : List ℕ) (b bytes : ℕ) (rest : List ℕ) → line ≡ line + feeds_at b
      → rest_of u (kept ++ b ∷ []) (line + feeds_at b) rest ≡ symbols_from ((kept ++ b ∷ []) ++ rest) 0 (line + feeds_at b)
      → is_begun u (kept ++ b ∷ []) ≡ true → extent marks + pending u (kept ++ b ∷ []) ≤ bytes
      → Leads (with_front marks (symbols_from (kept ++ b ∷ rest) 0 line)) (line + feeds_at b) bytes rest (Ok (cut marks u (kept ++ b ∷ [])))
  stays u kept b bytes rest same whole begun few = reaches u (kept ++ b ∷ []) (symbols_from (kept ++ b ∷ rest) 0 line) (line + feeds_at b) bytes rest
      (omega arith)
      (ap (λ t. symbols_from t 0 line) (sym (append_assoc kept (b ∷ []) rest)) ∙ (ap (symbols_from ((kept ++ b ∷ []) ++ rest) 0) same ∙ sym whole))
      begun few

  -- a symbol has ended
  adds : (s : Symbol) (known : Answer) (now bytes : ℕ) (rest : List ℕ) → now ≡ line → known ≡ marked s line (symbols_from rest 0 line) → is_spelled s ≡ true
      → extent marks + size_of s ≤ bytes → Leads (with_front marks known) now bytes rest (Ok (cut (marks ++ mark s line ∷ []) Nothing []))
  adds s known now bytes rest same stated one few = (
    ap (with_front marks) stated ∙ with_front-push marks (mark s line) (symbols_from rest 0 line)
        ∙ ap (λ n. with_front (marks ++ mark s line ∷ []) (symbols_from rest 0 n)) (sym same),
    record {
      spelled = are_spelled-push marks (mark s line) spelled one;
      orderly = is_orderly-grows 1 (marks ++ mark s line ∷ []) line now (is_orderly-push 1 marks (mark s line) orderly) (omega arith);
      begun = refl;
      few = omega (arith, extent-push marks (mark s line));
    },
  )

  -- the first byte of a piece
  first_leads : (b bytes : ℕ) (rest : List ℕ) → extent marks < bytes
      → Leads (with_front marks (symbols_from (b ∷ rest) 0 line)) (line + feeds_at b) bytes rest
      (after_effect (cut marks Nothing []) (first_effect b line) b line)
  unfolding piece_of
  first_leads b bytes rest few =
      let P : Effect → Type 0 = λ effect. Leads (with_front marks (symbols_from (b ∷ rest) 0 line)) (line + feeds_at b) bytes rest
      (after_effect (cut marks Nothing []) effect b line) in
      let here = symbols_from (b ∷ rest) 0 line in
      let now = line + feeds_at b in
      let up : line ≤ line + feeds_at b = omega arith in
      by_test P (is_letter b) _ _ (λ l. reaches Name (b ∷ []) here now bytes rest up
      (ap (symbols_from (b ∷ rest) 0) (omega (arith, no_feed is_letter refl b l))) (rw l refl) (omega arith)) (λ l.
      by_test P (is_digit b) _ _ (λ d. reaches Numeral (b ∷ []) here now bytes rest up
      (ap (symbols_from (b ∷ rest) 0) (omega (arith, no_feed is_digit refl b d))) (rw d refl) (omega arith)) (λ d.
      by_test P (is_separator b) _ _ (λ s. reaches Nothing [] here now bytes rest up (space_first b rest line (rw (l, d, s) refl)) refl (omega arith)) (λ s.
      let same : line ≡ line + feeds_at b = omega (arith, no_separator b s) in
      by_test P (eqb b 34) _ _ (λ q. reaches (Comment line) [] here now bytes rest up
      (ap (λ x. symbols_from (x ∷ rest) 0 line) (same_byte b 34 q) ∙ comment_first rest line ∙ ap (comment_from rest line) same) refl (omega arith)) (λ q.
      by_test P (eqb b 39) _ _ (λ a. reaches Chars [] here now bytes rest up
      (ap (λ x. symbols_from (x ∷ rest) 0 line) (same_byte b 39 a) ∙ ap (symbols_from (39 ∷ rest) 0) same) refl (omega arith)) (λ a.
      elim (special_of b) as (λ o. special_of b ≡ o → P (special_turn o b line)) [
        | None ↦ λ e. (ap (with_front marks) (stray_first b rest line (rw (l, d, s, q, a) (ap (λ o. longer_of o (special_with b rest)) e))), tt)
        | Some one ↦ λ e. reaches (Special b) [] here now bytes rest up (ap (symbols_from (b ∷ rest) 0) same) (rw (l, d, s, q, a, e) refl) (omega arith)
      ] refl)))))

-- a symbol has ended before this byte, which begins another piece
then_first : (marks : List Mark) (line : ℕ) (spelled : are_spelled marks ≡ true) (orderly : is_orderly 1 marks line ≡ true) (s : Symbol) (known : Answer)
    (b bytes : ℕ) (rest : List ℕ)
    → known ≡ marked s line (symbols_from (b ∷ rest) 0 line) → is_spelled s ≡ true → extent marks + size_of s ≤ bytes
    → Leads (with_front marks known) (line + feeds_at b) (bytes + 1) rest
    (after_effect (cut (marks ++ mark s line ∷ []) Nothing []) (first_effect b line) b line)
then_first marks line spelled orderly s known b bytes rest stated one few =
    let ended = adds marks line spelled orderly s known line bytes (b ∷ rest) refl stated one few in
    Leads-along _ _ _ _ _ (after_effect (cut (marks ++ mark s line ∷ []) Nothing []) (first_effect b line) b line) ended.0
    (first_leads (marks ++ mark s line ∷ []) line ended.1.spelled ended.1.orderly b (bytes + 1) rest (omega (arith, ended.1.few)))

-- one byte more of a run
is_name-push : (kept : List ℕ) (b : ℕ) → is_name kept ≡ true → is_name_byte b ≡ true → is_name (kept ++ b ∷ []) ≡ true
is_name-push [] b h one = absurd (cc)
is_name-push (k ∷ ks) b h one = let parts = both (is_letter k) (list_all is_name_byte ks) h in
    rw (parts.0, list_all-append is_name_byte ks (b ∷ []), parts.1, one) refl

is_numeral-push : (kept : List ℕ) (b : ℕ) → is_numeral kept ≡ true → is_digit b ≡ true → is_numeral (kept ++ b ∷ []) ≡ true
is_numeral-push [] b h one = absurd (cc)
is_numeral-push (k ∷ ks) b h one = let parts = both (is_digit k) (list_all is_digit ks) h in
    rw (parts.0, list_all-append is_digit ks (b ∷ []), parts.1, one) refl

string_spelled : (k : ℕ) (ks : List ℕ) → list_all is_string_byte (k ∷ ks) ≡ true → is_spelled (is.Chars (k ∷ ks)) ≡ true
string_spelled k [] h = rw (both (is_string_byte k) true h).0 refl
string_spelled k (c ∷ ks) h = h

apostrophe_spelled : (k : ℕ) → eqb k 39 ≡ true → is_spelled (is.Chars (k ∷ [])) ≡ true
apostrophe_spelled k h = subst (λ x. is_spelled (is.Chars (x ∷ [])) ≡ true) (sym (same_byte k 39 h)) refl

no_feed_at : (b k : ℕ) → feeds_at k ≡ 0 → eqb b k ≡ true → feeds_at b ≡ 0
no_feed_at b k none h = subst (λ x. feeds_at x ≡ 0) (sym (same_byte b k h)) none

special_some : (a : ℕ) → is_special a ≡ true → is_some (special_of a) ≡ true
special_some a h = (both (not (is_letter a || is_digit a || is_separator a || eqb a 34 || eqb a 39)) (is_some (special_of a)) h).1

-- bytes that end a string or are in one
module _ (marks : List Mark) (kept : List ℕ) (b line bytes : ℕ) (rest : List ℕ) (spelled : are_spelled marks ≡ true) (orderly : is_orderly 1 marks line ≡ true)
    (begun : list_all is_string_byte kept ≡ true) (few : extent marks + length kept ≤ bytes) where
  string_more : is_string_byte b ≡ true → Leads (with_front marks (symbols_from (39 ∷ (kept ++ b ∷ rest)) 0 line)) (line + feeds_at b) (bytes + 1) rest
      (Ok (cut marks Chars (kept ++ b ∷ [])))
  string_more p =
      let same : line ≡ line + feeds_at b = omega (arith, no_feed is_string_byte refl b p) in
      reaches marks line spelled orderly Chars (kept ++ b ∷ []) (symbols_from (39 ∷ (kept ++ b ∷ rest)) 0 line) (line + feeds_at b) (bytes + 1) rest
      (omega arith)
      (ap (λ t. symbols_from (39 ∷ t) 0 line) (sym (append_assoc kept (b ∷ []) rest)) ∙ ap (symbols_from (39 ∷ ((kept ++ b ∷ []) ++ rest)) 0) same)
      (rw (list_all-append is_string_byte kept (b ∷ []), begun, p) refl)
      (omega (arith, length-append kept (b ∷ [])))

  string_fails : is_string_byte b ≡ false → eqb b 39 ≡ false → with_front marks (symbols_from (39 ∷ (kept ++ b ∷ rest)) 0 line) ≡ Err (BadCharacter line)
  string_fails p a = ap (with_front marks) (string_stray kept (b ∷ rest) line begun (rw p refl) a)

-- one byte more behind the unfinished piece
pub next_leads : (marks : List Mark) (u : Unfinished) (kept : List ℕ) (b line bytes : ℕ) (rest : List ℕ) → IsSound (cut marks u kept) line bytes
    → Leads (with_front marks (rest_of u kept line (b ∷ rest))) (line + feeds_at b) (bytes + 1) rest (after_byte (cut marks u kept) b line)
next_leads marks Nothing [] b line bytes rest h = first_leads marks line h.spelled h.orderly b (bytes + 1) rest (omega (arith, h.few))
next_leads marks Nothing (k ∷ ks) b line bytes rest h = absurd (let e : false ≡ true = h.begun in cc)
next_leads marks (Comment begun) kept b line bytes rest h =
    let now = line + feeds_at b in
    elim (eqb b 34) as (λ t. eqb b 34 ≡ t → Leads
    (with_front marks (cond t (symbols_from rest 0 line) (cond (is_comment_byte b) (comment_from rest begun (line + feeds_at b)) (Err (BadCharacter begun)))))
    (line + feeds_at b) (bytes + 1) rest (after_next (cut marks (Comment begun) kept)
    (cond t (Passes Nothing) (cond (is_comment_byte b) (Passes (Comment begun)) (Fails (BadCharacter begun)))) b line)) [
      | true ↦ λ q. let same : line ≡ line + feeds_at b = omega (arith, no_feed_at b 34 refl q) in
          reaches marks line h.spelled h.orderly Nothing kept (symbols_from rest 0 line) now (bytes + 1) rest (omega arith) (ap (symbols_from rest 0) same)
          h.begun (omega (arith, h.few))
      | false ↦ λ q. elim (is_comment_byte b) as
          (λ t. Leads (with_front marks (cond t (comment_from rest begun (line + feeds_at b)) (Err (BadCharacter begun))))
          (line + feeds_at b) (bytes + 1) rest (after_next (cut marks (Comment begun) kept) (cond t (Passes (Comment begun)) (Fails (BadCharacter begun))) b
          line)) [
            | true ↦ reaches marks line h.spelled h.orderly (Comment begun) kept (comment_from rest begun (line + feeds_at b)) now (bytes + 1) rest
                (omega arith) refl h.begun (omega (arith, h.few))
            | false ↦ (refl, tt)
          ]
    ] refl
next_leads marks Name kept b line bytes rest h =
    let here = symbols_from (kept ++ b ∷ rest) 0 line in
    let P : Effect → Type 0 = λ effect. Leads (with_front marks (symbols_from (kept ++ b ∷ rest) 0 line)) (line + feeds_at b) (bytes + 1) rest
    (after_next (cut marks Name kept) effect b line) in
    by_test P (is_name_byte b) _ _ (λ p. stays marks line h.spelled h.orderly Name kept b (bytes + 1) rest (omega (arith, no_feed is_name_byte refl b p)) refl
    (is_name-push kept b h.begun p) (omega (arith, h.few)))
    (λ p.
    let word = word_or_name_fixed kept h.begun in
    then_first marks line h.spelled h.orderly (word_or_name kept) here b bytes rest (name_first kept (b ∷ rest) line h.begun (rw p refl))
    (fixed_spelled (word_or_name kept) word) (omega (arith, h.few, fixed_size (word_or_name kept) word)))
next_leads marks Numeral kept b line bytes rest h =
    let P : Effect → Type 0 = λ effect. Leads (with_front marks (symbols_from (kept ++ b ∷ rest) 0 line)) (line + feeds_at b) (bytes + 1) rest
    (after_next (cut marks Numeral kept) effect b line) in
    by_test P (is_digit b) _ _ (λ p. stays marks line h.spelled h.orderly Numeral kept b (bytes + 1) rest (omega (arith, no_feed is_digit refl b p)) refl
    (is_numeral-push kept b h.begun p) (omega (arith, h.few)))
    (λ p. elim (number_of kept) as (λ o. number_of kept ≡ o → Leads (with_front marks (symbols_from (kept ++ b ∷ rest) 0 line)) (line + feeds_at b)
    (bytes + 1) rest
    (after_first (symbol_or (cut marks Numeral kept) (numeral_of o) (BadNumeral line) line) b line)) [
      | None ↦ λ e. (ap (with_front marks) (numeral_above kept (b ∷ rest) line h.begun (rw p refl) e), tt)
      | Some value ↦ λ e. then_first marks line h.spelled h.orderly (is.Numeral value) (symbols_from (kept ++ b ∷ rest) 0 line) b bytes rest
          (numeral_first kept (b ∷ rest) line value h.begun (rw p refl) e) (number_spelled kept value e) (omega (arith, h.few))
    ] refl)
next_leads marks Chars [] b line bytes rest h =
    let P : Effect → Type 0 = λ effect. Leads (with_front marks (symbols_from (39 ∷ b ∷ rest) 0 line)) (line + feeds_at b) (bytes + 1) rest
    (after_next (cut marks Chars []) effect b line) in
    by_test P (eqb b 39) _ _ (λ a.
    let same : line ≡ line + feeds_at b = omega (arith, no_feed_at b 39 refl a) in
    reaches marks line h.spelled h.orderly Apostrophes (b ∷ []) (symbols_from (39 ∷ b ∷ rest) 0 line) (line + feeds_at b) (bytes + 1) rest (omega arith)
    (ap (λ x. symbols_from (39 ∷ x ∷ rest) 0 line) (same_byte b 39 a) ∙ ap (symbols_from (39 ∷ 39 ∷ rest) 0) same) a (omega (arith, h.few)))
    (λ a. by_test P (is_string_byte b) _ _ (string_more marks [] b line bytes rest h.spelled h.orderly h.begun h.few)
    (λ p. (string_fails marks [] b line bytes rest h.spelled h.orderly h.begun h.few p a, tt)))
next_leads marks Chars (k ∷ ks) b line bytes rest h =
    let P : Effect → Type 0 = λ effect. Leads (with_front marks (symbols_from (39 ∷ ((k ∷ ks) ++ b ∷ rest)) 0 line)) (line + feeds_at b) (bytes + 1) rest
    (after_next (cut marks Chars (k ∷ ks)) effect b line) in
    by_test P (eqb b 39) _ _ (λ a.
    let none : feeds_at b ≡ 0 = no_feed_at b 39 refl a in
    by_test P (eqb (length (k ∷ ks)) 0) _ _ (λ e. absurd (omega (arith, same_byte (length (k ∷ ks)) 0 e))) (λ e.
    adds marks line h.spelled h.orderly (is.Chars (k ∷ ks)) (symbols_from (39 ∷ ((k ∷ ks) ++ b ∷ rest)) 0 line) (line + feeds_at b) (bytes + 1) rest
    (omega (arith, none))
    (ap (λ x. symbols_from (39 ∷ ((k ∷ ks) ++ x ∷ rest)) 0 line) (same_byte b 39 a) ∙ string_first k ks rest line h.begun) (string_spelled k ks h.begun)
    (omega (arith, h.few))))
    (λ a. by_test P (is_string_byte b) _ _ (string_more marks (k ∷ ks) b line bytes rest h.spelled h.orderly h.begun h.few)
    (λ p. (string_fails marks (k ∷ ks) b line bytes rest h.spelled h.orderly h.begun h.few p a, tt)))
next_leads marks Apostrophes [] b line bytes rest h = absurd (let e : false ≡ true = h.begun in cc)
next_leads marks Apostrophes (k ∷ []) b line bytes rest h =
    let P : Effect → Type 0 = λ effect. Leads (with_front marks (symbols_from (39 ∷ 39 ∷ b ∷ rest) 0 line)) (line + feeds_at b) (bytes + 1) rest
    (after_next (cut marks Apostrophes (k ∷ [])) effect b line) in
    by_test P (eqb b 39) _ _ (λ a.
    let none : feeds_at b ≡ 0 = no_feed_at b 39 refl a in
    adds marks line h.spelled h.orderly (is.Chars (k ∷ [])) (symbols_from (39 ∷ 39 ∷ b ∷ rest) 0 line) (line + feeds_at b) (bytes + 1) rest
    (omega (arith, none))
    (ap (λ x. symbols_from (39 ∷ 39 ∷ x ∷ rest) 0 line) (same_byte b 39 a) ∙ apostrophe_first rest line
    ∙ ap (λ x. marked (is.Chars (x ∷ [])) line (symbols_from rest 0 line)) (sym (same_byte k 39 h.begun)))
    (apostrophe_spelled k h.begun) (omega (arith, h.few)))
    (λ a. (ap (with_front marks) (apostrophe_stray (b ∷ rest) line a), tt))
next_leads marks Apostrophes (k ∷ c ∷ ks) b line bytes rest h = absurd (let e : false ≡ true = h.begun in cc)
next_leads marks (Special a) kept b line bytes rest h =
    let sp : is_special a ≡ true = (both (is_empty kept) (is_special a) h.begun).1 in
    let here = symbols_from (a ∷ b ∷ rest) 0 line in
    elim (special_pair a b) as (λ o. special_pair a b ≡ o → Leads (with_front marks (symbols_from (a ∷ b ∷ rest) 0 line)) (line + feeds_at b) (bytes + 1) rest
    (after_next (cut marks (Special a) kept) (pair_turn o) b line)) [
      | Some two ↦ λ e.
          let fixed : is_fixed (Some two) ≡ true = subst (λ o. is_fixed o ≡ true) e (pair_fixed a b) in
          adds marks line h.spelled h.orderly two here (line + feeds_at b) (bytes + 1) rest (omega (arith, pair_feeds a b two e))
          (pair_first a b rest line two sp e) (fixed_spelled two fixed) (omega (arith, h.few, fixed_size two fixed))
      | None ↦ λ e. elim (special_of a) as (λ o. special_of a ≡ o → Leads (with_front marks (symbols_from (a ∷ b ∷ rest) 0 line)) (line + feeds_at b)
          (bytes + 1) rest
          (after_first (symbol_or (cut marks (Special a) kept) o (BadCharacter line) line) b line)) [
            | Some one ↦ λ f.
                let fixed : is_fixed (Some one) ≡ true = subst (λ o. is_fixed o ≡ true) f (special_fixed a) in
                then_first marks line h.spelled h.orderly one here b bytes rest (special_first a (b ∷ rest) line one sp f e) (fixed_spelled one fixed)
                (omega (arith, h.few, fixed_size one fixed))
            | None ↦ λ f. absurd (let e : false ≡ true = ap is_some (sym f) ∙ special_some a sp in cc)
          ] refl
    ] refl

-- The answer known before is that of these symbols, or this fault.
abbrev pub Finishes : Answer → ℕ → ℕ → Result Cutter LexFault → Type 0
Finishes known line bytes (Ok c) = (known ≡ Ok (c.marks, line)) × IsSound c line bytes
Finishes known line bytes (Err fault) = known ≡ Err fault

nothing_left : (marks : List Mark) (kept : List ℕ) (known : Answer) (line bytes : ℕ) → Leads known line bytes [] (Ok (cut marks Nothing kept))
    → Finishes known line bytes (Ok (cut marks Nothing kept))
unfolding symbols_from
nothing_left marks kept known line bytes h = (h.0 ∙ ap (λ all. Ok (all, line)) (append-nil marks), h.1)

-- the end of the text behind the unfinished piece
pub end_finishes : (marks : List Mark) (u : Unfinished) (kept : List ℕ) (line bytes : ℕ) → IsSound (cut marks u kept) line bytes
    → Finishes (with_front marks (rest_of u kept line [])) line bytes (at_end (cut marks u kept) line)
end_finishes marks Nothing kept line bytes h = nothing_left marks kept _ line bytes (refl, h)
end_finishes marks (Comment begun) kept line bytes h = refl
end_finishes marks Name kept line bytes h =
    let word = word_or_name_fixed kept h.begun in
    nothing_left _ _ _ _ _ (adds marks line h.spelled h.orderly (word_or_name kept) (symbols_from (kept ++ []) 0 line) line bytes [] refl
    (name_first kept [] line h.begun refl) (fixed_spelled (word_or_name kept) word) (omega (arith, h.few, fixed_size (word_or_name kept) word)))
end_finishes marks Numeral kept line bytes h =
    elim (number_of kept) as (λ o. number_of kept ≡ o → Finishes (with_front marks (symbols_from (kept ++ []) 0 line)) line bytes
    (symbol_or (cut marks Numeral kept) (numeral_of o) (BadNumeral line) line)) [
      | None ↦ λ e. ap (with_front marks) (numeral_above kept [] line h.begun refl e)
      | Some value ↦ λ e. nothing_left _ _ _ _ _
          (adds marks line h.spelled h.orderly (is.Numeral value) (symbols_from (kept ++ []) 0 line) line bytes [] refl
          (numeral_first kept [] line value h.begun refl e) (number_spelled kept value e) (omega (arith, h.few)))
    ] refl
end_finishes marks Chars kept line bytes h = ap (with_front marks) (string_stray kept [] line h.begun refl refl)
end_finishes marks Apostrophes kept line bytes h = ap (with_front marks) (apostrophe_stray [] line refl)
end_finishes marks (Special a) kept line bytes h =
    let sp : is_special a ≡ true = (both (is_empty kept) (is_special a) h.begun).1 in
    elim (special_of a) as (λ o. special_of a ≡ o → Finishes (with_front marks (symbols_from (a ∷ []) 0 line)) line bytes
    (symbol_or (cut marks (Special a) kept) o (BadCharacter line) line)) [
      | Some one ↦ λ f.
          let fixed : is_fixed (Some one) ≡ true = subst (λ o. is_fixed o ≡ true) f (special_fixed a) in
          nothing_left _ _ _ _ _ (adds marks line h.spelled h.orderly one (symbols_from (a ∷ []) 0 line) line bytes [] refl
          (special_first a [] line one sp f refl) (fixed_spelled one fixed) (omega (arith, h.few, fixed_size one fixed)))
      | None ↦ λ f. absurd (let e : false ≡ true = ap is_some (sym f) ∙ special_some a sp in cc)
    ] refl
